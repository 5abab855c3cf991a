-- What names find, and opens show, after a rename.
use Rattle.std.proofs.Common.{◌≡◌, ◌≢◌, ◌==◌, ◌⊎◌, inl, inr, ℕ, List, [], ◌∷◌, ◌++◌, length, slice_index, Bool, true, false, not, ◌||◌, ◌&&◌, if◌then◌else◌, Option, None, Some, is_some, refl, sym, ap, arith, ◌∙◌}
use Rattle.std.proofs.lemmas.Bool.{eqb-true}
use Rattle.std.proofs.lemmas.Bool.Decides.{nat_tests}
use Rattle.std.specs.Option.{option_map, option_map_or}
use Rattle.smb_wire.specs.Paths.{is_separator, path_spelled, path_fault, folded_path}
use Rattle.smb_wire.specs.declared.nt_status.NtStatus.TheVariants.{Success, FileClosed}
use Rattle.smb_tree.specs.Content.{Path, Row, Content, is_same_path, entry_at, number_at, numbered}
use Rattle.smb_tree.specs.Entries.{Entry, is_folder_kind, last_part}
use Rattle.smb_tree.specs.Faults.{move_fault}
use Rattle.smb_tree.specs.Parts.{would_be_too_deep, moved_row}
use Rattle.smb_tree.specs.Good.{GoodContent}
use Rattle.smb_tree.specs.MoveLaws.{CanMove}
use Rattle.smb_tree.specs.Moves.{is_within, moved}
use Rattle.smb_tree.proofs.Apart.{numbered-from_at, at-from_numbered, number-from_numbered, at-changed, numbered-changed}
use Rattle.smb_tree.proofs.Heads.{within_itself, not_within_not_it, beneath_not_it}
use Rattle.smb_tree.proofs.Kept.{entry_moved, beneath_moved, nothing_left, others_kept, numbers_kept, good_kept}
use Rattle.smb_tree.proofs.Keys.{same_path-eq, same_path-itself, same_path-sym}
use Rattle.smb_access.specs.declared.open_row.OpenRow.{OpenRow}
use Rattle.smb_access.specs.declared.view.View.{View}
use Rattle.smb_access.specs.Found.{is_read_only_file}
use Rattle.smb_access.specs.Opens.{open_of, has_open}
use Rattle.smb_access.specs.Parts.{is_on_entry, view_at, view_through}
use Rattle.smb_refusals.specs.declared.refusal.Refusal.{Refusal}
use Rattle.smb_refusals.specs.declared.set_info.RenameRefusal.{RenameRefusal}
use Rattle.smb_refusals.specs.declared.set_info.RenameRefusal.TheVariants.{NameBeginsWithSeparator, NameIsNoPath, PathTooDeep}
use Rattle.smb_refusals.specs.Rows.{first_status, DecidingRow, first_decided, with_decided_statuses}
use Rattle.smb_refusals.proofs.Fails.{rename_fails}
use Rattle.smb_refusals.proofs.RowLemmas.{decided_unrefused, decided_before}
use Rattle.smb_access.specs.Views.{view_of}
use Rattle.smb_entry.specs.Rename.{path_named}
use Rattle.smb_entry.specs.Parts.{is_not_replaced, rename_rows, dated, renamed_tree, path_numbered}
use Rattle.smb_entry.specs.Ways.{name_rows}
use Rattle.smb_entry.proofs.Looks.{hit}
use Rattle.smb_entry.proofs.Under.{path_found, path_at}
use Rattle.smb_opens.specs.Renames.{renamed_through}
use Rattle.smb_opens.specs.State.{StoreState}
use Rattle.smb_opens.specs.Views.{open_view}
use Rattle.smb_opens.proofs.Decided.{rows_by, MayReplace, passes, pass_row, no_fault, refusal_moved}
use Rattle.smb_name_laws.proofs.LastParts.{last_of}
use Rattle.smb_name_laws.specs.Names.{IsRenamed, ARenameMovesItsEntry, ARenameDeletesWhatItReplaces}

-- what moves
pub record Moves (state : StoreState) (name : List ℕ) (row : OpenRow) (from : Path) (entry : Entry) : Type 0 where
  pub can : CanMove state.tree row.entry (path_spelled name) from entry
  pub number : entry.number ≡ row.entry
  pub good : GoodContent (moved state.tree row.entry (path_spelled name))

-- a rename to another path, or to the same
abbrev IsPassed : StoreState → List ℕ → OpenRow → Path → Entry → Bool → Type 0
IsPassed state name row from entry replace =
    (is_same_path from (path_named name) ≡ true) ⊎ MayReplace state.tree.rows state.opens (view_of row.access entry) replace from (path_named name)

record Passes (state : StoreState) (name : List ℕ) (row : OpenRow) (from : Path) (entry : Entry) (replace : Bool) : Type 0 where
  moves : Moves state name row from entry
  passed : IsPassed state name row from entry replace

passing : (state : StoreState) (number : ℕ) (name : List ℕ) (row : OpenRow) (from : Path) (entry : Entry) → (renamed : IsRenamed state number name row from entry) → Passes state name row from entry renamed.replace
passing state number name row from entry renamed =
    let good = renamed.good.tree in
    let rows : List Row = state.tree.rows in
    let view : View = view_of row.access entry in
    let same : entry.number ≡ row.entry = number-from_numbered rows (from, entry) row.entry renamed.found in
    let shown : open_view state number ≡ Some view = ap (view_through rows) renamed.opened ∙ ap (option_map (λ (r : Row). view_of row.access r.1)) renamed.found in
    let found : numbered rows view.entry ≡ Some (from, entry) = ap (numbered rows) same ∙ renamed.found in
    let path : path_numbered rows view.entry ≡ from = path_found rows view.entry (from, entry) found in
    let status : first_status (with_decided_statuses (λ refusal. Refusal.Rename refusal) (rename_rows rows state.opens view name renamed.replace from (path_named name))) ≡ Success =
    sym (ap (λ (o : Option View). option_map_or (λ (v : View). first_status (with_decided_statuses (λ refusal. Refusal.Rename refusal) (rename_rows rows state.opens v name renamed.replace (path_numbered rows v.entry) (path_named name)))) o FileClosed) shown
    ∙ ap (λ (p : Path). first_status (with_decided_statuses (λ refusal. Refusal.Rename refusal) (rename_rows rows state.opens view name renamed.replace p (path_named name)))) path) ∙ renamed.status in
    let refusal : first_decided (rename_rows rows state.opens view name renamed.replace from (path_named name)) ≡ None = decided_unrefused (λ refusal. Refusal.Rename refusal) rename_fails (rename_rows rows state.opens view name renamed.replace from (path_named name)) status in
    let one = pass_row (length name == 0 || is_separator (slice_index name 0)) NameBeginsWithSeparator _ refusal in
    let two = pass_row (is_some (path_fault name)) NameIsNoPath _ one.1 in
    let first = one.0 in
    let second = two.0 in
    let lawful : (rest : List (DecidingRow RenameRefusal)) → first_decided (name_rows name ++ rest) ≡ first_decided rest = λ rest. rw (first, second) refl in
    let front = decided_before (rows_by rows state.opens view from (path_named name) renamed.replace (is_same_path from (path_named name)) (is_some (entry_at rows (path_named name))) (is_not_replaced state.opens (entry_at rows (path_named name)))) ((would_be_too_deep rows from (path_named name), Some PathTooDeep) ∷ []) two.1 in
    let told = refusal_moved state.tree state.opens view (from, entry) (path_named name) name renamed.replace good found lawful front in
    let free : move_fault state.tree view.entry (path_named name) ≡ None = no_fault (move_fault state.tree view.entry (path_named name)) (sym told ∙ refusal) in
    let here : move_fault state.tree row.entry (folded_path (path_spelled name)) ≡ None = ap (λ (n : ℕ). move_fault state.tree n (path_named name)) (sym same) ∙ free in
    record {
      moves = record {
        can = record { good = good; found = renamed.found; free = here };
        number = same;
        good = good_kept state.tree row.entry (path_spelled name) good here;
      };
      passed = (passes rows state.opens view from (path_named name) renamed.replace front).1;
    }

moves : (state : StoreState) (number : ℕ) (name : List ℕ) (row : OpenRow) (from : Path) (entry : Entry) → IsRenamed state number name row from entry → Moves state name row from entry
moves state number name row from entry renamed = (passing state number name row from entry renamed).moves

through : (state : StoreState) (number : ℕ) (name : List ℕ) (moment : ℕ) (row : OpenRow) → open_of state.opens number ≡ Some row → renamed_through state number name moment ≡ record state { tree = renamed_tree state.tree row.entry (path_spelled name) moment }
through state number name moment row one = ap (λ (o : Option OpenRow). option_map_or (λ (r : OpenRow). let x : StoreState = record state { tree = renamed_tree state.tree r.entry (path_spelled name) moment } in x) o state) one

-- the entry after the move, spelled as the new name is
abbrev after_move : List ℕ → ℕ → Entry → Entry
after_move name moment entry = dated moment (record entry { spelling = last_part (path_spelled name) })

numbered_then : (state : StoreState) (name : List ℕ) (row : OpenRow) (from : Path) (entry : Entry) → Moves state name row from entry →
    numbered (moved state.tree row.entry (path_spelled name)).rows row.entry ≡ Some (path_named name, record entry { spelling = last_part (path_spelled name) })
numbered_then state name row from entry m =
    let there = entry_moved state.tree row.entry (path_spelled name) from entry m.can in
    ap (numbered (moved state.tree row.entry (path_spelled name)).rows) (sym m.number)
    ∙ numbered-from_at (moved state.tree row.entry (path_spelled name)).rows (path_named name) (record entry { spelling = last_part (path_spelled name) }) m.good.apart there

found_then : (state : StoreState) (name : List ℕ) (moment : ℕ) (row : OpenRow) (from : Path) (entry : Entry) → Moves state name row from entry →
    entry_at (renamed_tree state.tree row.entry (path_spelled name) moment).rows (path_named name) ≡ Some (after_move name moment entry)
found_then state name moment row from entry m =
    let itself = same_path-itself (path_named name) in
    at-changed (dated moment) (moved state.tree row.entry (path_spelled name)).rows (path_named name) (path_named name) (record entry { spelling = last_part (path_spelled name) }) row.entry m.good.apart (numbered_then state name row from entry m)
    ∙ rw itself refl

found_now : (state : StoreState) (number : ℕ) (name : List ℕ) (moment : ℕ) (row : OpenRow) (from : Path) (entry : Entry) → IsRenamed state number name row from entry →
    entry_at (renamed_through state number name moment).tree.rows (path_named name) ≡ Some (after_move name moment entry)
found_now state number name moment row from entry renamed =
    ap (λ (s : StoreState). entry_at s.tree.rows (path_named name)) (through state number name moment row renamed.opened)
    ∙ found_then state name moment row from entry (moves state number name row from entry renamed)

old_name : (state : StoreState) (number : ℕ) (name : List ℕ) (moment : ℕ) (row : OpenRow) (from : Path) (entry : Entry) → IsRenamed state number name row from entry → is_same_path from (path_named name) ≡ false →
    entry_at (renamed_through state number name moment).tree.rows from ≡ None
old_name state number name moment row from entry renamed apart =
    let m = moves state number name row from entry renamed in
    let other : is_same_path (path_named name) from ≡ false = same_path-sym (path_named name) from ∙ apart in
    ap (λ (s : StoreState). entry_at s.tree.rows from) (through state number name moment row renamed.opened)
    ∙ at-changed (dated moment) (moved state.tree row.entry (path_spelled name)).rows (path_named name) from (record entry { spelling = last_part (path_spelled name) }) row.entry m.good.apart (numbered_then state name row from entry m)
    ∙ rw other (nothing_left state.tree row.entry (path_spelled name) from entry from m.can apart (within_itself from))

opens_go_on : (state : StoreState) (number : ℕ) (name : List ℕ) (moment : ℕ) (row : OpenRow) (from : Path) (entry : Entry) (other : ℕ) (held : OpenRow) (after : Entry) → IsRenamed state number name row from entry →
    open_of state.opens other ≡ Some held → held.entry ≡ row.entry → entry_at (renamed_through state number name moment).tree.rows (path_named name) ≡ Some after →
    (open_of (renamed_through state number name moment).opens other ≡ Some held) × (open_view (renamed_through state number name moment) other ≡ Some (view_of held.access after))
opens_go_on state number name moment row from entry other held after renamed o own found =
    let m = moves state number name row from entry renamed in
    let done = through state number name moment row renamed.opened in
    let opens : open_of (renamed_through state number name moment).opens other ≡ Some held = ap (λ (s : StoreState). open_of s.opens other) done ∙ o in
    let same : Some (after_move name moment entry) ≡ Some after = sym (found_now state number name moment row from entry renamed) ∙ found in
    let itself : row.entry == row.entry ≡ true = grind (arith, nat_tests) in
    let tree : Content = renamed_tree state.tree row.entry (path_spelled name) moment in
    let there : numbered tree.rows row.entry ≡ Some (path_named name, after_move name moment entry) =
    numbered-changed (dated moment) (moved state.tree row.entry (path_spelled name)).rows row.entry row.entry (λ _. refl)
    ∙ rw itself (ap (option_map (λ (x : Row). let y : Row = (x.0, dated moment x.1) in y)) (numbered_then state name row from entry m)) in
    let view : view_at tree.rows held.entry held.access ≡ Some (view_of held.access (after_move name moment entry)) =
    ap (λ (n : ℕ). view_at tree.rows n held.access) own ∙ ap (option_map (λ (r : Row). view_of held.access r.1)) there in (
      opens,
      ap (λ (s : StoreState). view_through s.tree.rows (open_of s.opens other)) done ∙ ap (view_through tree.rows) o ∙ view ∙ ap (option_map (view_of held.access)) same,
    )

-- other paths
elsewhere : (state : StoreState) (number : ℕ) (name : List ℕ) (moment : ℕ) (row : OpenRow) (from : Path) (entry : Entry) (path : Path) → IsRenamed state number name row from entry → is_same_path (path_named name) path ≡ false →
    entry_at (renamed_through state number name moment).tree.rows path ≡ entry_at (moved state.tree row.entry (path_spelled name)).rows path
elsewhere state number name moment row from entry path renamed apart =
    let m = moves state number name row from entry renamed in
    ap (λ (s : StoreState). entry_at s.tree.rows path) (through state number name moment row renamed.opened)
    ∙ at-changed (dated moment) (moved state.tree row.entry (path_spelled name)).rows (path_named name) path (record entry { spelling = last_part (path_spelled name) }) row.entry m.good.apart (numbered_then state name row from entry m)
    ∙ rw apart refl

beneath : (state : StoreState) (number : ℕ) (name : List ℕ) (moment : ℕ) (row : OpenRow) (from : Path) (entry : Entry) (part : List ℕ) (rest : Path) → IsRenamed state number name row from entry →
    entry_at (renamed_through state number name moment).tree.rows (path_named name ++ part ∷ rest) ≡ entry_at state.tree.rows (from ++ part ∷ rest)
beneath state number name moment row from entry part rest renamed =
    let m = moves state number name row from entry renamed in
    let apart : is_same_path (path_named name) (path_named name ++ part ∷ rest) ≡ false = same_path-sym (path_named name) (path_named name ++ part ∷ rest) ∙ beneath_not_it (path_named name) part rest in
    elsewhere state number name moment row from entry (path_named name ++ part ∷ rest) renamed apart
    ∙ beneath_moved state.tree row.entry (path_spelled name) from entry part rest m.can

others : (state : StoreState) (number : ℕ) (name : List ℕ) (moment : ℕ) (row : OpenRow) (from : Path) (entry : Entry) (path : Path) → IsRenamed state number name row from entry → is_within from path ≡ false → is_within (path_named name) path ≡ false →
    entry_at (renamed_through state number name moment).tree.rows path ≡ entry_at state.tree.rows path
others state number name moment row from entry path renamed h k =
    let m = moves state number name row from entry renamed in
    let apart : is_same_path (path_named name) path ≡ false = same_path-sym (path_named name) path ∙ not_within_not_it (path_named name) path k in
    elsewhere state number name moment row from entry path renamed apart
    ∙ others_kept state.tree row.entry (path_spelled name) from entry path m.can h k

pub moves_entry : ARenameMovesItsEntry
moves_entry state number name moment row from entry renamed =
    let found = found_now state number name moment row from entry renamed in (
      after_move name moment entry,
      found,
      refl,
      refl,
      refl,
      λ apart. old_name state number name moment row from entry renamed apart,
      λ other held opened own. opens_go_on state number name moment row from entry other held (after_move name moment entry) renamed opened own found,
      λ part rest. beneath state number name moment row from entry part rest renamed,
      λ path apart away. others state number name moment row from entry path renamed apart away,
      refl,
      refl,
      refl,
      refl,
      refl,
      refl,
      λ front last spelled some all. last_of name front last spelled some all,
    )

-- an entry that is gone
gone_of : (state : StoreState) (number : ℕ) (name : List ℕ) (moment : ℕ) (row : OpenRow) (from : Path) (entry : Entry) (gone : ℕ) → IsRenamed state number name row from entry → numbered (renamed_through state number name moment).tree.rows gone ≡ None →
    numbered (moved state.tree row.entry (path_spelled name)).rows gone ≡ None
gone_of state number name moment row from entry gone renamed none =
    let tree : Content = moved state.tree row.entry (path_spelled name) in
    undone (gone == row.entry) (numbered tree.rows gone)
    (sym (numbered-changed (dated moment) tree.rows row.entry gone (λ _. refl)) ∙ sym (ap (λ (s : StoreState). numbered s.tree.rows gone) (through state number name moment row renamed.opened)) ∙ none)
  where
    undone : (b : Bool) (o : Option Row) → (if b then option_map (λ (x : Row). let y : Row = (x.0, dated moment x.1) in y) o else o) ≡ None → o ≡ None
    undone b None e = refl
    undone true (Some r) e = absurd (cc)
    undone false (Some r) e = absurd (cc)

record IsReplacing (state : StoreState) (name : List ℕ) (row : OpenRow) (gone : ℕ) : Type 0 where
  named : number_at state.tree.rows (path_named name) ≡ Some gone
  other : (gone == row.entry) ≡ false

replacing : (state : StoreState) (name : List ℕ) (row : OpenRow) (from : Path) (entry : Entry) (gone : ℕ) (old : Row) → Moves state name row from entry → numbered state.tree.rows gone ≡ Some old → numbered (moved state.tree row.entry (path_spelled name)).rows gone ≡ None →
    IsReplacing state name row gone
replacing state name row from entry gone old m h none =
    elim (gone == row.entry) as (λ b. gone == row.entry ≡ b → IsReplacing state name row gone) [
      | true ↦ λ e. absurd (there (λ _. eqb-true gone row.entry e))
      | false ↦ λ e. at_new e (number_at state.tree.rows (path_named name)) refl
    ] refl
  where
    there : (number_at state.tree.rows (path_named name) ≡ Some gone → gone ≡ row.entry) → ⊥
    there own = (
        let kept : numbered (moved state.tree row.entry (path_spelled name)).rows gone ≡ Some (moved_row from (path_spelled name) old) = numbers_kept state.tree row.entry (path_spelled name) from entry gone m.can own ∙ ap (option_map (moved_row from (path_spelled name))) h in
        cc
        )

    at_new : (gone == row.entry) ≡ false → (o : Option ℕ) → number_at state.tree.rows (path_named name) ≡ o → IsReplacing state name row gone
    at_new e None f = absurd (there (λ q. absurd (cc)))
    at_new e (Some k) f =
        elim (k == gone) as (λ b. k == gone ≡ b → IsReplacing state name row gone) [
          | true ↦ λ s. record { named = f ∙ ap (λ (n : ℕ). Some n) (eqb-true k gone s); other = e }
          | false ↦ λ s. absurd (there (λ q. absurd (let same : k ≡ gone = cc in let yes : k == gone ≡ true = grind (arith, nat_tests, same) in cc)))
        ] refl

-- what was replaced was at the new name, a file without an open and not read-only
abbrev IsReplaced : StoreState → List ℕ → Bool → ℕ → Path → Entry → Type 0
IsReplaced state name replace number path entry =
    (path ≡ path_named name) × (is_folder_kind entry.kind ≡ false) × (is_read_only_file (Some entry) ≡ false)
    × ((other : ℕ) (held : OpenRow) → open_of state.opens other ≡ Some held → held.entry ≢ number) × (replace ≡ true)

replaced_by : (state : StoreState) (name : List ℕ) (row : OpenRow) (from : Path) (entry : Entry) (replace : Bool) (gone : ℕ) (path : Path) (old : Entry) → Passes state name row from entry replace → numbered state.tree.rows gone ≡ Some (path, old) → IsReplacing state name row gone →
    IsPassed state name row from entry replace → IsReplaced state name replace gone path old
replaced_by state name row from entry replace gone path old p h r (inl same) =
    absurd (
    let m = p.moves in
    let there : entry_at state.tree.rows from ≡ Some entry = at-from_numbered state.tree.rows from entry row.entry m.can.good.apart m.can.found in
    let own : number_at state.tree.rows (path_named name) ≡ Some entry.number = ap (number_at state.tree.rows) (sym (same_path-eq from (path_named name) same)) ∙ ap (option_map (λ (e : Entry). e.number)) there in
    let numbers : Some gone ≡ Some entry.number = sym r.named ∙ own in
    let is : gone ≡ row.entry = (let k : gone ≡ entry.number = cc in k ∙ m.number) in
    let yes : gone == row.entry ≡ true = grind (arith, nat_tests, is) in
    let no = r.other in
    cc
    )
replaced_by state name row from entry replace gone path old p h r (inr may) =
    let m = p.moves in
    let named : path_named name ≡ path = path_at state.tree.rows (path_named name) gone (path, old) m.can.good.apart h r.named in
    let there : entry_at state.tree.rows (path_named name) ≡ Some old = ap (entry_at state.tree.rows) named ∙ at-from_numbered state.tree.rows path old gone m.can.good.apart h in
    let number : old.number ≡ gone = number-from_numbered state.tree.rows (path, old) gone h in
    let kept : (is_folder_kind old.kind || is_read_only_file (Some old) || has_open state.opens old.number) ≡ false = sym (ap (is_not_replaced state.opens) there) ∙ may.kept in
    let taken : not replace ≡ false = sym (ap (λ (o : Option Entry). is_some o && not replace) there) ∙ may.taken in
    let parts = three (is_folder_kind old.kind) (is_read_only_file (Some old)) (has_open state.opens old.number) kept in (
      sym named,
      parts.0,
      parts.1,
      λ other held o own. (
          let on : held.entry == old.number ≡ true = (let same : held.entry ≡ old.number = own ∙ sym number in grind (arith, nat_tests, same)) in
          let some : has_open state.opens old.number ≡ true = hit (is_on_entry old.number) state.opens other held o on in
          let none = parts.2 in
          cc
          ),
      not_not replace taken,
    )
  where
    three : (a b c : Bool) → (a || b || c) ≡ false → (a ≡ false) × (b ≡ false) × (c ≡ false)
    three a b c e = (grind (arith, e), grind (arith, e), grind (arith, e))

    not_not : (b : Bool) → not b ≡ false → b ≡ true
    not_not true e = refl
    not_not false e = absurd (let f : true ≡ false = e in cc)

pub replaced : ARenameDeletesWhatItReplaces
replaced state number name moment row from entry gone path old renamed h none =
    let p = passing state number name row from entry renamed in
    let r = replacing state name row from entry gone (path, old) p.moves h (gone_of state number name moment row from entry gone renamed none) in
    replaced_by state name row from entry renamed.replace gone path old p h r p.passed
