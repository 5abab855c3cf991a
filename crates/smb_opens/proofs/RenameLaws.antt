-- What a rename leaves.
use Rattle.std.proofs.Common.{◌≡◌, ◌==◌, ℕ, List, Bool, true, false, if◌then◌else◌, Option, None, Some, refl, sym, ap, arith, ◌∙◌}
use Rattle.std.proofs.lemmas.Bool.{eqb-true}
use Rattle.std.proofs.lemmas.Bool.Decides.{nat_tests}
use Rattle.std.specs.Option.{option_map, option_map_or}
use Rattle.smb_wire.specs.Paths.{path_spelled, folded_path}
use Rattle.smb_tree.specs.declared.entry.Kind.{Kind}
use Rattle.smb_tree.specs.Entries.{Entry, last_part}
use Rattle.smb_tree.specs.Content.{Path, Row, Content, is_same_path, entry_at, number_at, numbered, without}
use Rattle.smb_tree.specs.Moves.{moved}
use Rattle.smb_tree.specs.Parts.{moved_row, without_other, moved_rows}
use Rattle.smb_tree.proofs.Apart.{numbered-changed}
use Rattle.smb_tree.proofs.Renamed.{numbered-renamed}
use Rattle.smb_access.specs.declared.open_row.OpenRow.{OpenRow}
use Rattle.smb_opens.specs.Laws.{ARenameKeepsBytes}
use Rattle.smb_access.specs.Opens.{open_of}
use Rattle.smb_entry.specs.Parts.{dated, renamed_tree}
use Rattle.smb_opens.specs.Renames.{renamed_through}
use Rattle.smb_opens.specs.State.{StoreState}
use Rattle.smb_opens.proofs.Once.{AreOnce, once_of_apart, numbered-once}

through : (state : StoreState) (number : ℕ) (name : List ℕ) (moment : ℕ) (row : OpenRow) → open_of state.opens number ≡ Some row → renamed_through state number name moment ≡ record state { tree = renamed_tree state.tree row.entry (path_spelled name) moment }
through state number name moment row one = ap (λ (o : Option OpenRow). option_map_or (λ (r : OpenRow). let x : StoreState = record state { tree = renamed_tree state.tree r.entry (path_spelled name) moment } in x) o state) one

-- an entry's kind and bytes, where it exists
abbrev kind_and_bytes : Option Row → Option (Kind × List ℕ)
kind_and_bytes = option_map (λ row. (row.1.kind, row.1.bytes))

moved_by : (from : Path) (parts : List (List ℕ)) (o : Option Row) → kind_and_bytes (option_map (moved_row from parts) o) ≡ kind_and_bytes o
moved_by from parts None = refl
moved_by from parts (Some row) =
    elim (is_same_path row.0 from) as (λ b. Some (let e : Entry = (if b then record row.1 { spelling = last_part parts } else row.1) in let x : Kind × List ℕ = (e.kind, e.bytes) in x) ≡ Some (let x : Kind × List ℕ = (row.1.kind, row.1.bytes) in x)) [ true ↦ refl | false ↦ refl ]

left_by : (rows : List Row) (m k : ℕ) (o : Option Entry) → AreOnce rows → (option_map (λ (e : Entry). e.number) o ≡ Some k → k ≡ m) → numbered (without_other rows m o) k ≡ numbered rows k
left_by rows m k None a other = refl
left_by rows m k (Some e) a other =
    elim (e.number == m) as (λ b. e.number == m ≡ b → numbered (if b then rows else without rows e.number) k ≡ numbered rows k) [
      | true ↦ λ _. refl
      | false ↦ λ t. (
          let apart : (k == e.number) ≡ false = differs (k == e.number) refl t in
          numbered-once rows e.number k a ∙ rw apart refl
          )
    ] refl
  where
    differs : (b : Bool) → (k == e.number) ≡ b → (e.number == m) ≡ false → b ≡ false
    differs false s t = refl
    differs true s t = absurd (
        let same : k ≡ e.number = eqb-true k e.number s in
        let own : k ≡ m = other (ap (λ (n : ℕ). Some n) (sym same)) in
        let yes : (e.number == m) ≡ true = grind (arith, nat_tests, same, own) in
        cc
        )

dated_by : (moment : ℕ) (b : Bool) (o : Option Row) → kind_and_bytes (if b then option_map (λ (x : Row). let y : Row = (x.0, dated moment x.1) in y) o else o) ≡ kind_and_bytes o
dated_by moment false o = refl
dated_by moment true None = refl
dated_by moment true (Some row) = refl

moved_kept : (tree : Content) (m k : ℕ) (parts : List (List ℕ)) → AreOnce tree.rows → (number_at tree.rows (folded_path parts) ≡ Some k → k ≡ m) → kind_and_bytes (numbered (moved tree m parts).rows k) ≡ kind_and_bytes (numbered tree.rows k)
moved_kept tree m k parts a other =
    elim (numbered tree.rows m) as (λ o. kind_and_bytes (numbered (moved_rows tree.rows m parts o) k) ≡ kind_and_bytes (numbered tree.rows k)) [
      | None ↦ refl
      | Some row ↦ ap kind_and_bytes (numbered-renamed row.0 parts (without_other tree.rows m (entry_at tree.rows (folded_path parts))) k)
          ∙ moved_by row.0 parts (numbered (without_other tree.rows m (entry_at tree.rows (folded_path parts))) k)
          ∙ ap kind_and_bytes (left_by tree.rows m k (entry_at tree.rows (folded_path parts)) a other)
    ]

pub rename_keeps : ARenameKeepsBytes
rename_keeps state number name moment row entry good one other =
    let after = through state number name moment row one in
    ap (λ (s : StoreState). kind_and_bytes (numbered s.tree.rows entry)) after
    ∙ ap kind_and_bytes (numbered-changed (dated moment) (moved state.tree row.entry (path_spelled name)).rows row.entry entry (λ _. refl))
    ∙ dated_by moment (entry == row.entry) (numbered (moved state.tree row.entry (path_spelled name)).rows entry)
    ∙ moved_kept state.tree row.entry entry (path_spelled name) (once_of_apart state.tree.rows good.tree.apart) other
