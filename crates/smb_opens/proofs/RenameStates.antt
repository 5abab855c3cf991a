-- A rename through an open: what is refused, and the store that is left.
use Rattle.std.proofs.Common.{◌≡◌, ◌==◌, ◌⊎◌, inl, inr, ℕ, ◌-◌, ◌<◌, ◌≤◌, Bool, true, false, not, ◌&&◌, List, [], ◌∷◌, ◌++◌, length, if◌then◌else◌, Option, None, Some, is_some, refl, sym, ap, subst, arith, ◌∙◌}
use Rattle.std.specs.List.{list_all}
use Rattle.std.specs.Option.{option_map, option_map_or, option_and_then}
use Rattle.smb_refusals.specs.declared.set_info.RenameRefusal.{RenameRefusal}
use Rattle.smb_wire.specs.Paths.{path_spelled, folded_path, is_lawful_component}
use Rattle.smb_tree.specs.Entries.{Entry, is_folder_kind}
use Rattle.smb_tree.specs.Content.{Path, Row, Content, is_same_path, entry_at, numbered}
use Rattle.smb_tree.specs.Faults.{move_fault}
use Rattle.smb_tree.specs.Moves.{moved}
use Rattle.smb_access.specs.declared.found.Target.{Target}
use Rattle.smb_access.specs.declared.open_row.OpenRow.{OpenRow}
use Rattle.smb_entry.specs.declared.rename.RenameLookup.{RenameLookup}
use Rattle.smb_access.specs.declared.view.View.{View}
use Rattle.smb_refusals.specs.Rows.{DecidingRow, first_decided}
use Rattle.smb_opens.specs.Good.{IsKept}
use Rattle.smb_access.specs.Looked.{target_of}
use Rattle.smb_entry.specs.Rename.{path_named}
use Rattle.smb_entry.specs.Parts.{has_open_beneath, is_not_replaced, rename_rows, dated, renamed_tree, path_numbered}
use Rattle.smb_opens.specs.Renames.{rename_refusal, renamed_through}
use Rattle.smb_opens.specs.State.{StoreState}
use Rattle.smb_opens.specs.Views.{open_view}
use Rattle.smb_entry.specs.Ways.{way_between, count_replaced, name_rows, way_rows}
use Rattle.smb_tree.proofs.Lawful.{keeps_kept, kept_twice}
use Rattle.smb_opens.proofs.Carried.{IsMoving, IsEither, kept_moved}
use Rattle.smb_access.proofs.Changes.{Shrinks, keeps_of, good_changed}
use Rattle.smb_opens.proofs.Decided.{rows_by, way_told, MayReplace, passes, told_by, refusal_moved, refusal_found, refusal_named}
use Rattle.smb_entry.proofs.Renaming.{moved_there}
use Rattle.smb_opens.proofs.Shows.{ShownBy, entry_of}
use Rattle.smb_opens.proofs.StoreSettings.{at_shown, kept_changed}
use Rattle.smb_opens.proofs.Through.{marks_kept}
use Rattle.smb_entry.proofs.Under.{path_found}

-- why it is refused, by what an open shows
refusal_by_view : (state : StoreState) (number : ℕ) (view : View) (name : List ℕ) (replace : Bool) → Some view ≡ open_view state number →
    first_decided (rename_rows state.tree.rows state.opens view name replace (path_numbered state.tree.rows view.entry) (path_named name)) ≡ rename_refusal state number name replace
refusal_by_view state number view name replace e = ap (λ (o : Option View). option_and_then (λ view. first_decided (rename_rows state.tree.rows state.opens view name replace (path_numbered state.tree.rows view.entry) (path_named name))) o) e

pub refused_name : (state : StoreState) (number : ℕ) (view : View) (name : List ℕ) (replace : Bool) (told : Option RenameRefusal) → Some view ≡ open_view state number → ((rest : List (DecidingRow RenameRefusal)) → first_decided (name_rows name ++ rest) ≡ told) →
    told ≡ rename_refusal state number name replace
refused_name state number view name replace told e h =
    refusal_named state.tree.rows state.opens view name replace (path_numbered state.tree.rows view.entry) (path_named name) told h ∙ refusal_by_view state number view name replace e

-- what is found, by the rows of the table
pub record IsWay (state : StoreState) (view : View) (way : RenameLookup) (name : List ℕ) (parts : List (List ℕ)) : Type 0 where
  pub found : way ≡ way_between state.tree.rows (path_numbered state.tree.rows view.entry) (folded_path parts)
  pub spelled : parts ≡ path_spelled name
  pub lawful : (rest : List (DecidingRow RenameRefusal)) → first_decided (name_rows name ++ rest) ≡ first_decided rest

-- rows 3 to 11 of this state
abbrev rows_of_state : StoreState → View → Row → List ℕ → Bool → List (DecidingRow RenameRefusal)
rows_of_state state view row name replace =
    rows_by state.tree.rows state.opens view row.0 (path_named name) replace (is_same_path row.0 (path_named name)) (is_some (entry_at state.tree.rows (path_named name))) (is_not_replaced state.opens (entry_at state.tree.rows (path_named name)))

found_rows : (state : StoreState) (number : ℕ) (view : View) (way : RenameLookup) (name : List ℕ) (parts : List (List ℕ)) (replace : Bool) (told : Option RenameRefusal) (opens_count entries_count : ℕ) → (s : ShownBy state number view) → IsWay state view way name parts →
    IsKept state.tree state.opens state.locks state.next opens_count entries_count → told ≡ first_decided (way_rows state.tree.rows state.opens view way replace) →
    told ≡ first_decided (rows_of_state state view s.row name replace)
found_rows state number view way name parts replace told opens_count entries_count s is kept e =
    let at = at_shown state number view s in
    let from : path_numbered state.tree.rows view.entry ≡ s.row.0 = path_found state.tree.rows view.entry s.row at in
    let way_is : way ≡ way_between state.tree.rows s.row.0 (path_named name) = is.found ∙ (λ i. way_between state.tree.rows (from i) (folded_path (is.spelled i))) in
    e ∙ ap (λ (w : RenameLookup). first_decided (way_rows state.tree.rows state.opens view w replace)) way_is
    ∙ ap first_decided (way_told state.tree.rows state.opens view s.row (path_named name) replace kept.good.tree.apart at from)

from_shown : (state : StoreState) (number : ℕ) (view : View) (name : List ℕ) (replace : Bool) → (s : ShownBy state number view) →
    first_decided (rename_rows state.tree.rows state.opens view name replace s.row.0 (path_named name)) ≡ first_decided (rename_rows state.tree.rows state.opens view name replace (path_numbered state.tree.rows view.entry) (path_named name))
from_shown state number view name replace s =
    ap (λ (p : Path). first_decided (rename_rows state.tree.rows state.opens view name replace p (path_named name))) (sym (path_found state.tree.rows view.entry s.row (at_shown state number view s)))

pub refused_way : (state : StoreState) (number : ℕ) (view : View) (way : RenameLookup) (name : List ℕ) (parts : List (List ℕ)) (replace : Bool) (told : Option RenameRefusal) (opens_count entries_count : ℕ) → ShownBy state number view → Some view ≡ open_view state number → IsWay state view way name parts →
    IsKept state.tree state.opens state.locks state.next opens_count entries_count → told ≡ first_decided (way_rows state.tree.rows state.opens view way replace) → (told ≡ None → ⊥) →
    told ≡ rename_refusal state number name replace
refused_way state number view way name parts replace told opens_count entries_count s shows is kept e bad =
    let f = found_rows state number view way name parts replace told opens_count entries_count s is kept e in
    f ∙ sym (refusal_found state.tree state.opens view s.row (path_named name) name replace is.lawful (λ q. bad (f ∙ q)))
    ∙ from_shown state number view name replace s ∙ refusal_by_view state number view name replace shows

-- why a rename that is left to the tree is refused
pub refusal_left : (state : StoreState) (number : ℕ) (view : View) (way : RenameLookup) (name : List ℕ) (parts : List (List ℕ)) (replace : Bool) (told : Option RenameRefusal) (opens_count entries_count : ℕ) → ShownBy state number view → Some view ≡ open_view state number → IsWay state view way name parts →
    IsKept state.tree state.opens state.locks state.next opens_count entries_count → told ≡ first_decided (way_rows state.tree.rows state.opens view way replace) → told ≡ None →
    rename_refusal state number name replace ≡ told_by (move_fault state.tree view.entry (folded_path parts))
refusal_left state number view way name parts replace told opens_count entries_count s shows is kept e fine =
    let f = found_rows state number view way name parts replace told opens_count entries_count s is kept e in
    sym (from_shown state number view name replace s ∙ refusal_by_view state number view name replace shows)
    ∙ refusal_moved state.tree state.opens view s.row (path_named name) name replace kept.good.tree (at_shown state number view s) is.lawful (sym f ∙ fine)
    ∙ ap (λ (ps : List (List ℕ)). told_by (move_fault state.tree view.entry (folded_path ps))) (sym is.spelled)

-- what is known of the move
moving : (state : StoreState) (number : ℕ) (view : View) (way : RenameLookup) (name : List ℕ) (parts : List (List ℕ)) (replace : Bool) (told : Option RenameRefusal) (opens_count entries_count : ℕ) → (s : ShownBy state number view) → IsWay state view way name parts →
    IsKept state.tree state.opens state.locks state.next opens_count entries_count → told ≡ first_decided (way_rows state.tree.rows state.opens view way replace) → told ≡ None → move_fault state.tree view.entry (folded_path parts) ≡ None →
    IsMoving state.tree state.opens view.entry parts s.row × IsEither state.tree state.opens parts s.row
moving state number view way name parts replace told opens_count entries_count s is kept e fine free =
    let f = found_rows state number view way name parts replace told opens_count entries_count s is kept e in
    let p = passes state.tree.rows state.opens view s.row.0 (path_named name) replace (sym f ∙ fine) in (
      record { good = kept.good.tree; found = at_shown state number view s; free = free; unmarked = ap (λ (v : View). v.mark) (sym s.shown) ∙ p.0.unmarked },
      subst (λ (ps : List (List ℕ)). IsEither state.tree state.opens ps s.row) (sym is.spelled) (either p.1),
    )
  where
    either : ((is_same_path s.row.0 (path_named name) ≡ true) ⊎ MayReplace state.tree.rows state.opens view replace s.row.0 (path_named name)) → IsEither state.tree state.opens (path_spelled name) s.row
    either (inl same) = inl same
    either (inr m) = inr (record { closed = ap (λ (v : View). is_folder_kind v.kind && has_open_beneath state.tree.rows state.opens s.row.0) (sym s.shown) ∙ m.closed; pending = m.pending; kept = m.kept })

dates : (moment : ℕ) → Shrinks (dated moment)
dates moment = record { number = λ _. refl; kind = λ _. refl; bytes = λ _. omega arith }

count_by : (o : Option Entry) (n c : ℕ) → c - count_replaced n (option_map target_of o) ≡ (if option_map_or (λ (e : Entry). not (e.number == n)) o false then c - 1 else c)
count_by None n c = omega arith
count_by (Some x) n c = elim (x.number == n) as (λ b. c - (if not b then 1 else 0) ≡ (if not b then c - 1 else c)) [ true ↦ omega arith | false ↦ refl ]

-- a good store is left
pub kept_renamed : (state : StoreState) (number : ℕ) (view : View) (way : RenameLookup) (name : List ℕ) (parts : List (List ℕ)) (replace : Bool) (told : Option RenameRefusal) (opens_count entries_count moment replaced : ℕ) (after : Content) → ShownBy state number view → IsWay state view way name parts →
    IsKept state.tree state.opens state.locks state.next opens_count entries_count → told ≡ first_decided (way_rows state.tree.rows state.opens view way replace) → told ≡ None → move_fault state.tree view.entry (folded_path parts) ≡ None →
    list_all is_lawful_component parts ≡ true → replaced ≡ count_replaced view.entry way.target → after ≡ renamed_tree state.tree view.entry parts moment →
    IsKept after state.opens state.locks state.next opens_count (entries_count - replaced)
kept_renamed state number view way name parts replace told opens_count entries_count moment replaced after s is kept e fine free names count done =
    let m = moving state number view way name parts replace told opens_count entries_count s is kept e fine free in
    let target : way.target ≡ option_map target_of (entry_at state.tree.rows (folded_path parts)) = ap (λ (w : RenameLookup). w.target) is.found in
    let left = ap (λ (r : ℕ). entries_count - r) (count ∙ ap (count_replaced view.entry) target) ∙ count_by (entry_at state.tree.rows (folded_path parts)) view.entry entries_count in
    let before = kept_moved state view.entry parts s.row opens_count entries_count (entries_count - replaced) m.0 m.1 names left kept in
    let there = moved_there state.tree view.entry parts s.row kept.good.tree (at_shown state number view s) free in
    let state2 : StoreState = record { tree = moved state.tree view.entry parts; opens = state.opens; locks = state.locks; next = state.next } in
    kept_changed (dated moment) state2 view.entry opens_count (entries_count - replaced) after done (keeps_of (dated moment) (dates moment)) (keeps_kept (dated moment) (λ _. refl) (λ _. refl) (λ e. kept_twice e.basic.attributes.0))
    (good_changed (dated moment) (moved state.tree view.entry parts) view.entry _ (dates moment) there before.good.tree)
    (marks_kept (dated moment) (moved state.tree view.entry parts).rows view.entry state.opens (λ _. refl) (λ _. refl) before.good.marked) before

-- at least one entry exists where one is replaced
pub enough : (state : StoreState) (number : ℕ) (view : View) (opens_count entries_count replaced : ℕ) (target : Option Target) → ShownBy state number view → IsKept state.tree state.opens state.locks state.next opens_count entries_count → replaced ≡ count_replaced view.entry target → replaced ≤ entries_count
enough state number view opens_count entries_count replaced target s kept count =
    let some = positive state.tree.rows (at_shown state number view s) in
    let counted = kept.entries_counted in
    let few = at_most target in
    omega (arith, count, some, counted, few)
  where
    positive : (rows : List Row) → numbered rows view.entry ≡ Some s.row → 0 < length rows
    positive [] h = cc
    positive (x ∷ rows) h = omega arith

    at_most : (o : Option Target) → count_replaced view.entry o ≤ 1
    at_most None = omega arith
    at_most (Some t) = elim (t.number == view.entry) as (λ b. (if not b then 1 else 0) ≤ 1) [ true ↦ omega arith | false ↦ omega arith ]

-- the store that is left
pub renamed_done : (state : StoreState) (number : ℕ) (view : View) (name : List ℕ) (parts : List (List ℕ)) (moment : ℕ) (after : Content) → ShownBy state number view → parts ≡ path_spelled name → after ≡ renamed_tree state.tree view.entry parts moment →
    record { tree = after; opens = state.opens; locks = state.locks; next = state.next } ≡ renamed_through state number name moment
renamed_done state number view name parts moment after s e done =
    ap (λ (tree : Content). let x : StoreState = record { tree = tree; opens = state.opens; locks = state.locks; next = state.next } in x) (done ∙ (λ i. renamed_tree state.tree (entry_of state number view s i) (e i) moment))
    ∙ sym (ap (λ (o : Option OpenRow). option_map_or (λ (row : OpenRow). let x : StoreState = record state { tree = renamed_tree state.tree row.entry (path_spelled name) moment } in x) o state) s.opened)
