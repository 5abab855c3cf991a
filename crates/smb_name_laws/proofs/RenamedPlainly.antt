-- A rename to a plain name succeeds.
use Rattle.std.proofs.Common.{◌≡◌, ◌⊎◌, inl, inr, ℕ, ◌==◌, ◌≤◌, nat_lt, List, [], ◌∷◌, ◌++◌, length, take, slice_index, Bool, true, false, not, ◌&&◌, ◌||◌, if◌then◌else◌, Option, None, Some, is_some, refl, sym, ap, arith, ◌∙◌, append-nil}
use Rattle.std.proofs.lemmas.Bool.{eqb-true}
use Rattle.std.proofs.lemmas.Bool.Decides.{nat_tests}
use Rattle.std.specs.List.{AllByRecursion, list_any}
use Rattle.std.specs.Option.{option_map, option_map_or}
use Rattle.smb_wire.specs.Limits.{most_components}
use Rattle.smb_wire.specs.Paths.{is_separator, path_fault}
use Rattle.smb_wire.specs.declared.nt_status.NtStatus.TheVariants.{Success, InvalidParameter, ObjectNameInvalid, AccessDenied, DeletePending, ObjectPathNotFound, ObjectNameCollision, FileClosed}
use Rattle.smb_tree.specs.Content.{Path, Row, Content, is_same_path, entry_at, numbered, parent}
use Rattle.smb_tree.specs.Entries.{Entry, is_folder, is_folder_kind}
use Rattle.smb_tree.specs.Good.{GoodContent}
use Rattle.smb_tree.specs.Laws.{AreApart}
use Rattle.smb_tree.specs.Moves.{is_within, replaced}
use Rattle.smb_tree.specs.Parts.{would_be_too_deep}
use Rattle.smb_tree.proofs.Apart.{at-from_numbered, number-from_numbered}
use Rattle.smb_tree.proofs.Heads.{within_or_not, within_rest, not_within_not_it, replaced-within, parent_beneath}
use Rattle.smb_tree.proofs.Keys.{same_path-eq, same_path-of_eq, same_path-itself, same_path-sym}
use Rattle.smb_access.specs.declared.open_row.OpenRow.{OpenRow}
use Rattle.smb_access.specs.declared.view.View.{View}
use Rattle.smb_access.specs.Access.{is_deleting}
use Rattle.smb_access.specs.Found.{is_pending, is_reached, is_read_only_file}
use Rattle.smb_access.specs.Opens.{has_open}
use Rattle.smb_access.specs.Parts.{view_through}
use Rattle.smb_refusals.specs.declared.refusal.Refusal.{Refusal}
use Rattle.smb_refusals.specs.Rows.{StatusRow, first_status, with_decided_statuses}
use Rattle.smb_access.specs.Views.{view_of}
use Rattle.smb_access.proofs.Trees.{at_path, above_at}
use Rattle.smb_entry.specs.Rename.{path_named}
use Rattle.smb_entry.specs.Parts.{is_beneath, is_not_replaced, has_open_beneath, rename_rows, path_numbered}
use Rattle.smb_entry.proofs.Under.{beneath_parts, beneath_front, path_at, path_found}
use Rattle.smb_opens.specs.Good.{GoodStore}
use Rattle.smb_opens.specs.Renames.{rename_status}
use Rattle.smb_opens.specs.State.{StoreState}
use Rattle.smb_opens.specs.Views.{open_view}
use Rattle.smb_name_laws.specs.NewNames.{NamesPlainly, IsFree}
use Rattle.smb_name_laws.specs.RenamesSucceed.{MayRename, MayMoveTo, ARenameSucceeds, ARenameOfCaseSucceeds}
use Rattle.smb_name_laws.proofs.NamedPlainly.{reached, pending, faultless, begun, not_empty, components_are}
use Rattle.smb_name_laws.proofs.NoneHold.{none_holds, none_before, or_off, and_off, and_off_by, first_off, second_off}

-- the status is that of the rows over what the open shows
status_is : (state : StoreState) (number : ℕ) (name : List ℕ) (replace : Bool) (row : OpenRow) (from : Path) (entry : Entry) → MayRename state number row from entry →
    rename_status state number name replace ≡ first_status (with_decided_statuses (λ refusal. Refusal.Rename refusal) (rename_rows state.tree.rows state.opens (view_of row.access entry) name replace from (path_named name)))
status_is state number name replace row from entry may =
    let rows : List Row = state.tree.rows in
    let view : View = view_of row.access entry in
    let same : entry.number ≡ row.entry = number-from_numbered rows (from, entry) row.entry may.found in
    let seen : open_view state number ≡ Some view = ap (view_through rows) may.opened ∙ ap (option_map (λ (r : Row). view_of row.access r.1)) may.found in
    let path : path_numbered rows view.entry ≡ from = path_found rows view.entry (from, entry) (ap (numbered rows) same ∙ may.found) in
    ap (λ (o : Option View). option_map_or (λ (v : View). first_status (with_decided_statuses (λ refusal. Refusal.Rename refusal) (rename_rows rows state.opens v name replace (path_numbered rows v.entry) (path_named name)))) o FileClosed) seen
    ∙ ap (λ (p : Path). first_status (with_decided_statuses (λ refusal. Refusal.Rename refusal) (rename_rows rows state.opens view name replace p (path_named name)))) path

-- the entry is not the root, whose number is 1
not_root : (state : StoreState) (number : ℕ) (row : OpenRow) (from : Path) (entry : Entry) → GoodStore state → MayRename state number row from entry → (entry.number == 1) ≡ false
not_root state number row from entry good may =
    elim (entry.number == 1) as (λ b. entry.number == 1 ≡ b → b ≡ false) [
      | true ↦ λ e. absurd (
          let same : entry.number ≡ row.entry = number-from_numbered state.tree.rows (from, entry) row.entry may.found in
          let one : row.entry ≡ 1 = sym same ∙ eqb-true entry.number 1 e in
          let root : [] ≡ from = path_at state.tree.rows [] row.entry (from, entry) good.tree.apart may.found (good.tree.first ∙ ap (λ (n : ℕ). Some n) (sym one)) in
          may.inside (sym root)
          )
      | false ↦ λ _. refl
    ] refl

-- rows 1 to 6
abbrev first_rows : StoreState → List ℕ → Path → View → List StatusRow
first_rows state name from view =
    (length name == 0 || is_separator (slice_index name 0), InvalidParameter)
    ∷ (is_some (path_fault name), ObjectNameInvalid)
    ∷ (not (is_deleting view.access) || view.entry == 1, AccessDenied)
    ∷ (view.mark, DeletePending)
    ∷ (is_beneath from (path_named name), InvalidParameter)
    ∷ (not (is_reached state.tree.rows (path_named name)), ObjectPathNotFound)
    ∷ []

first_hold : (state : StoreState) (number : ℕ) (name : List ℕ) (row : OpenRow) (from : Path) (entry : Entry) → GoodStore state → MayRename state number row from entry → NamesPlainly state name → is_beneath from (path_named name) ≡ false →
    AllByRecursion (λ row. row.0 ≡ false) (first_rows state name from (view_of row.access entry))
first_hold state number name row from entry good may names outside = (
  or_off (length name == 0) (is_separator (slice_index name 0)) (not_empty state name good names) (begun state name good names),
  (
    faultless state name good names,
    (
      or_off (not (is_deleting row.access)) (entry.number == 1) (ap not may.access) (not_root state number row from entry good may),
      (may.unmarked, (outside, (ap not (reached state name good names), tt))),
    ),
  ),
)

-- nothing is beneath a file
none_in_file : (content : Content) (from : Path) (entry : Entry) (part : List ℕ) (rest : Path) (other : Entry) → GoodContent content → entry_at content.rows from ≡ Some entry → is_folder_kind entry.kind ≡ false → entry_at content.rows (from ++ part ∷ rest) ≡ Some other → ⊥
none_in_file content from entry part rest other good at file inner =
    let around : is_folder (entry_at content.rows (parent (from ++ part ∷ rest))) ≡ true = at_path (λ row. is_folder (entry_at content.rows (parent row.0)) ≡ true) content.rows (from ++ part ∷ rest) other good.parents inner in
    let front : Path = take (length rest) (part ∷ rest) in
    let folder : is_folder (entry_at content.rows (from ++ front)) ≡ true = ap (λ (p : Path). is_folder (entry_at content.rows p)) (sym (parent_beneath from part rest)) ∙ around in
    let here : is_folder (entry_at content.rows from) ≡ true = above_at content good (length front) from front refl folder in
    let kind : is_folder_kind entry.kind ≡ true = ap is_folder (sym at) ∙ here in
    cc

-- what holds of no entry at its path holds of no row
none_at : (p : Row → Bool) (rows : List Row) → AreApart rows → ((path : Path) (entry : Entry) → entry_at rows path ≡ Some entry → p (path, entry) ≡ false) → list_any p rows ≡ false
none_at p [] apart none = refl
none_at p (x ∷ rows) apart none =
    let itself : is_same_path x.0 x.0 ≡ true = same_path-itself x.0 in
    or_off (p x) (list_any p rows) (none x.0 x.1 (rw itself refl)) (none_at p rows apart.2 (λ path entry at. none path entry (behind path entry at)))
  where
    behind : (path : Path) (entry : Entry) → entry_at rows path ≡ Some entry → entry_at (x ∷ rows) path ≡ Some entry
    behind path entry at =
        elim (is_same_path x.0 path) as (λ b. is_same_path x.0 path ≡ b → (if b then Some x.1 else entry_at rows path) ≡ Some entry) [
          | true ↦ λ same. absurd (let away : entry_at rows path ≡ None = ap (entry_at rows) (sym (same_path-eq x.0 path same)) ∙ apart.0 in cc)
          | false ↦ λ _. at
        ] refl

-- where no entry beneath a path has an open, no open is of one
none_opened : (opens : List OpenRow) (rows : List Row) (from : Path) → ((n : ℕ) → is_beneath from (path_numbered rows n) ≡ true → has_open opens n ≡ false) → has_open_beneath rows opens from ≡ false
none_opened [] rows from none = refl
none_opened (x ∷ opens) rows from none =
    or_off (is_beneath from (path_numbered rows x.entry)) (has_open_beneath rows opens from) first
    (none_opened opens rows from (λ n beneath. second_off (x.entry == n) (has_open opens n) (none n beneath)))
  where
    first : is_beneath from (path_numbered rows x.entry) ≡ false
    first =
        elim (is_beneath from (path_numbered rows x.entry)) as (λ b. is_beneath from (path_numbered rows x.entry) ≡ b → b ≡ false) [
          | true ↦ λ beneath. absurd (
              let off : x.entry == x.entry ≡ false = first_off (x.entry == x.entry) (has_open opens x.entry) (none x.entry beneath) in
              let on : x.entry == x.entry ≡ true = grind (arith, nat_tests) in
              cc
              )
          | false ↦ λ _. refl
        ] refl

-- what is left of a path that lies beneath another one
rest_of : (from path : Path) → is_beneath from path ≡ true → (part : List ℕ) × (rest : Path) × (path ≡ from ++ part ∷ rest)
rest_of from path beneath =
    let parts = beneath_parts (is_within from path) (is_same_path from path) beneath in
    let s = within_rest from path parts.0 in
    some s.0 s.1 parts.1
  where
    some : (rest : Path) → path ≡ from ++ rest → is_same_path from path ≡ false → (part : List ℕ) × (rest : Path) × (path ≡ from ++ part ∷ rest)
    some [] e apart = absurd (let same : is_same_path from path ≡ true = same_path-of_eq from path (sym (e ∙ append-nil from)) in cc)
    some (part ∷ rest) e apart = (part, rest, e)

-- rows 8 to 12
abbrev last_rows : StoreState → Path → Path → View → Bool → List StatusRow
last_rows state from to view replace =
    (is_folder_kind view.kind && has_open_beneath state.tree.rows state.opens from, AccessDenied)
    ∷ (is_pending state.tree.rows to, DeletePending)
    ∷ (is_some (entry_at state.tree.rows to) && not replace, ObjectNameCollision)
    ∷ (is_not_replaced state.opens (entry_at state.tree.rows to), AccessDenied)
    ∷ (would_be_too_deep state.tree.rows from to, ObjectNameInvalid)
    ∷ []

-- rows 7 to 12
abbrev later_rows : StoreState → Path → Path → View → Bool → List StatusRow
later_rows state from to view replace = (is_same_path from to, Success) ∷ last_rows state from to view replace

-- at the new path nothing exists, or what is replaced
record IsFreePath (state : StoreState) (to : Path) (replace : Bool) : Type 0 where
  pending : is_pending state.tree.rows to ≡ false
  taken : (is_some (entry_at state.tree.rows to) && not replace) ≡ false
  kept : is_not_replaced state.opens (entry_at state.tree.rows to) ≡ false

free_path : (state : StoreState) (name : List ℕ) (replace : Bool) → GoodStore state → NamesPlainly state name →
    (entry_at state.tree.rows (path_named name) ≡ None) ⊎ ((file : Entry) × (entry_at state.tree.rows (path_named name) ≡ Some file) × IsFree state file × (replace ≡ true)) → IsFreePath state (path_named name) replace
free_path state name replace good names (inl absent) = record {
  pending = pending state name good names None absent refl;
  taken = ap (λ (o : Option Entry). is_some o && not replace) absent;
  kept = ap (is_not_replaced state.opens) absent;
}
free_path state name replace good names (inr there) =
    let file = there.0 in
    let free = there.2 in
    let read_only : is_read_only_file (Some file) ≡ false = and_off_by (not (is_folder_kind file.kind)) _ free.writable in
    record {
      pending = pending state name good names (Some file) there.1 free.unmarked;
      taken = and_off_by (is_some (entry_at state.tree.rows (path_named name))) (not replace) (ap not there.3);
      kept =
          ap (is_not_replaced state.opens) there.1
          ∙ or_off (is_folder_kind file.kind || is_read_only_file (Some file)) (has_open state.opens file.number)
          (or_off (is_folder_kind file.kind) (is_read_only_file (Some file)) free.kind read_only) free.unopened;
    }

module _ (state : StoreState) (name : List ℕ) (replace : Bool) (row : OpenRow) (from : Path) (entry : Entry)
    (good : GoodStore state) (found : numbered state.tree.rows row.entry ≡ Some (from, entry)) (names : NamesPlainly state name)
    (way : MayMoveTo state from entry (path_named name) replace) where
  -- no open is of an entry beneath a folder
  unopened : is_folder_kind entry.kind ≡ true → (n : ℕ) (o : Option Row) → numbered state.tree.rows n ≡ o → is_beneath from (path_numbered state.tree.rows n) ≡ true → has_open state.opens n ≡ false
  unopened folder n None none beneath = absurd (
      let path : path_numbered state.tree.rows n ≡ [] = ap (λ (o : Option Row). option_map_or (λ (r : Row). r.0) o []) none in
      let short = (beneath_front from [] (ap (is_beneath from) (sym path) ∙ beneath)).1 in
      omega (arith, short)
      )
  unopened folder n (Some other) there beneath =
      let path : path_numbered state.tree.rows n ≡ other.0 = path_found state.tree.rows n other there in
      let same : other.1.number ≡ n = number-from_numbered state.tree.rows other n there in
      let at : entry_at state.tree.rows other.0 ≡ Some other.1 = at-from_numbered state.tree.rows other.0 other.1 n good.tree.apart there in
      let rest = rest_of from other.0 (ap (is_beneath from) (sym path) ∙ beneath) in
      ap (has_open state.opens) (sym same)
      ∙ (way.beneath folder rest.0 rest.1 other.1 (ap (entry_at state.tree.rows) (sym rest.2) ∙ at)).0

  shut : (is_folder_kind entry.kind && has_open_beneath state.tree.rows state.opens from) ≡ false
  shut =
      elim (is_folder_kind entry.kind) as (λ b. is_folder_kind entry.kind ≡ b → (b && has_open_beneath state.tree.rows state.opens from) ≡ false) [
        | true ↦ λ folder. none_opened state.opens state.tree.rows from (λ n beneath. unopened folder n (numbered state.tree.rows n) refl beneath)
        | false ↦ λ _. refl
      ] refl

  -- no path gets too long
  fits : (rest : Path) (other : Entry) → entry_at state.tree.rows (from ++ rest) ≡ Some other → length (path_named name ++ rest) ≤ most_components
  fits [] other at =
      let long = ap (λ (p : Path). length p) (append-nil (path_named name)) in
      let parts = components_are state name good names in
      let few = names.few in
      omega (arith, long, parts, few)
  fits (part ∷ rest) other at =
      elim (is_folder_kind entry.kind) as (λ b. is_folder_kind entry.kind ≡ b → length (path_named name ++ part ∷ rest) ≤ most_components) [
        | true ↦ λ folder. (way.beneath folder part rest other at).1
        | false ↦ λ file. absurd (none_in_file state.tree from entry part rest other good.tree (at-from_numbered state.tree.rows from entry row.entry good.tree.apart found) file at)
      ] refl

  short : (path : Path) (other : Entry) → entry_at state.tree.rows path ≡ Some other → (is_within from path && nat_lt most_components (length (replaced from (path_named name) path))) ≡ false
  short path other at =
      elim (within_or_not from path) [
        | inl s ↦ and_off_by (is_within from path) (nat_lt most_components (length (replaced from (path_named name) path))) (
            let few = fits s.0 other (ap (entry_at state.tree.rows) (sym s.1) ∙ at) in
            let same : replaced from (path_named name) path ≡ path_named name ++ s.0 = ap (replaced from (path_named name)) s.1 ∙ replaced-within from (path_named name) s.0 in
            ap (λ (p : Path). nat_lt most_components (length p)) same ∙ grind (arith, nat_tests, few)
            )
        | inr away ↦ and_off (is_within from path) (nat_lt most_components (length (replaced from (path_named name) path))) away
      ]

  shallow : would_be_too_deep state.tree.rows from (path_named name) ≡ false
  shallow = none_at (λ row. is_within from row.0 && nat_lt most_components (length (replaced from (path_named name) row.0))) state.tree.rows good.tree.apart short

  later_hold : AllByRecursion (λ row. row.0 ≡ false) (later_rows state from (path_named name) (view_of row.access entry) replace)
  later_hold =
      let new = free_path state name replace good names way.free in (
        same_path-sym from (path_named name) ∙ not_within_not_it from (path_named name) way.outside,
        (shut, (new.pending, (new.taken, (new.kept, (shallow, tt))))),
      )

pub renames : ARenameSucceeds
renames state number name replace row from entry good may names way =
    let view : View = view_of row.access entry in
    let outside : is_beneath from (path_named name) ≡ false = and_off (is_within from (path_named name)) (not (is_same_path from (path_named name))) way.outside in
    status_is state number name replace row from entry may
    ∙ none_before (first_rows state name from view) (later_rows state from (path_named name) view replace) (first_hold state number name row from entry good may names outside)
    ∙ none_holds (later_rows state from (path_named name) view replace) (later_hold state name replace row from entry good may.found names way)

-- the old path, in letters of another case
same_decides : (same : Bool) (rows : List StatusRow) → same ≡ true → first_status ((same, Success) ∷ rows) ≡ Success
same_decides same rows e = rw e refl

pub respells : ARenameOfCaseSucceeds
respells state number name replace row from entry good may names same =
    let view : View = view_of row.access entry in
    let outside : is_beneath from (path_named name) ≡ false = and_off_by (is_within from (path_named name)) (not (is_same_path from (path_named name))) (ap not same) in
    status_is state number name replace row from entry may
    ∙ none_before (first_rows state name from view) (later_rows state from (path_named name) view replace) (first_hold state number name row from entry good may names outside)
    ∙ same_decides (is_same_path from (path_named name)) (last_rows state from (path_named name) view replace) same
