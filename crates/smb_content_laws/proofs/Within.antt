-- The space used stays within the capacity.
use Rattle.std.proofs.Common.{◌≡◌, ℕ, ◌+◌, ◌≤◌, ◌==◌, ◌&&◌, Bool, true, false, nat_lt, if◌then◌else◌, filter, List, [], ◌∷◌, ◌++◌, length, Option, None, Some, refl, sym, ap, ◌∙◌, subst, arith}
use Rattle.std.proofs.lemmas.Bool.{ltb-false, or_parts}
use Rattle.std.proofs.lemmas.Bool.Decides.{nat_tests}
use Rattle.std.proofs.lemmas.List.Sums.{sum_by-cons}
use Rattle.std.specs.Option.{option_map, option_map_or}
use Rattle.smb_wire.specs.declared.nt_status.NtStatus.TheVariants.{Success, FileClosed}
use Rattle.smb_wire.specs.Dispositions.{overwrites_by}
use Rattle.smb_wire.specs.Paths.{path_spelled, folded_path}
use Rattle.smb_tree.specs.Content.{Row, Content, entry_at, numbered, changed, without, used_space, written, resized, changed_in}
use Rattle.smb_tree.specs.Parts.{removed, with_mark, with_bytes, with_size, without_other, moved_rows}
use Rattle.smb_tree.specs.Entries.{Entry, allocation_size, new_entry, is_folder_kind}
use Rattle.smb_tree.specs.Moves.{moved}
use Rattle.smb_tree.proofs.Apart.{number-from_numbered}
use Rattle.smb_tree.proofs.Spaces.{space_changed, space_more}
use Rattle.smb_locks.specs.Table.{Table, locked, unlocked}
use Rattle.smb_access.specs.declared.open_row.OpenRow.{OpenRow}
use Rattle.smb_access.specs.declared.view.View.{View}
use Rattle.smb_access.specs.Asked.{FileAsked, kind_asked, attributes_asked}
use Rattle.smb_access.specs.Close.{is_deletable}
use Rattle.smb_access.specs.Parts.{is_due, tree_marked, tree_cleared, overwritten_tree, view_through}
use Rattle.smb_access.specs.Effect.{overwritten, tree_after}
use Rattle.smb_access.specs.Opens.{open_of, without_open, open_numbers, is_held_by}
use Rattle.smb_refusals.specs.declared.refusal.Refusal.{Refusal}
use Rattle.smb_refusals.specs.Rows.{first_status, with_statuses}
use Rattle.smb_access.specs.Views.{view_of}
use Rattle.smb_entry.specs.Parts.{keeps_from_writing, has_no_room, write_rows, written_file, written_tree, delete_set, entry_set, leaves_size, size_set, resized_file, has_no_space, size_rows, dated, renamed_tree}
use Rattle.smb_opens.specs.Bytes.{write_status}
use Rattle.smb_opens.specs.Close.{closed}
use Rattle.smb_opens.specs.Parts.{closed_open, closed_each, with_locks_of}
use Rattle.smb_opens.specs.Found.{entry_asked}
use Rattle.smb_opens.specs.SetInfo.{size_status}
use Rattle.smb_opens.specs.State.{StoreState}
use Rattle.smb_opens.specs.Steps.{StoreStep, creates, writes, locks, unlocks, sets_delete, sets_size, sets_basic, renames, sets_scan, closes, closes_all, stepped}
use Rattle.smb_opens.specs.Views.{open_view}
use Rattle.smb_opens.proofs.Passing.{pass_all}
use Rattle.smb_content_laws.specs.Space.{SpaceStaysWithinCapacity}
use Rattle.smb_content_laws.proofs.Spaces.{space_kept, space_renamed}

abbrev space_in : Row → ℕ
space_in row = allocation_size (length row.1.bytes)

-- a tree uses no more than its capacity, and this is another one's
record IsWithin (before after : Content) : Type 0 where
  fits : used_space after.rows ≤ after.capacity
  same : after.capacity ≡ before.capacity

abbrev Fits : Content → Type 0
Fits tree = used_space tree.rows ≤ tree.capacity

-- rows that use no more than those before
fewer : (tree : Content) (rows : List Row) → Fits tree → used_space rows ≤ used_space tree.rows → IsWithin tree (record tree { rows = rows })
fewer tree rows fits less = record { fits = omega (arith, fits, less); same = refl }

kept : (f : Entry → Entry) (tree : Content) (n : ℕ) → Fits tree → ((e : Entry) → (f e).bytes ≡ e.bytes) → IsWithin tree (changed_in f tree n)
kept f tree n fits k = fewer tree (changed f tree.rows n) fits (let same = space_kept f tree.rows n k in omega (arith, same))

-- bytes that are gone, and an entry that is
space_emptied : (f : Entry → Entry) (rows : List Row) (n : ℕ) → ((e : Entry) → (f e).bytes ≡ []) → used_space (changed f rows n) ≤ used_space rows
space_emptied f [] n k = omega arith
space_emptied f (x ∷ rows) n k =
    elim (x.1.number == n) as (λ b. used_space (if b then (x.0, f x.1) ∷ rows else x ∷ changed f rows n) ≤ used_space (x ∷ rows)) [
      | true ↦ (
          let front = sum_by-cons space_in (x.0, f x.1) rows in
          let whole = sum_by-cons space_in x rows in
          let none : allocation_size (length (f x.1).bytes) ≡ 0 = ap (λ (bytes : List ℕ). allocation_size (length bytes)) (k x.1) in
          omega (arith, front, whole, none)
          )
      | false ↦ (
          let front = sum_by-cons space_in x (changed f rows n) in
          let whole = sum_by-cons space_in x rows in
          omega (arith, front, whole, space_emptied f rows n k)
          )
    ]

space_fewer : (rows : List Row) (n : ℕ) → used_space (without rows n) ≤ used_space rows
space_fewer [] n = omega arith
space_fewer (x ∷ rows) n =
    elim (x.1.number == n) as (λ b. used_space (if b then rows else x ∷ without rows n) ≤ used_space (x ∷ rows)) [
      | true ↦ (let whole = sum_by-cons space_in x rows in omega (arith, whole))
      | false ↦ (
          let front = sum_by-cons space_in x (without rows n) in
          let whole = sum_by-cons space_in x rows in
          omega (arith, front, whole, space_fewer rows n)
          )
    ]

-- a CREATE
created_within : (tree : Content) (ask : FileAsked) (moment : ℕ) (found : Option Entry) → Fits tree → IsWithin tree (tree_after tree ask moment found)
created_within tree ask moment None fits =
    let new : Row = (folded_path (path_spelled ask.name), new_entry tree.next (path_spelled ask.name) (kind_asked ask) (attributes_asked (kind_asked ask) ask) moment) in
    let more : used_space (tree.rows ++ new ∷ []) ≡ used_space tree.rows + 0 = space_more tree.rows new in
    record { fits = omega (arith, fits, more); same = refl }
created_within tree ask moment (Some entry) fits =
    elim (overwrites_by ask.disposition) as (λ b. IsWithin tree (if b then overwritten_tree tree ask moment entry.number else tree)) [
      | true ↦ fewer tree (changed (overwritten ask moment) tree.rows entry.number) fits (space_emptied (overwritten ask moment) tree.rows entry.number (λ _. refl))
      | false ↦ record { fits = fits; same = refl }
    ]

-- the row of the entry that a status speaks of
write_room : (state : StoreState) (most number offset : ℕ) (buffer : List ℕ) (held : OpenRow) → open_of state.opens number ≡ Some held → write_status state most number offset buffer ≡ Success → (length buffer == 0) ≡ false →
    (row : Row) × (numbered state.tree.rows held.entry ≡ Some row) × (used_space (with_bytes state.tree held.entry offset buffer).rows ≤ state.tree.capacity)
write_room state most number offset buffer held opened h some =
    at_row (numbered state.tree.rows held.entry) refl
    (sym (ap (λ (o : Option OpenRow). option_map_or (λ view. first_status (with_statuses (λ refusal. Refusal.Write refusal) (write_rows most view (keeps_from_writing state.locks number view offset (length buffer)) offset (length buffer) (has_no_room state.tree view.entry offset buffer)))) (view_through state.tree.rows o) FileClosed) opened) ∙ h)
  where
    at_row : (o : Option Row) → numbered state.tree.rows held.entry ≡ o →
        option_map_or (λ (view : View). first_status (with_statuses (λ refusal. Refusal.Write refusal) (write_rows most view (keeps_from_writing state.locks number view offset (length buffer)) offset (length buffer) (has_no_room state.tree view.entry offset buffer)))) (option_map (λ (row : Row). view_of held.access row.1) o) FileClosed ≡ Success →
        (row : Row) × (numbered state.tree.rows held.entry ≡ Some row) × (used_space (with_bytes state.tree held.entry offset buffer).rows ≤ state.tree.capacity)
    at_row None e s = absurd (let f : FileClosed ≡ Success = s in cc)
    at_row (Some row) e s =
        let view : View = view_of held.access row.1 in
        let rows = pass_all (with_statuses (λ refusal. Refusal.Write refusal) (write_rows most view (keeps_from_writing state.locks number view offset (length buffer)) offset (length buffer) (has_no_room state.tree view.entry offset buffer))) ((λ q. cc), ((λ q. cc), ((λ q. cc), ((λ q. cc), ((λ q. cc), tt))))) s in
        let long : nat_lt 0 (length buffer) ≡ true = grind (arith, nat_tests, some) in
        let room : has_no_room state.tree view.entry offset buffer ≡ false = ap (λ (b : Bool). b && has_no_room state.tree view.entry offset buffer) (sym long) ∙ rows.1.1.1.1.0 in
        let parts = or_parts (nat_lt state.tree.limits.file_bytes (offset + length buffer)) (nat_lt state.tree.capacity (used_space (with_bytes state.tree view.entry offset buffer).rows)) room in
        let own : view.entry ≡ held.entry = number-from_numbered state.tree.rows row held.entry e in
        let fits = ltb-false state.tree.capacity (used_space (with_bytes state.tree view.entry offset buffer).rows) parts.1 in
        (row, e, subst (λ (n : ℕ). used_space (with_bytes state.tree n offset buffer).rows ≤ state.tree.capacity) own fits)

size_room : (state : StoreState) (number size : ℕ) (held : OpenRow) → open_of state.opens number ≡ Some held → size_status state number size ≡ Success →
    (row : Row) × (numbered state.tree.rows held.entry ≡ Some row) × (used_space (with_size state.tree held.entry size).rows ≤ state.tree.capacity)
size_room state number size held opened h =
    at_row (numbered state.tree.rows held.entry) refl
    (sym (ap (λ (o : Option OpenRow). option_map_or (λ view. first_status (with_statuses (λ refusal. Refusal.SetSize refusal) (size_rows view (has_no_space state.tree view.entry size)))) (view_through state.tree.rows o) FileClosed) opened) ∙ h)
  where
    at_row : (o : Option Row) → numbered state.tree.rows held.entry ≡ o →
        option_map_or (λ (view : View). first_status (with_statuses (λ refusal. Refusal.SetSize refusal) (size_rows view (has_no_space state.tree view.entry size)))) (option_map (λ (row : Row). view_of held.access row.1) o) FileClosed ≡ Success →
        (row : Row) × (numbered state.tree.rows held.entry ≡ Some row) × (used_space (with_size state.tree held.entry size).rows ≤ state.tree.capacity)
    at_row None e s = absurd (let f : FileClosed ≡ Success = s in cc)
    at_row (Some row) e s =
        let view : View = view_of held.access row.1 in
        let rows = pass_all (with_statuses (λ refusal. Refusal.SetSize refusal) (size_rows view (has_no_space state.tree view.entry size))) ((λ q. cc), ((λ q. cc), ((λ q. cc), tt))) s in
        let parts = or_parts (nat_lt state.tree.limits.file_bytes size) (nat_lt state.tree.capacity (used_space (with_size state.tree view.entry size).rows)) rows.1.1.0 in
        let own : view.entry ≡ held.entry = number-from_numbered state.tree.rows row held.entry e in
        let fits = ltb-false state.tree.capacity (used_space (with_size state.tree view.entry size).rows) parts.1 in
        (row, e, subst (λ (n : ℕ). used_space (with_size state.tree n size).rows ≤ state.tree.capacity) own fits)

-- two changes that give the same bytes
written_within : (state : StoreState) (most number offset : ℕ) (buffer : List ℕ) (moment : ℕ) (held : OpenRow) → Fits state.tree → open_of state.opens number ≡ Some held → write_status state most number offset buffer ≡ Success →
    IsWithin state.tree (let s : StoreState = if length buffer == 0 then state else record state { tree = written_tree state.tree held.entry offset buffer moment } in s).tree
written_within state most number offset buffer moment held fits opened h = at_length (length buffer == 0) refl
  where
    at_length : (b : Bool) → (length buffer == 0) ≡ b → IsWithin state.tree (let s : StoreState = if b then state else record state { tree = written_tree state.tree held.entry offset buffer moment } in s).tree
    at_length true e = record { fits = fits; same = refl }
    at_length false e =
        let r = write_room state most number offset buffer held opened h e in
        let one = space_changed (written_file offset buffer moment) state.tree.rows held.entry r.0 r.1 in
        let other = space_changed (λ entry. record entry { bytes = written offset buffer entry.bytes }) state.tree.rows held.entry r.0 r.1 in
        let room = r.2 in
        record { fits = omega (arith, one, other, room); same = refl }

sized_within : (state : StoreState) (number size : ℕ) (is_allocation : Bool) (moment : ℕ) (held : OpenRow) → Fits state.tree → open_of state.opens number ≡ Some held → size_status state number size ≡ Success →
    IsWithin state.tree (changed_in (size_set size is_allocation moment) state.tree held.entry)
sized_within state number size is_allocation moment held fits opened h =
    let r = size_room state number size held opened h in
    let one = space_changed (size_set size is_allocation moment) state.tree.rows held.entry r.0 r.1 in
    let other = space_changed (λ entry. record entry { bytes = resized size entry.bytes }) state.tree.rows held.entry r.0 r.1 in
    let room = r.2 in
    record {
      fits = elim (leaves_size (length r.0.1.bytes) size is_allocation) as (λ b. used_space (changed (size_set size is_allocation moment) state.tree.rows held.entry) + allocation_size (length r.0.1.bytes) ≡ used_space state.tree.rows + allocation_size (length (if b then r.0.1 else resized_file size moment r.0.1).bytes) → used_space (changed (size_set size is_allocation moment) state.tree.rows held.entry) ≤ state.tree.capacity) [
        | true ↦ λ same. omega (arith, same, fits)
        | false ↦ λ same. omega (arith, same, other, room)
      ] one;
      same = refl;
    }

-- LOCK and UNLOCK
locks_within : (table : ℕ → Table) (state : StoreState) (view : Option View) → Fits state.tree → IsWithin state.tree (with_locks_of table state view).tree
locks_within table state None fits = record { fits = fits; same = refl }
locks_within table state (Some view) fits =
    elim (is_folder_kind view.kind) as (λ b. IsWithin state.tree (let s : StoreState = if b then state else record state { locks = table view.entry } in s).tree) [
      | true ↦ record { fits = fits; same = refl }
      | false ↦ record { fits = fits; same = refl }
    ]

-- a rename
other_within : (tree : Content) (n : ℕ) (found : Option Entry) → used_space (without_other tree.rows n found) ≤ used_space tree.rows
other_within tree n None = omega arith
other_within tree n (Some entry) =
    elim (entry.number == n) as (λ b. used_space (if b then tree.rows else without tree.rows entry.number) ≤ used_space tree.rows) [
      | true ↦ omega arith
      | false ↦ space_fewer tree.rows entry.number
    ]

moved_within : (tree : Content) (n : ℕ) (parts : List (List ℕ)) (o : Option Row) → used_space (moved_rows tree.rows n parts o) ≤ used_space tree.rows
moved_within tree n parts None = omega arith
moved_within tree n parts (Some row) =
    let left : List Row = without_other tree.rows n (entry_at tree.rows (folded_path parts)) in
    omega (arith, space_renamed row.0 parts left, other_within tree n (entry_at tree.rows (folded_path parts)))

renamed_within : (tree : Content) (n : ℕ) (parts : List (List ℕ)) (moment : ℕ) → Fits tree → IsWithin tree (renamed_tree tree n parts moment)
renamed_within tree n parts moment fits =
    let less = moved_within tree n parts (numbered tree.rows n) in
    let same = space_kept (dated moment) (moved tree n parts).rows n (λ _. refl) in
    fewer tree (changed (dated moment) (moved tree n parts).rows n) fits (omega (arith, less, same))

-- a CLOSE
marked_within : (tree : Content) (n : ℕ) (b : Bool) → Fits tree → IsWithin tree (if b then with_mark tree n true else tree)
marked_within tree n true fits = kept (λ e. record e { mark = true }) tree n fits (λ _. refl)
marked_within tree n false fits = record { fits = fits; same = refl }

cleared_within : (tree : Content) (n : ℕ) (b : Bool) → Fits tree → IsWithin tree (if b then removed tree n else tree)
cleared_within tree n true fits = fewer tree (without tree.rows n) fits (space_fewer tree.rows n)
cleared_within tree n false fits = record { fits = fits; same = refl }

joined : (a b c : Content) → IsWithin a b → IsWithin b c → IsWithin a c
joined a b c first second = record { fits = second.fits; same = second.same ∙ first.same }

open_closed_within : (state : StoreState) (row : OpenRow) → Fits state.tree → IsWithin state.tree (closed_open state row).tree
open_closed_within state row fits =
    let tree : Content = tree_marked state.tree row in
    let left : List OpenRow = without_open row.number state.opens in
    let marked : IsWithin state.tree tree = marked_within state.tree row.entry (row.delete_on_close && is_deletable state.tree.rows row.entry) fits in
    joined state.tree tree (tree_cleared tree left row.entry) marked (cleared_within tree row.entry (is_due tree left row.entry) marked.fits)

closed_within : (state : StoreState) (number : ℕ) → Fits state.tree → IsWithin state.tree (closed state number).tree
closed_within state number fits =
    elim (open_of state.opens number) as (λ o. IsWithin state.tree (option_map_or (closed_open state) o state).tree) [
      | None ↦ record { fits = fits; same = refl }
      | Some row ↦ open_closed_within state row fits
    ]

each_closed_within : (state : StoreState) (numbers : List ℕ) → Fits state.tree → IsWithin state.tree (closed_each state numbers).tree
each_closed_within state [] fits = record { fits = fits; same = refl }
each_closed_within state (number ∷ numbers) fits =
    let first = closed_within state number fits in
    joined state.tree (closed state number).tree (closed_each (closed state number) numbers).tree first (each_closed_within (closed state number) numbers first.fits)

-- what is done through an open, where there is one
through_within : (f : OpenRow → StoreState) (state : StoreState) (o : Option OpenRow) → Fits state.tree → ((row : OpenRow) → o ≡ Some row → IsWithin state.tree (f row).tree) → IsWithin state.tree (option_map_or f o state).tree
through_within f state None fits k = record { fits = fits; same = refl }
through_within f state (Some row) fits k = k row refl

step_within : (most : ℕ) (state : StoreState) (step : StoreStep) → Fits state.tree → ((number offset : ℕ) (buffer : List ℕ) (moment : ℕ) → step ≡ writes number offset buffer moment → write_status state most number offset buffer ≡ Success) →
    ((number size : ℕ) (is_allocation : Bool) (moment : ℕ) → step ≡ sets_size number size is_allocation moment → size_status state number size ≡ Success) → IsWithin state.tree (stepped state step).tree
step_within most state (creates ask moment) fits w s = created_within state.tree ask moment (entry_asked state ask) fits
step_within most state (writes number offset buffer moment) fits w s = through_within _ state (open_of state.opens number) fits (λ row e. written_within state most number offset buffer moment row fits e (w number offset buffer moment refl))
step_within most state (locks number asks) fits w s = locks_within (λ entry. locked state.locks entry number asks) state (open_view state number) fits
step_within most state (unlocks number asks) fits w s = locks_within (λ entry. unlocked state.locks entry number asks) state (open_view state number) fits
step_within most state (sets_delete number is_deleted) fits w s = through_within _ state (open_of state.opens number) fits (λ row e. kept (delete_set is_deleted) state.tree row.entry fits (λ _. refl))
step_within most state (sets_size number size is_allocation moment) fits w s =
    through_within _ state (open_of state.opens number) fits (λ row e. sized_within state number size is_allocation moment row fits e (s number size is_allocation moment refl))
step_within most state (sets_basic number ask moment) fits w s = through_within _ state (open_of state.opens number) fits (λ row e. kept (entry_set ask moment) state.tree row.entry fits (λ _. refl))
step_within most state (renames number name moment) fits w s = through_within _ state (open_of state.opens number) fits (λ row e. renamed_within state.tree row.entry (path_spelled name) moment fits)
step_within most state (sets_scan number scan) fits w s = record { fits = fits; same = refl }
step_within most state (closes number) fits w s = closed_within state number fits
step_within most state (closes_all owner) fits w s = each_closed_within state (open_numbers (filter (is_held_by owner) state.opens)) fits

pub stays_within : SpaceStaysWithinCapacity
stays_within most state step within writing sizing =
    let w = step_within most state step within writing sizing in
    let fits = w.fits in
    let same = w.same in
    (omega (arith, fits, same), same)
