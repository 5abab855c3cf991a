-- READ and WRITE through an open: what the tree says of the entry that the open shows.
use Rattle.std.proofs.Common.{◌≡◌, ◌==◌, ◌≤◌, ◌+◌, max, ℕ, List, [], length, false, Bool, ◌&&◌, Option, None, Some, is_some, refl, sym, ap, subst, arith, ◌∙◌}
use Rattle.std.proofs.lemmas.Grind.{common_steps}
use Rattle.std.proofs.lemmas.Bool.Decides.{nat_tests}
use Rattle.std.specs.Option.{option_map, option_map_or}
use Rattle.std.specs.Prelude.{Result, Ok, Err, OnOk, OnErr, IfErr, nat_lt, if◌then◌else◌}
use Rattle.smb_refusals.specs.declared.file.WriteRefusal.{WriteRefusal}
use Rattle.smb_refusals.specs.declared.file.WriteRefusal.TheVariants.{NoSpaceLeft}
use Rattle.smb_tree.specs.declared.fault.TreeFault.{TreeFault}
use Rattle.smb_tree.specs.Entries.{Entry, is_folder_kind}
use Rattle.smb_tree.specs.Content.{Row, Content, numbered, changed}
use Rattle.smb_tree.specs.Parts.{bytes_read}
use Rattle.smb_tree.specs.Faults.{size_fault, write_fault}
use Rattle.smb_tree.proofs.Changes.{bytes_found}
use Rattle.smb_locks.specs.Table.{Table}
use Rattle.smb_access.specs.declared.open_row.OpenRow.{OpenRow}
use Rattle.smb_access.specs.declared.view.View.{View}
use Rattle.smb_opens.specs.Bytes.{file_bytes, written_to}
use Rattle.smb_entry.specs.Parts.{keeps_from_writing, write_rows, has_no_room, written_file, written_tree}
use Rattle.smb_refusals.specs.declared.refused_by.RefusedBy.{RefusedBy}
use Rattle.smb_refusals.specs.Refused.{IsRefusedBy}
use Rattle.smb_refusals.specs.Rows.{first_refusal}
use Rattle.smb_tree.proofs.Lawful.{lawful_changed, keeps_kept, kept_twice}
use Rattle.smb_tree.specs.Good.{GoodContent}
use Rattle.smb_opens.specs.Good.{IsKept}
use Rattle.smb_opens.specs.Parts.{AreMarksDue}
use Rattle.smb_opens.specs.State.{StoreState}
use Rattle.smb_access.proofs.Changes.{present_changed, length-changed}
use Rattle.smb_access.proofs.Marks.{deletable_changed, mark_changed}
use Rattle.smb_opens.proofs.Shows.{ShownBy, entry_of}
use Rattle.smb_access.proofs.Trees.{of_number}
use Rattle.smb_entry.proofs.Writes.{writes_keep, good_within, has_room, space_of_bytes}

pub kind_shown : (state : StoreState) (number : ℕ) (view : View) → (s : ShownBy state number view) → is_folder_kind view.kind ≡ false → is_folder_kind s.row.1.kind ≡ false
kind_shown state number view s file = ap (λ (v : View). is_folder_kind v.kind) (sym s.shown) ∙ file

-- the bytes of the entry that is shown are those read through the open
pub bytes_shown : (state : StoreState) (number : ℕ) (view : View) (offset count : ℕ) → ShownBy state number view → bytes_read state.tree.rows view.entry offset count ≡ file_bytes state number offset count
bytes_shown state number view offset count s =
    ap (λ (n : ℕ). bytes_read state.tree.rows n offset count) (entry_of state number view s)
    ∙ sym (ap (λ (o : Option OpenRow). option_map_or (λ (row : OpenRow). bytes_read state.tree.rows row.entry offset count) o []) s.opened)

-- a file that is shown is one in the tree
pub file_shown : (state : StoreState) (number : ℕ) (view : View) → ShownBy state number view → is_folder_kind view.kind ≡ false → option_map (λ row. is_folder_kind row.1.kind) (numbered state.tree.rows view.entry) ≡ Some false
file_shown state number view s file =
    ap (λ (n : ℕ). option_map (λ (row : Row). is_folder_kind row.1.kind) (numbered state.tree.rows n)) (entry_of state number view s)
    ∙ ap (option_map (λ (row : Row). is_folder_kind row.1.kind)) s.at_entry
    ∙ ap (λ (b : Bool). Some b) (kind_shown state number view s file)

-- what is marked has its opens, and can be deleted, after a change that leaves number and mark
pub marks_kept : (f : Entry → Entry) (rows : List Row) (n : ℕ) (opens : List OpenRow) → ((e : Entry) → (f e).number ≡ e.number) → ((e : Entry) → (f e).mark ≡ e.mark) → AreMarksDue rows opens → AreMarksDue (changed f rows n) opens
marks_kept f rows n opens k s h = λ m e.
    let before = h m (sym (mark_changed f rows n m k s) ∙ e) in
    (deletable_changed f rows n m k ∙ before.0, before.1)

-- a store is kept good over a WRITE, whether it is refused or not
pub kept_write : {X E : Type 0} (r : Result X E) (before after : Content) (opens : List OpenRow) (locks : Table) (next opens_count entries_count n offset : ℕ) (buffer : List ℕ) (moment : ℕ) (row : Row) →
    numbered before.rows n ≡ Some row → is_folder_kind row.1.kind ≡ false → OnOk r (after ≡ written_tree before n offset buffer moment) → OnOk r (write_fault before n offset (length buffer) ≡ None) → OnErr r (after ≡ before) →
    IsKept before opens locks next opens_count entries_count → IsKept after opens locks next opens_count entries_count
kept_write (Ok x) before after opens locks next opens_count entries_count n offset buffer moment row h file ok free err kept =
    let room = has_room before n offset buffer moment row h free in
    let keeps = writes_keep offset buffer moment in
    subst (λ (tree : Content). IsKept tree opens locks next opens_count entries_count) (sym ok) (record {
      good = record {
        tree = good_within (written_file offset buffer moment) before n row keeps h file room.small room.fits kept.good.tree;
        lawful = lawful_changed (written_file offset buffer moment) before.rows n (keeps_kept (written_file offset buffer moment) (λ _. refl) (λ _. refl) (λ e. kept_twice e.basic.attributes.0)) kept.good.lawful;
        present = present_changed (written_file offset buffer moment) before.rows n opens keeps kept.good.present;
        rising = kept.good.rising;
        below = kept.good.below;
        few = kept.good.few;
        masked = kept.good.masked;
        compatible = kept.good.compatible;
        marked = marks_kept (written_file offset buffer moment) before.rows n opens (λ _. refl) (λ _. refl) kept.good.marked;
        locked = kept.good.locked;
        few_locks = kept.good.few_locks;
        held = kept.good.held;
      };
      opens_counted = kept.opens_counted;
      entries_counted = kept.entries_counted ∙ sym (length-changed (written_file offset buffer moment) before.rows n);
    })
kept_write (Err e) before after opens locks next opens_count entries_count n offset buffer moment row h file ok free err kept =
    subst (λ (tree : Content). IsKept tree opens locks next opens_count entries_count) (sym err) kept

pub kept_shown : {X E : Type 0} (r : Result X E) (state : StoreState) (after : Content) (opens_count entries_count number offset : ℕ) (buffer : List ℕ) (moment : ℕ) (view : View) →
    ShownBy state number view → is_folder_kind view.kind ≡ false → OnOk r (after ≡ written_tree state.tree view.entry offset buffer moment) → OnOk r (write_fault state.tree view.entry offset (length buffer) ≡ None) → OnErr r (after ≡ state.tree) →
    IsKept state.tree state.opens state.locks state.next opens_count entries_count → IsKept after state.opens state.locks state.next opens_count entries_count
kept_shown r state after opens_count entries_count number offset buffer moment view s file ok free err kept =
    let at : numbered state.tree.rows view.entry ≡ Some s.row = ap (numbered state.tree.rows) (entry_of state number view s) ∙ s.at_entry in
    kept_write r state.tree after state.opens state.locks state.next opens_count entries_count view.entry offset buffer moment s.row at (kind_shown state number view s file) ok free err kept

-- what is left is the store written
pub stored : {X E : Type 0} (r : Result X E) (state : StoreState) (after : Content) (number offset : ℕ) (buffer : List ℕ) (moment : ℕ) (view : View) →
    ShownBy state number view → (length buffer == 0) ≡ false → OnOk r (after ≡ written_tree state.tree view.entry offset buffer moment) →
    OnOk r (record { tree = after; opens = state.opens; locks = state.locks; next = state.next } ≡ written_to state number offset buffer moment)
stored (Ok x) state after number offset buffer moment view s some ok =
    let there : written_to state number offset buffer moment ≡ record state { tree = written_tree state.tree s.held.entry offset buffer moment } =
    ap (λ (o : Option OpenRow). option_map_or (λ (row : OpenRow). if length buffer == 0 then state else record state { tree = written_tree state.tree row.entry offset buffer moment }) o state) s.opened
    ∙ rw some refl in
    ap (λ (tree : Content). let after' : StoreState = record { tree = tree; opens = state.opens; locks = state.locks; next = state.next } in after') (ok ∙ ap (λ (n : ℕ). written_tree state.tree n offset buffer moment) (entry_of state number view s)) ∙ sym there
stored (Err e) state after number offset buffer moment view s some ok = tt

-- what a tree refuses to write is that for which there is no room
pub fault_room : (tree : Content) (n offset : ℕ) (buffer : List ℕ) (row : Row) → numbered tree.rows n ≡ Some row → is_folder_kind row.1.kind ≡ false → length row.1.bytes ≤ tree.limits.file_bytes →
    is_some (write_fault tree n offset (length buffer)) ≡ has_no_room tree n offset buffer
fault_room tree n offset buffer row h file small =
    let size : ℕ = max (length row.1.bytes) (offset + length buffer) in
    let space = space_of_bytes tree n offset buffer row h in
    let at : write_fault tree n offset (length buffer) ≡ size_fault tree n size = ap (λ (bytes : List ℕ). size_fault tree n (max (length bytes) (offset + length buffer))) (bytes_found tree.rows n row h) in
    ap (λ (o : Option TreeFault). is_some o) at ∙ grind (arith, nat_tests, common_steps, h, file, small, space)

pub room_shown : (state : StoreState) (number : ℕ) (view : View) (offset : ℕ) (buffer : List ℕ) → GoodContent state.tree → ShownBy state number view → is_folder_kind view.kind ≡ false →
    is_some (write_fault state.tree view.entry offset (length buffer)) ≡ has_no_room state.tree view.entry offset buffer
room_shown state number view offset buffer good s file =
    let at : numbered state.tree.rows view.entry ≡ Some s.row = ap (numbered state.tree.rows) (entry_of state number view s) ∙ s.at_entry in
    fault_room state.tree view.entry offset buffer s.row at (kind_shown state number view s file) (of_number (λ row. length row.1.bytes ≤ state.tree.limits.file_bytes) state.tree.rows view.entry s.row good.small at)

-- why a WRITE of an open that shows this is refused
abbrev pub written_refusal : ℕ → Content → Table → ℕ → View → ℕ → List ℕ → Option WriteRefusal
written_refusal most tree locks number view offset buffer =
    first_refusal (write_rows most view (keeps_from_writing locks number view offset (length buffer)) offset (length buffer) (has_no_room tree view.entry offset buffer))

-- whether a lock bars it decides its row
rows_barred : (most : ℕ) (tree : Content) (locks : Table) (number : ℕ) (view : View) (is_barred : Bool) (offset : ℕ) (buffer : List ℕ) → is_barred ≡ keeps_from_writing locks number view offset (length buffer) →
    first_refusal (write_rows most view is_barred offset (length buffer) (has_no_room tree view.entry offset buffer)) ≡ written_refusal most tree locks number view offset buffer
rows_barred most tree locks number view is_barred offset buffer bar =
    ap (λ (b : Bool). first_refusal (write_rows most view b offset (length buffer) (has_no_room tree view.entry offset buffer))) bar

-- a WRITE that is done had room
pub lawful_written : {X : Type 0} (r : Result X (RefusedBy WriteRefusal)) (most : ℕ) (tree : Content) (locks : Table) (number : ℕ) (view : View) (is_barred : Bool) (offset : ℕ) (buffer : List ℕ) → is_barred ≡ keeps_from_writing locks number view offset (length buffer) →
    ((is_full : Bool) → first_refusal (write_rows most view is_barred offset (length buffer) is_full) ≡ (if nat_lt 0 (length buffer) && is_full then Some NoSpaceLeft else None)) →
    is_some (write_fault tree view.entry offset (length buffer)) ≡ has_no_room tree view.entry offset buffer →
    OnOk r (write_fault tree view.entry offset (length buffer) ≡ None) → OnOk r (written_refusal most tree locks number view offset buffer ≡ None)
lawful_written (Ok x) most tree locks number view is_barred offset buffer bar goes same none =
    let room : has_no_room tree view.entry offset buffer ≡ false = sym same ∙ ap (λ (o : Option TreeFault). is_some o) none in
    sym (rows_barred most tree locks number view is_barred offset buffer bar) ∙ goes (has_no_room tree view.entry offset buffer) ∙ grind (arith, nat_tests, room)
lawful_written (Err e) most tree locks number view is_barred offset buffer bar goes same none = tt

-- a WRITE for which there is no room is refused for that
pub why_written : {X : Type 0} (r : Result X (RefusedBy WriteRefusal)) (most : ℕ) (tree : Content) (locks : Table) (number : ℕ) (view : View) (is_barred : Bool) (offset : ℕ) (buffer : List ℕ) → (length buffer == 0) ≡ false → is_barred ≡ keeps_from_writing locks number view offset (length buffer) →
    ((is_full : Bool) → first_refusal (write_rows most view is_barred offset (length buffer) is_full) ≡ (if nat_lt 0 (length buffer) && is_full then Some NoSpaceLeft else None)) →
    is_some (write_fault tree view.entry offset (length buffer)) ≡ has_no_room tree view.entry offset buffer →
    IfErr r (λ refused. IsRefusedBy (if is_some (write_fault tree view.entry offset (length buffer)) then Some NoSpaceLeft else None) refused) →
    IfErr r (λ refused. IsRefusedBy (written_refusal most tree locks number view offset buffer) refused)
why_written (Ok x) most tree locks number view is_barred offset buffer some bar goes same h = tt
why_written (Err refused) most tree locks number view is_barred offset buffer some bar goes same h =
    let refusal : written_refusal most tree locks number view offset buffer ≡ (if is_some (write_fault tree view.entry offset (length buffer)) then Some NoSpaceLeft else None) =
    sym (rows_barred most tree locks number view is_barred offset buffer bar) ∙ goes (has_no_room tree view.entry offset buffer) ∙ grind (arith, nat_tests, some, same) in
    subst (λ (told : Option WriteRefusal). IsRefusedBy told refused) (sym refusal) h
