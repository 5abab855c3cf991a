-- A request succeeds exactly where it may.
use Rattle.std.proofs.Common.{◌≡◌, ◌↔◌, ◌⊎◌, inl, inr, ℕ, ◌+◌, ◌<◌, ◌≤◌, ◌==◌, ◌&&◌, ◌||◌, Bool, true, false, not, nat_lt, nat_le, List, length, Option, None, Some, refl, sym, ap, ◌∙◌, arith}
use Rattle.std.proofs.lemmas.Bool.{not-false, not_from_true, ltb-false, le-ltb, leb-false, lt-leb, eqb-false, ne_eqb, or_parts, or_from, and_cases, and_left, and_right, cases_lt}
use Rattle.std.specs.Option.{option_map, option_map_or}
use Rattle.smb_wire.specs.Access.{has_any, FILE_WRITE_DATA, FILE_APPEND_DATA}
use Rattle.smb_wire.specs.Attributes.{FILE_ATTRIBUTE_DIRECTORY}
use Rattle.smb_wire.specs.declared.nt_status.NtStatus.TheVariants.{Success, FileClosed}
use Rattle.smb_tree.specs.Content.{used_space}
use Rattle.smb_tree.specs.Parts.{with_bytes, with_size}
use Rattle.smb_tree.specs.Entries.{is_folder_kind}
use Rattle.smb_locks.specs.declared.ask.LockAsk.{LockAsk}
use Rattle.smb_locks.specs.declared.fault.LockFault.{LockFault}
use Rattle.smb_locks.specs.declared.fault.UnlockError.{UnlockError}
use Rattle.smb_locks.specs.Locking.{lock_all_fault}
use Rattle.smb_locks.specs.Table.{locks_on}
use Rattle.smb_locks.specs.Unlocking.{unlock_all_error}
use Rattle.smb_access.specs.declared.view.View.{View}
use Rattle.smb_access.specs.Access.{is_reading, is_deleting}
use Rattle.smb_access.specs.Parts.{is_writing_attributes}
use Rattle.smb_access.specs.Asked.{FileAsked}
use Rattle.smb_refusals.specs.declared.refusal.Refusal.{Refusal}
use Rattle.smb_refusals.specs.Rows.{StatusRow, first_status, with_statuses}
use Rattle.smb_entry.specs.declared.ask.BasicAsk.{BasicAsk}
use Rattle.smb_entry.specs.Parts.{keeps_from_reading, keeps_from_writing, has_no_room, may_not_write, bytes_there, read_rows, write_rows, has_entries, has_no_space, delete_rows, size_rows, basic_rows, shows_read_only_file, has_bad_time, locks_shown}
use Rattle.smb_entry.specs.Locks.{lock_status_by}
use Rattle.smb_opens.specs.Bytes.{read_status, write_status}
use Rattle.smb_opens.specs.Create.{create_rows, create_status}
use Rattle.smb_opens.specs.Found.{entry_asked}
use Rattle.smb_opens.specs.Locks.{lock_status, unlock_status}
use Rattle.smb_opens.specs.SetInfo.{delete_status, size_status, basic_status}
use Rattle.smb_opens.specs.State.{StoreState}
use Rattle.smb_opens.specs.Views.{open_view, status_through}
use Rattle.smb_opens.proofs.Passing.{pass_all}
use Rattle.smb_content_laws.specs.Successes.{NoneHolds, MayRead, MayWrite, MayMark, MaySetSize, MaySetTimes}
use Rattle.smb_content_laws.proofs.Rows.{none_success, request_succeeds}
use Rattle.smb_content_laws.proofs.ThroughOpens.{lock_free, unlock_free}

status_shown : (state : StoreState) (number : ℕ) (view : View) (rows : View → List StatusRow) → open_view state number ≡ Some view → status_through state number rows ≡ Success → first_status (rows view) ≡ Success
status_shown state number view rows shown h = sym (ap (λ (o : Option View). option_map_or (λ view. first_status (rows view)) o FileClosed) shown) ∙ h

-- CREATE
pub create_succeeds : (state : StoreState) (ask : FileAsked) → (create_status state ask ≡ Success) ↔ NoneHolds (create_rows state ask (entry_asked state ask))
create_succeeds state ask = (
  pass_all (create_rows state ask (entry_asked state ask))
      ((λ q. cc), ((λ q. cc), ((λ q. cc), ((λ q. cc), ((λ q. cc), ((λ q. cc), ((λ q. cc), ((λ q. cc), ((λ q. cc), ((λ q. cc), ((λ q. cc), ((λ q. cc), ((λ q. cc), ((λ q. cc), ((λ q. cc), ((λ q. cc), ((λ q. cc), ((λ q. cc), ((λ q. cc), tt))))))))))))))))))),
  none_success (create_rows state ask (entry_asked state ask)),
)

-- READ
there_from : (count offset size : ℕ) → (nat_lt 0 count && nat_le size offset) ≡ false → 0 < count → offset < size
there_from count offset size h c =
    elim (and_cases (nat_lt 0 count) (nat_le size offset) h) [
      | inl e ↦ absurd (let none = ltb-false 0 count e in omega arith)
      | inr e ↦ leb-false size offset e
    ]

there_to : (count offset size : ℕ) → (0 < count → offset < size) → (nat_lt 0 count && nat_le size offset) ≡ false
there_to count offset size h =
    elim (cases_lt 0 count) [
      | inl some ↦ and_right (nat_lt 0 count) (nat_le size offset) (lt-leb size offset (h some))
      | inr none ↦ and_left (nat_lt 0 count) (nat_le size offset) (le-ltb 0 count none)
    ]

pub read_succeeds : (state : StoreState) (most number offset count minimum : ℕ) (view : View) → open_view state number ≡ Some view →
    (read_status state most number offset count minimum ≡ Success) ↔ MayRead state most number offset count minimum view
read_succeeds state most number offset count minimum view shown = (
  λ h. (
      let rows = pass_all (table view) ((λ q. cc), ((λ q. cc), ((λ q. cc), ((λ q. cc), ((λ q. cc), tt))))) (status_shown state number view table shown h) in
      let last = or_parts (nat_lt 0 count && nat_le view.size offset) (nat_lt (bytes_there view.size offset count) minimum) rows.1.1.1.1.0 in
      record {
        within = ltb-false most count rows.0;
        file = rows.1.0;
        access = not-false (is_reading view.access) rows.1.1.0;
        free = rows.1.1.1.0;
        there = there_from count offset view.size last.0;
        enough = ltb-false (bytes_there view.size offset count) minimum last.1;
      }
      ),
  λ m. request_succeeds state number view table shown (
    le-ltb most count m.within,
    (
      m.file,
      (
        not_from_true (is_reading view.access) m.access,
        (
          m.free,
          (
            or_from (nat_lt 0 count && nat_le view.size offset) (nat_lt (bytes_there view.size offset count) minimum) (there_to count offset view.size m.there) (le-ltb (bytes_there view.size offset count) minimum m.enough),
            tt,
          ),
        ),
      ),
    ),
  ),
)
  where
    table : View → List StatusRow
    table shows = with_statuses (λ refusal. Refusal.Read refusal) (read_rows most shows (keeps_from_reading state.locks number shows offset count) offset count minimum)

-- WRITE
writes_from : (write append before : Bool) → (not (write || append) || not write && before) ≡ false → (write ≡ true) ⊎ ((append ≡ true) × (before ≡ false))
writes_from true append before h = inl refl
writes_from false true before h = inr (refl, h)
writes_from false false before h = absurd (let e : true ≡ false = h in cc)

writes_to : (write append before : Bool) → (write ≡ true) ⊎ ((append ≡ true) × (before ≡ false)) → (not (write || append) || not write && before) ≡ false
writes_to true append before h = refl
writes_to false append before (inl h) = absurd (let e : false ≡ true = h in cc)
writes_to false append before (inr h) = rw (h.0, h.1) refl

-- an open may write at an offset
abbrev WritesAt : View → ℕ → Type 0
WritesAt view offset = (has_any view.access.0 FILE_WRITE_DATA ≡ true) ⊎ ((has_any view.access.0 FILE_APPEND_DATA ≡ true) × (view.size ≤ offset))

access_from : (view : View) (offset : ℕ) → may_not_write view offset ≡ false → WritesAt view offset
access_from view offset h =
    elim (writes_from (has_any view.access.0 FILE_WRITE_DATA) (has_any view.access.0 FILE_APPEND_DATA) (nat_lt offset view.size) h) [
      | inl w ↦ inl w
      | inr a ↦ inr (a.0, ltb-false offset view.size a.1)
    ]

access_to : (view : View) (offset : ℕ) → WritesAt view offset → may_not_write view offset ≡ false
access_to view offset (inl w) = writes_to (has_any view.access.0 FILE_WRITE_DATA) (has_any view.access.0 FILE_APPEND_DATA) (nat_lt offset view.size) (inl w)
access_to view offset (inr a) = writes_to (has_any view.access.0 FILE_WRITE_DATA) (has_any view.access.0 FILE_APPEND_DATA) (nat_lt offset view.size) (inr (a.0, le-ltb offset view.size a.1))

room_from : (most count end used capacity : ℕ) → (nat_lt 0 count && (nat_lt most end || nat_lt capacity used)) ≡ false → 0 < count → (end ≤ most) × (used ≤ capacity)
room_from most count end used capacity h c =
    elim (and_cases (nat_lt 0 count) (nat_lt most end || nat_lt capacity used) h) [
      | inl e ↦ absurd (let none = ltb-false 0 count e in omega arith)
      | inr e ↦ (let parts = or_parts (nat_lt most end) (nat_lt capacity used) e in (ltb-false most end parts.0, ltb-false capacity used parts.1))
    ]

room_to : (most count end used capacity : ℕ) → (0 < count → end ≤ most) → (0 < count → used ≤ capacity) → (nat_lt 0 count && (nat_lt most end || nat_lt capacity used)) ≡ false
room_to most count end used capacity h k =
    elim (cases_lt 0 count) [
      | inl some ↦ and_right (nat_lt 0 count) (nat_lt most end || nat_lt capacity used) (or_from (nat_lt most end) (nat_lt capacity used) (le-ltb most end (h some)) (le-ltb capacity used (k some)))
      | inr none ↦ and_left (nat_lt 0 count) (nat_lt most end || nat_lt capacity used) (le-ltb 0 count none)
    ]

pub write_succeeds : (state : StoreState) (most number offset : ℕ) (buffer : List ℕ) (view : View) → open_view state number ≡ Some view →
    (write_status state most number offset buffer ≡ Success) ↔ MayWrite state most number offset buffer view
write_succeeds state most number offset buffer view shown = (
  λ h. (
      let rows = pass_all (table view) ((λ q. cc), ((λ q. cc), ((λ q. cc), ((λ q. cc), ((λ q. cc), tt))))) (status_shown state number view table shown h) in
      let room = room_from state.tree.limits.file_bytes (length buffer) (offset + length buffer) (used_space (with_bytes state.tree view.entry offset buffer).rows) state.tree.capacity rows.1.1.1.1.0 in
      record {
        within = ltb-false most (length buffer) rows.0;
        file = rows.1.0;
        access = access_from view offset rows.1.1.0;
        free = rows.1.1.1.0;
        small = λ some. (room some).0;
        fits = λ some. (room some).1;
      }
      ),
  λ m. request_succeeds state number view table shown (
    le-ltb most (length buffer) m.within,
    (
      m.file,
      (
        access_to view offset m.access,
        (
          m.free,
          (
            room_to state.tree.limits.file_bytes (length buffer) (offset + length buffer) (used_space (with_bytes state.tree view.entry offset buffer).rows) state.tree.capacity m.small m.fits,
            tt,
          ),
        ),
      ),
    ),
  ),
)
  where
    table : View → List StatusRow
    table shows = with_statuses (λ refusal. Refusal.Write refusal) (write_rows most shows (keeps_from_writing state.locks number shows offset (length buffer)) offset (length buffer) (has_no_room state.tree shows.entry offset buffer))

-- LOCK and UNLOCK
status_free : (view : View) (fault : Option LockFault) → is_folder_kind view.kind ≡ false → fault ≡ None → lock_status_by (Some view) fault ≡ Success
status_free view fault file free = rw (file, free) refl

pub lock_succeeds : (state : StoreState) (number : ℕ) (view : View) → open_view state number ≡ Some view → (asks : List LockAsk) →
    (lock_status state number asks ≡ Success) ↔ ((is_folder_kind view.kind ≡ false) × (lock_all_fault state.tree.limits.locks (locks_on state.locks view.entry) number asks ≡ None))
lock_succeeds state number view shown asks = (
  λ h. lock_free state number asks view shown h,
  λ free. ap (λ (v : Option View). lock_status_by v (lock_all_fault state.tree.limits.locks (locks_shown state.locks v) number asks)) shown ∙ status_free view (lock_all_fault state.tree.limits.locks (locks_on state.locks view.entry) number asks) free.0 free.1,
)

pub unlock_succeeds : (state : StoreState) (number : ℕ) (view : View) → open_view state number ≡ Some view → (asks : List LockAsk) →
    (unlock_status state number asks ≡ Success) ↔ ((is_folder_kind view.kind ≡ false) × (unlock_all_error (locks_on state.locks view.entry) number asks ≡ None))
unlock_succeeds state number view shown asks = (
  λ h. unlock_free state number asks view shown h,
  λ free. ap (λ (v : Option View). lock_status_by v (option_map (λ (error : UnlockError). error.fault) (unlock_all_error (locks_shown state.locks v) number asks))) shown
      ∙ status_free view (option_map (λ (error : UnlockError). error.fault) (unlock_all_error (locks_on state.locks view.entry) number asks)) free.0 (ap (option_map (λ (error : UnlockError). error.fault)) free.1),
)

-- SET_INFO of a mark
pub mark_succeeds : (state : StoreState) (number : ℕ) (is_deleted : Bool) (view : View) → open_view state number ≡ Some view → (delete_status state number is_deleted ≡ Success) ↔ MayMark state is_deleted view
mark_succeeds state number true view shown = (
  λ h. (
      let rows = pass_all (table view) ((λ q. cc), ((λ q. cc), ((λ q. cc), tt))) (status_shown state number view table shown h) in
      let first = or_parts (view.entry == 1) (shows_read_only_file view) rows.1.0 in
      record {
        access = not-false (is_deleting view.access) rows.0;
        other = λ _. eqb-false view.entry 1 first.0;
        writable = λ _. first.1;
        empty = λ _. rows.1.1.0;
      }
      ),
  λ m. request_succeeds state number view table shown
      (not_from_true (is_deleting view.access) m.access, (or_from (view.entry == 1) (shows_read_only_file view) (ne_eqb view.entry 1 (m.other refl)) (m.writable refl), (m.empty refl, tt))),
)
  where
    table : View → List StatusRow
    table shows = with_statuses (λ refusal. Refusal.SetDisposition refusal) (delete_rows shows (has_entries state.tree.rows shows.entry) true)
mark_succeeds state number false view shown = (
  λ h. (
      let rows = pass_all (table view) ((λ q. cc), tt) (status_shown state number view table shown h) in
      record {
        access = not-false (is_deleting view.access) rows.0;
        other = λ e. absurd (cc);
        writable = λ e. absurd (cc);
        empty = λ e. absurd (cc);
      }
      ),
  λ m. request_succeeds state number view table shown (not_from_true (is_deleting view.access) m.access, tt),
)
  where
    table : View → List StatusRow
    table shows = with_statuses (λ refusal. Refusal.SetDisposition refusal) (delete_rows shows (has_entries state.tree.rows shows.entry) false)

-- of a size
pub size_succeeds : (state : StoreState) (number size : ℕ) (view : View) → open_view state number ≡ Some view → (size_status state number size ≡ Success) ↔ MaySetSize state size view
size_succeeds state number size view shown = (
  λ h. (
      let rows = pass_all (table view) ((λ q. cc), ((λ q. cc), ((λ q. cc), tt))) (status_shown state number view table shown h) in
      let room = or_parts (nat_lt state.tree.limits.file_bytes size) (nat_lt state.tree.capacity (used_space (with_size state.tree view.entry size).rows)) rows.1.1.0 in
      record {
        file = rows.0;
        access = not-false (has_any view.access.0 FILE_WRITE_DATA) rows.1.0;
        small = ltb-false state.tree.limits.file_bytes size room.0;
        fits = ltb-false state.tree.capacity (used_space (with_size state.tree view.entry size).rows) room.1;
      }
      ),
  λ m. request_succeeds state number view table shown (
    m.file,
    (
      not_from_true (has_any view.access.0 FILE_WRITE_DATA) m.access,
      (
        or_from (nat_lt state.tree.limits.file_bytes size) (nat_lt state.tree.capacity (used_space (with_size state.tree view.entry size).rows)) (le-ltb state.tree.limits.file_bytes size m.small) (le-ltb state.tree.capacity (used_space (with_size state.tree view.entry size).rows) m.fits),
        tt,
      ),
    ),
  ),
)
  where
    table : View → List StatusRow
    table shows = with_statuses (λ refusal. Refusal.SetSize refusal) (size_rows shows (has_no_space state.tree shows.entry size))

-- of times and attributes
kind_from : (folder directory : Bool) → (not folder && directory) ≡ false → (folder ≡ true) ⊎ (directory ≡ false)
kind_from true directory h = inl refl
kind_from false directory h = inr h

kind_to : (folder directory : Bool) → (folder ≡ true) ⊎ (directory ≡ false) → (not folder && directory) ≡ false
kind_to true directory h = refl
kind_to false directory (inl h) = absurd (let e : false ≡ true = h in cc)
kind_to false directory (inr h) = h

pub times_succeed : (state : StoreState) (number : ℕ) (ask : BasicAsk) (view : View) → open_view state number ≡ Some view → (basic_status state number ask ≡ Success) ↔ MaySetTimes ask view
times_succeed state number ask view shown = (
  λ h. (
      let rows = pass_all (table view) ((λ q. cc), ((λ q. cc), tt)) (status_shown state number view table shown h) in
      let first = or_parts (has_bad_time ask) (not (is_folder_kind view.kind) && has_any ask.attributes.0 FILE_ATTRIBUTE_DIRECTORY) rows.0 in
      record {
        times = first.0;
        kind = kind_from (is_folder_kind view.kind) (has_any ask.attributes.0 FILE_ATTRIBUTE_DIRECTORY) first.1;
        access = not-false (is_writing_attributes view.access) rows.1.0;
      }
      ),
  λ m. request_succeeds state number view table shown (
    or_from (has_bad_time ask) (not (is_folder_kind view.kind) && has_any ask.attributes.0 FILE_ATTRIBUTE_DIRECTORY) m.times (kind_to (is_folder_kind view.kind) (has_any ask.attributes.0 FILE_ATTRIBUTE_DIRECTORY) m.kind),
    (not_from_true (is_writing_attributes view.access) m.access, tt),
  ),
)
  where
    table : View → List StatusRow
    table shows = with_statuses (λ refusal. Refusal.SetBasic refusal) (basic_rows shows ask)
