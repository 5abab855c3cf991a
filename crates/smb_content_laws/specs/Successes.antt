-- What must succeed does: where no row of its table holds, the status of a request is STATUS_SUCCESS.
use Rattle.std.specs.Prelude.{◌≡◌, ◌≢◌, ◌↔◌, ◌⊎◌, ℕ, ◌+◌, ◌-◌, ◌<◌, ◌≤◌, min, Bool, true, false, List, ◌∷◌, ◌++◌, ◌||◌, ◌&&◌, not}
use Rattle.std.specs.Prelude.{length, None, Some}
use Rattle.std.specs.List.{AllByRecursion, list_any}
use Rattle.smb_wire.specs.Access.{has_any, FILE_WRITE_DATA, FILE_APPEND_DATA, FILE_WRITE_ATTRIBUTES}
use Rattle.smb_wire.specs.Attributes.{FILE_ATTRIBUTE_DIRECTORY, FILE_ATTRIBUTE_READONLY}
use Rattle.smb_wire.specs.declared.nt_status.NtStatus.{NtStatus}
use Rattle.smb_wire.specs.declared.nt_status.NtStatus.TheVariants.{Success}
use Rattle.smb_tree.specs.Content.{used_space, numbered, changed_in, resized, written}
use Rattle.smb_tree.specs.Entries.{is_folder_kind}
use Rattle.smb_locks.specs.declared.ask.LockAsk.{LockAsk}
use Rattle.smb_locks.specs.Locking.{lock_all_fault}
use Rattle.smb_locks.specs.Table.{locks_on}
use Rattle.smb_locks.specs.Unlocking.{unlock_all_error}
use Rattle.smb_access.specs.declared.view.View.{View}
use Rattle.smb_access.specs.Asked.{FileAsked}
use Rattle.smb_access.specs.Access.{is_reading, is_deleting}
use Rattle.smb_refusals.specs.Rows.{StatusRow, first_status}
use Rattle.smb_entry.specs.declared.ask.BasicAsk.{BasicAsk}
use Rattle.smb_opens.specs.Bytes.{read_status, write_status}
use Rattle.smb_opens.specs.Create.{create_rows, create_status}
use Rattle.smb_opens.specs.Found.{entry_asked}
use Rattle.smb_opens.specs.Locks.{lock_status, unlock_status}
use Rattle.smb_opens.specs.SetInfo.{delete_status, size_status, basic_status}
use Rattle.smb_opens.specs.State.{StoreState}
use Rattle.smb_opens.specs.Views.{open_view, status_through}
use Rattle.std.specs.Option.{option_map_or}
use Rattle.smb_entry.specs.SetInfo.{is_bad_time}
use Rattle.smb_tree.specs.Children.{is_child}
use Rattle.smb_locks.specs.Conflicts.{is_read_barred, is_write_barred}

-- no row of a table holds
abbrev pub NoneHolds : List StatusRow → Type 0
NoneHolds = AllByRecursion (λ row. row.0 ≡ false)

-- the status of a table is that of its first row that holds, and STATUS_SUCCESS where none does; and the status of a
-- request through an open that shows something is that of its table
abbrev pub TheFirstRowDecides : Type 0
TheFirstRowDecides =
    ((rows : List StatusRow) → NoneHolds rows → first_status rows ≡ Success)
    × ((before after : List StatusRow) (status : NtStatus) → NoneHolds before →
    first_status (before ++ (true, status) ∷ after) ≡ status)
    × ((state : StoreState) (number : ℕ) (view : View) (rows : View → List StatusRow) →
    open_view state number ≡ Some view → status_through state number rows ≡ first_status (rows view))

-- a CREATE succeeds exactly where none of its rows holds ([MS-SMB2] 3.3.5.9)
abbrev pub ACreateSucceeds : Type 0
ACreateSucceeds =
    (state : StoreState) (ask : FileAsked) →
    (create_status state ask ≡ Success) ↔ NoneHolds (create_rows state ask (entry_asked state ask))

-- what a READ needs ([MS-SMB2] 3.3.5.12): it asks for no more than one request reads, of a file, through an open that
-- may read its bytes, where no lock bars it; there are bytes where it asks for some, and at least so many as it wants
pub record MayRead (state : StoreState) (most number offset count minimum : ℕ) (view : View) : Type 0 where
  pub within : count ≤ most
  pub file : is_folder_kind view.kind ≡ false
  pub access : is_reading view.access ≡ true
  pub free :
      is_read_barred (locks_on state.locks view.entry) number (record { offset = offset; length = count }) ≡ false
  pub there : 0 < count → offset < view.size
  pub enough : minimum ≤ min count (view.size - offset)

-- what a WRITE needs ([MS-SMB2] 3.3.5.13): it gives no more than one request writes, to a file, through an open that was
-- granted FILE_WRITE_DATA, or FILE_APPEND_DATA and the offset is not before the end, where no lock bars it; and if it
-- gives some bytes, there is room for them
pub record MayWrite (state : StoreState) (most number offset : ℕ) (buffer : List ℕ) (view : View) : Type 0 where
  pub within : length buffer ≤ most
  pub file : is_folder_kind view.kind ≡ false
  pub access : (has_any view.access.0 FILE_WRITE_DATA ≡ true)
      ⊎ ((has_any view.access.0 FILE_APPEND_DATA ≡ true) × (view.size ≤ offset))
  pub free :
      is_write_barred (locks_on state.locks view.entry) number (record { offset = offset; length = length buffer }) ≡ false
  pub small : 0 < length buffer → offset + length buffer ≤ state.tree.limits.file_bytes
  pub fits : 0 < length buffer →
      let after = changed_in (λ entry. record entry { bytes = written offset buffer entry.bytes }) state.tree view.entry in
      used_space after.rows ≤ state.tree.capacity

-- what a SET_INFO of an entry's mark needs ([MS-FSA] 2.1.5.15.3): the open was granted DELETE; and where the entry is
-- to be deleted, it is not the root, no read-only file, and nothing is in it
pub record MayMark (state : StoreState) (is_deleted : Bool) (view : View) : Type 0 where
  pub access : is_deleting view.access ≡ true
  pub other : is_deleted ≡ true → view.entry ≢ 1
  pub writable : is_deleted ≡ true →
      (not (is_folder_kind view.kind) && has_any view.attributes.0 FILE_ATTRIBUTE_READONLY) ≡ false
  pub empty : is_deleted ≡ true →
      option_map_or (λ row. list_any (is_child row.0) state.tree.rows) (numbered state.tree.rows view.entry) false ≡ false

-- what one of a file's size needs ([MS-FSA] 2.1.5.15.4): it is a file, the open was granted FILE_WRITE_DATA, and there
-- is room
pub record MaySetSize (state : StoreState) (size : ℕ) (view : View) : Type 0 where
  pub file : is_folder_kind view.kind ≡ false
  pub access : has_any view.access.0 FILE_WRITE_DATA ≡ true
  pub small : size ≤ state.tree.limits.file_bytes
  pub fits :
      let after = changed_in (λ entry. record entry { bytes = resized size entry.bytes }) state.tree view.entry in
      used_space after.rows ≤ state.tree.capacity

-- what one of times and attributes needs ([MS-FSA] 2.1.5.15.2): all four times are times, a file is not to be a
-- directory, and the open was granted FILE_WRITE_ATTRIBUTES
pub record MaySetTimes (ask : BasicAsk) (view : View) : Type 0 where
  pub times :
      (is_bad_time ask.creation_time || is_bad_time ask.last_access_time || is_bad_time ask.last_write_time
      || is_bad_time ask.change_time) ≡ false
  pub kind : (is_folder_kind view.kind ≡ true) ⊎ (has_any ask.attributes.0 FILE_ATTRIBUTE_DIRECTORY ≡ false)
  pub access : has_any view.access.0 FILE_WRITE_ATTRIBUTES ≡ true

-- through an open that shows something, a READ, a WRITE, and a SET_INFO of a mark, of a size or of times succeed exactly
-- where they may; a LOCK and an UNLOCK, exactly where it shows a file whose locks refuse none of their elements
-- ([MS-SMB2] 3.3.5.14)
abbrev pub RequestsSucceedWhereTheyMay : Type 0
RequestsSucceedWhereTheyMay =
    (state : StoreState) (number : ℕ) (view : View) → open_view state number ≡ Some view →
    let held = locks_on state.locks view.entry in
    ((most offset count minimum : ℕ) →
    (read_status state most number offset count minimum ≡ Success) ↔ MayRead state most number offset count minimum view)
    × ((most offset : ℕ) (buffer : List ℕ) →
    (write_status state most number offset buffer ≡ Success) ↔ MayWrite state most number offset buffer view)
    × ((is_deleted : Bool) → (delete_status state number is_deleted ≡ Success) ↔ MayMark state is_deleted view)
    × ((size : ℕ) → (size_status state number size ≡ Success) ↔ MaySetSize state size view)
    × ((ask : BasicAsk) → (basic_status state number ask ≡ Success) ↔ MaySetTimes ask view)
    × ((asks : List LockAsk) → (lock_status state number asks ≡ Success)
    ↔ ((is_folder_kind view.kind ≡ false) × (lock_all_fault state.tree.limits.locks held number asks ≡ None)))
    × ((asks : List LockAsk) → (unlock_status state number asks ≡ Success)
    ↔ ((is_folder_kind view.kind ≡ false) × (unlock_all_error held number asks ≡ None)))
