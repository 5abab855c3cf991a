-- SET_INFO of a file or a folder through an open of a store ([MS-SMB2] 3.3.5.21.1, [MS-FSA] 2.1.5.15). The rows are those
-- of docs/PROFILE.md, of which the first that holds decides.
use Rattle.std.specs.Prelude.{ℕ, Bool, ◌||◌, ◌&&◌, false, not, nat_lt, List, [], ◌∷◌, Option, nat_le, if◌then◌else◌, ◌==◌, length}
use Rattle.std.specs.List.{list_any}
use Rattle.std.specs.Option.{option_map_or}
use Rattle.smb_wire.specs.declared.nt_status.NtStatus.{NtStatus}
use Rattle.smb_tree.specs.Entries.{Entry, is_folder_kind, kept_basic}
use Rattle.smb_entry.specs.declared.ask.BasicAsk.{BasicAsk}
use Rattle.smb_access.specs.declared.open_row.OpenRow.{OpenRow}
use Rattle.smb_access.specs.Opens.{open_of}
use Rattle.smb_opens.specs.State.{StoreState}
use Rattle.smb_opens.specs.Views.{refusal_through, status_through}
use Rattle.smb_entry.specs.SetInfo.{is_bad_time, time_set}
use Rattle.smb_tree.specs.Content.{changed_in, used_space, resized, numbered}
use Rattle.smb_refusals.specs.declared.set_info.SetBasicRefusal.{SetBasicRefusal}
use Rattle.smb_refusals.specs.declared.set_info.SetDispositionRefusal.{SetDispositionRefusal}
use Rattle.smb_refusals.specs.declared.set_info.SetSizeRefusal.{SetSizeRefusal}
use Rattle.smb_refusals.specs.declared.refusal.Refusal.{Refusal}
use Rattle.smb_refusals.specs.Rows.{RefusalRow, with_statuses}
use Rattle.smb_access.specs.declared.view.View.{View}
use Rattle.smb_access.specs.Access.{is_deleting}
use Rattle.smb_tree.specs.Children.{is_child}
use Rattle.smb_wire.specs.Access.{has_any, FILE_WRITE_DATA, FILE_WRITE_ATTRIBUTES}
use Rattle.smb_tree.specs.Content.{changed}
use Rattle.smb_wire.specs.Attributes.{FILE_ATTRIBUTE_READONLY, FILE_ATTRIBUTE_DIRECTORY}

-- the store with the entry of an open changed, by the number of the open; without such an open it is as it was
abbrev pub changed_through : (Entry → Entry) → StoreState → ℕ → StoreState
changed_through change state number = option_map_or
    (λ (row : OpenRow). record state { tree = record state.tree { rows = changed change state.tree.rows row.entry } })
    (open_of state.opens number) state

-- FileDispositionInformation: an entry is to be deleted with its last open, or no longer ([MS-FSCC] 2.4.11)

-- the rows of a SET_INFO that marks the entry of an open, which shows this, or takes its mark away
abbrev pub delete_refusals : StoreState → Bool → View → List (RefusalRow SetDispositionRefusal)
delete_refusals state is_deleted view =
    -- SD1. the open was not granted DELETE ([MS-FSA] 2.1.5.15.3)
    (not (is_deleting view.access), SetDispositionRefusal.DeleteNotGranted)
    -- (of an entry that is no longer to be deleted, this row alone)
    ∷ (if is_deleted then
    -- SD2. it is the root, or a read-only file ([MS-FSA] 2.1.5.15.3, [MS-FSCC] 2.6)
    (
      view.entry == 1 || not (is_folder_kind view.kind) && has_any view.attributes.0 FILE_ATTRIBUTE_READONLY,
      SetDispositionRefusal.EntryNotDeletable,
    )
    -- SD3. it is a folder in which entries are ([MS-FSA] 2.1.5.15.3)
    ∷ (
      option_map_or (λ row. list_any (is_child row.0) state.tree.rows) (numbered state.tree.rows view.entry) false,
      SetDispositionRefusal.DirectoryNotEmpty,
    )
    ∷ []
    else [])

-- why it is refused, if it is
abbrev pub delete_refusal : StoreState → ℕ → Bool → Option SetDispositionRefusal
delete_refusal state number is_deleted = refusal_through state number (delete_refusals state is_deleted)

-- its status
abbrev pub delete_status : StoreState → ℕ → Bool → NtStatus
delete_status state number is_deleted = status_through state number
    (λ view. with_statuses (λ refusal. Refusal.SetDisposition refusal) (delete_refusals state is_deleted view))

-- the store afterwards; what its opens are to delete when they are closed is left ([MS-FSA] 2.1.5.15.3)
abbrev pub delete_set_through : StoreState → ℕ → Bool → StoreState
delete_set_through state number is_deleted = changed_through (λ entry. record entry { mark = is_deleted }) state number

-- FileEndOfFileInformation and FileAllocationInformation: a file's size ([MS-FSCC] 2.4.13, 2.4.4)

-- the rows of a SET_INFO that sets the size of a file through an open, which shows this, or its allocation size
abbrev pub size_refusals : StoreState → ℕ → View → List (RefusalRow SetSizeRefusal)
size_refusals state size view =
    let after = changed_in (λ entry. record entry { bytes = resized size entry.bytes }) state.tree view.entry in
    -- SZ1. the entry is a folder ([MS-FSA] 2.1.5.15.1, 2.1.5.15.4)
    (is_folder_kind view.kind, SetSizeRefusal.EntryIsDirectory)
    -- SZ2. the open was not granted FILE_WRITE_DATA ([MS-FSA] 2.1.5.15.1, 2.1.5.15.4)
    ∷ (not (has_any view.access.0 FILE_WRITE_DATA), SetSizeRefusal.WriteNotGranted)
    -- SZ3. there is no room: the size is over the limit of a file, or the space that files use would pass the capacity
    -- ([MS-FSA] 2.1.5.15.1, 2.1.5.15.4)
    ∷ (nat_lt state.tree.limits.file_bytes size || nat_lt state.tree.capacity (used_space after.rows), SetSizeRefusal.NoSpaceLeft)
    ∷ []

-- why it is refused, if it is
abbrev pub size_refusal : StoreState → ℕ → ℕ → Option SetSizeRefusal
size_refusal state number size = refusal_through state number (size_refusals state size)

-- its status
abbrev pub size_status : StoreState → ℕ → ℕ → NtStatus
size_status state number size = status_through state number
    (λ view. with_statuses (λ refusal. Refusal.SetSize refusal) (size_refusals state size view))

-- the store afterwards: the bytes are cut, or have zeros behind them, and the times of the last write and change are the
-- moment (2.1.5.15.4); an allocation size that is no less than the size before sets nothing (2.1.5.15.1); locks stay
abbrev pub size_set_through : StoreState → ℕ → ℕ → Bool → ℕ → StoreState
size_set_through state number size is_allocation moment = changed_through
    (λ entry. if is_allocation && nat_le (length entry.bytes) size then entry else record entry {
      bytes = resized size entry.bytes;
      basic = kept_basic (record entry.basic { last_write_time = moment; change_time = moment });
    })
    state number

-- FileBasicInformation: an entry's times and attributes ([MS-FSCC] 2.4.7)

-- the rows of a SET_INFO that sets the times and attributes of the entry of an open, which shows this
abbrev pub basic_refusals : BasicAsk → View → List (RefusalRow SetBasicRefusal)
basic_refusals ask view =
    -- SB1. what is asked for is no time, or a file is to have FILE_ATTRIBUTE_DIRECTORY ([MS-FSCC] 2.4.7, [MS-FSA]
    -- 2.1.5.15.2)
    (
      is_bad_time ask.creation_time || is_bad_time ask.last_access_time || is_bad_time ask.last_write_time
          || is_bad_time ask.change_time
          || not (is_folder_kind view.kind) && has_any ask.attributes.0 FILE_ATTRIBUTE_DIRECTORY,
      SetBasicRefusal.TimeOrAttributesInvalid,
    )
    -- SB2. the open was not granted FILE_WRITE_ATTRIBUTES ([MS-FSA] 2.1.5.15.2)
    ∷ (not (has_any view.access.0 FILE_WRITE_ATTRIBUTES), SetBasicRefusal.AttributesNotGranted)
    ∷ []

-- why it is refused, if it is
abbrev pub basic_refusal : StoreState → ℕ → BasicAsk → Option SetBasicRefusal
basic_refusal state number ask = refusal_through state number (basic_refusals ask)

-- its status
abbrev pub basic_status : StoreState → ℕ → BasicAsk → NtStatus
basic_status state number ask = status_through state number
    (λ view. with_statuses (λ refusal. Refusal.SetBasic refusal) (basic_refusals ask view))

-- the store afterwards; for a 0 the time of the last change becomes the moment, and the attributes are left ([MS-FSA]
-- 2.1.5.15.2); of the attributes a tree keeps four ([MS-FSCC] 2.6)
abbrev pub basic_set_through : StoreState → ℕ → BasicAsk → ℕ → StoreState
basic_set_through state number ask moment = changed_through
    (λ entry. record entry {
      basic = kept_basic (record {
        creation_time = time_set ask.creation_time entry.basic.creation_time;
        last_access_time = time_set ask.last_access_time entry.basic.last_access_time;
        last_write_time = time_set ask.last_write_time entry.basic.last_write_time;
        change_time = if ask.change_time == 0 then moment else time_set ask.change_time entry.basic.change_time;
        attributes = record { 0 = if ask.attributes.0 == 0 then entry.basic.attributes.0 else ask.attributes.0 };
      });
    })
    state number
