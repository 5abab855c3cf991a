-- For the proofs; nothing here need be believed.
-- The tables of smb_opens by what the code looks at, and what is changed, step by step.
use Rattle.std.specs.Prelude.{ℕ, ◌+◌, ◌-◌, ◌||◌, ◌&&◌, Bool, not, min, nat_lt, nat_le, List, [], ◌∷◌, length, ◌==◌, false, if◌then◌else◌, slice_index, Option, None, Some, is_some}
use Rattle.smb_wire.specs.Access.{has_any, FILE_WRITE_DATA}
use Rattle.smb_tree.specs.declared.fault.TreeFault.{TreeFault}
use Rattle.smb_tree.specs.declared.fault.TreeFault.TheVariants.{Absent, ParentAbsent, Exists, NotEmpty, TooDeep, Full}
use Rattle.smb_refusals.specs.declared.refused_by.RefusedBy.{RefusedBy}
use Rattle.smb_refusals.specs.declared.refused_by.RefusedBy.TheVariants.{Row as ByRow, NoMemory}
use Rattle.smb_refusals.specs.declared.file.ReadRefusal.{ReadRefusal}
use Rattle.smb_refusals.specs.declared.file.WriteRefusal.{WriteRefusal}
use Rattle.smb_refusals.specs.declared.set_info.SetBasicRefusal.{SetBasicRefusal}
use Rattle.smb_refusals.specs.declared.set_info.SetDispositionRefusal.{SetDispositionRefusal}
use Rattle.smb_refusals.specs.declared.set_info.SetSizeRefusal.{SetSizeRefusal}
use Rattle.smb_refusals.specs.declared.set_info.RenameRefusal.{RenameRefusal}
use Rattle.smb_tree.specs.Entries.{Entry, is_folder_kind, kept_basic}
use Rattle.smb_tree.specs.Content.{Content, changed, used_space, written, Row, numbered, resized, Path, is_same_path, entry_at, changed_in}
use Rattle.smb_tree.specs.Parts.{with_bytes, with_size, would_be_too_deep, has_children}
use Rattle.smb_locks.specs.Conflicts.{is_read_barred, is_write_barred}
use Rattle.smb_locks.specs.Table.{Table, locks_on}
use Rattle.smb_access.specs.declared.view.View.{View}
use Rattle.smb_access.specs.Access.{is_reading, is_writing, is_deleting}
use Rattle.smb_refusals.specs.Rows.{RefusalRow, DecidingRow}
use Rattle.std.specs.Option.{option_map_or}
use Rattle.smb_wire.specs.Attributes.{FILE_ATTRIBUTE_READONLY, FILE_ATTRIBUTE_DIRECTORY}
use Rattle.smb_tree.specs.declared.entry.Basic.{Basic}
use Rattle.smb_entry.specs.declared.ask.BasicAsk.{BasicAsk}
use Rattle.smb_access.specs.Parts.{is_writing_attributes}
use Rattle.smb_entry.specs.SetInfo.{is_bad_time, time_set}
use Rattle.std.specs.List.{list_any}
use Rattle.smb_wire.specs.Paths.{is_separator, path_fault}
use Rattle.smb_tree.specs.Moves.{moved, is_within}
use Rattle.smb_locks.specs.declared.lock.Lock.{Lock}
use Rattle.smb_access.specs.declared.open_row.OpenRow.{OpenRow}
use Rattle.smb_access.specs.Found.{is_read_only_file, is_pending, is_reached}
use Rattle.smb_access.specs.Opens.{has_open}

-- the times and attributes of a file that was written at a moment; of the attributes a tree keeps four ([MS-FSCC] 2.6)
abbrev pub written_basic : ℕ → Basic → Basic
written_basic moment basic = kept_basic (record basic { last_write_time = moment; change_time = moment })

-- the path of the entry of a number; the root's where none has it
abbrev pub path_numbered : List Row → ℕ → Path
path_numbered rows number = option_map_or (λ row. row.0) (numbered rows number) []

-- a path lies beneath another one: that is at its head, and is not all of it
abbrev pub is_beneath : Path → Path → Bool
is_beneath head path = is_within head path && not (is_same_path head path)

-- the locks of the file of an open that shows this
abbrev pub locks_shown : Table → Option View → List Lock
locks_shown locks view = option_map_or (λ (v : View). locks_on locks v.entry) view []

-- how many bytes of a file of this size there are from an offset on, at most so many
abbrev pub bytes_there : ℕ → ℕ → ℕ → ℕ
bytes_there size offset count = min count (size - offset)

-- the rows of a READ of so many bytes at an offset, by the most that one request may ask for, what its open shows, and
-- whether a lock bars the range
abbrev pub read_rows : ℕ → View → Bool → ℕ → ℕ → ℕ → List (RefusalRow ReadRefusal)
read_rows most view is_barred offset count minimum =
    (nat_lt most count, ReadRefusal.LengthTooGreat)
    ∷ (is_folder_kind view.kind, ReadRefusal.EntryIsDirectory)
    ∷ (not (is_reading view.access), ReadRefusal.ReadNotGranted)
    ∷ (is_barred, ReadRefusal.RangeLocked)
    ∷ (
      nat_lt 0 count && nat_le view.size offset || nat_lt (bytes_there view.size offset count) minimum,
      ReadRefusal.EndOfFile,
    )
    ∷ []

-- a lock of its file bars an open from reading so many bytes at an offset
abbrev pub keeps_from_reading : Table → ℕ → View → ℕ → ℕ → Bool
keeps_from_reading locks number view offset count =
    is_read_barred (locks_on locks view.entry) number (record { offset = offset; length = count })

-- the open was granted neither FILE_WRITE_DATA nor FILE_APPEND_DATA, or the latter alone, and the offset is before the
-- end of the file ([MS-SMB2] 3.3.5.13)
abbrev pub may_not_write : View → ℕ → Bool
may_not_write view offset =
    not (is_writing view.access) || not (has_any view.access.0 FILE_WRITE_DATA) && nat_lt offset view.size

-- the rows of a WRITE of so many bytes at an offset, by the most that one request may bring, what its open shows, whether
-- a lock bars the range, and whether there is no room for the bytes
abbrev pub write_rows : ℕ → View → Bool → ℕ → ℕ → Bool → List (RefusalRow WriteRefusal)
write_rows most view is_barred offset count is_full =
    (nat_lt most count, WriteRefusal.LengthTooGreat)
    ∷ (is_folder_kind view.kind, WriteRefusal.EntryIsDirectory)
    ∷ (may_not_write view offset, WriteRefusal.WriteNotGranted)
    ∷ (is_barred, WriteRefusal.RangeLocked)
    ∷ (nat_lt 0 count && is_full, WriteRefusal.NoSpaceLeft)
    ∷ []

-- there is no room for these bytes at an offset of a file: it would be longer than the limits let a file be, or the
-- space that files use pass the capacity
abbrev pub has_no_room : Content → ℕ → ℕ → List ℕ → Bool
has_no_room tree entry offset buffer =
    nat_lt tree.limits.file_bytes (offset + length buffer)
    || nat_lt tree.capacity (used_space (with_bytes tree entry offset buffer).rows)

-- a lock of its file bars an open from writing so many bytes at an offset
abbrev pub keeps_from_writing : Table → ℕ → View → ℕ → ℕ → Bool
keeps_from_writing locks number view offset count =
    is_write_barred (locks_on locks view.entry) number (record { offset = offset; length = count })

-- a file that was written: the bytes are at the offset, a gap before them is zeros ([MS-FSA] 2.1.5.3)
abbrev pub written_file : ℕ → List ℕ → ℕ → Entry → Entry
written_file offset buffer moment entry = record entry {
  bytes = written offset buffer entry.bytes;
  basic = written_basic moment entry.basic;
}

-- how a WRITE is refused where a tree refuses its bytes
abbrev pub refused_by_tree : TreeFault → RefusedBy WriteRefusal
refused_by_tree Full = ByRow WriteRefusal.NoSpaceLeft
refused_by_tree Absent = NoMemory
refused_by_tree ParentAbsent = NoMemory
refused_by_tree Exists = NoMemory
refused_by_tree NotEmpty = NoMemory
refused_by_tree TooDeep = NoMemory
refused_by_tree TreeFault.NoMemory = NoMemory

abbrev pub written_tree : Content → ℕ → ℕ → List ℕ → ℕ → Content
written_tree tree entry offset buffer moment =
    record tree { rows = changed (written_file offset buffer moment) tree.rows entry }

-- the entry that is shown is a file with FILE_ATTRIBUTE_READONLY ([MS-FSCC] 2.6)
abbrev pub shows_read_only_file : View → Bool
shows_read_only_file view = not (is_folder_kind view.kind) && has_any view.attributes.0 FILE_ATTRIBUTE_READONLY

-- entries are in the folder of a number
abbrev pub has_entries : List Row → ℕ → Bool
has_entries rows number = option_map_or (λ row. has_children rows row.0) (numbered rows number) false

-- the rows of an entry that is to be deleted, by what the open shows, and whether entries are in it
abbrev pub mark_rows : View → Bool → List (RefusalRow SetDispositionRefusal)
mark_rows view is_occupied =
    (view.entry == 1 || shows_read_only_file view, SetDispositionRefusal.EntryNotDeletable)
    ∷ (is_occupied, SetDispositionRefusal.DirectoryNotEmpty)
    ∷ []

-- the rows, whether the entry is to be deleted or no longer is: then the first alone
abbrev pub delete_rows : View → Bool → Bool → List (RefusalRow SetDispositionRefusal)
delete_rows view is_occupied is_deleted =
    (not (is_deleting view.access), SetDispositionRefusal.DeleteNotGranted)
    ∷ (if is_deleted then mark_rows view is_occupied else [])

-- an entry marked, or its mark taken away; what its opens are to delete when they are closed is left
abbrev pub delete_set : Bool → Entry → Entry
delete_set is_deleted entry = record entry { mark = is_deleted }

-- there is no room for a file of a number with this size: it is over the limit of a file, or the space that files use
-- would pass the capacity
abbrev pub has_no_space : Content → ℕ → ℕ → Bool
has_no_space tree entry size =
    nat_lt tree.limits.file_bytes size || nat_lt tree.capacity (used_space (with_size tree entry size).rows)

-- the rows, by what the open shows, and whether there is no room
abbrev pub size_rows : View → Bool → List (RefusalRow SetSizeRefusal)
size_rows view is_full =
    (is_folder_kind view.kind, SetSizeRefusal.EntryIsDirectory)
    ∷ (not (has_any view.access.0 FILE_WRITE_DATA), SetSizeRefusal.WriteNotGranted)
    ∷ (is_full, SetSizeRefusal.NoSpaceLeft)
    ∷ []

-- a file with this size at a moment: its bytes are cut, or have zeros behind them; the times of the last write and change
-- are the moment, also where the size is what it was ([MS-FSA] 2.1.5.15.4)
abbrev pub resized_file : ℕ → ℕ → Entry → Entry
resized_file size moment entry = record entry {
  bytes = resized size entry.bytes;
  basic = written_basic moment entry.basic;
}

-- nothing is set: an allocation size that is no less than the size before ([MS-FSA] 2.1.5.15.1)
abbrev pub leaves_size : ℕ → ℕ → Bool → Bool
leaves_size before size is_allocation = is_allocation && nat_le before size

-- a file whose size, or whose allocation size, is set at a moment
abbrev pub size_set : ℕ → Bool → ℕ → Entry → Entry
size_set size is_allocation moment entry =
    if leaves_size (length entry.bytes) size is_allocation then entry else resized_file size moment entry

-- one of the four times that are asked for is none
abbrev pub has_bad_time : BasicAsk → Bool
has_bad_time ask =
    is_bad_time ask.creation_time || is_bad_time ask.last_access_time || is_bad_time ask.last_write_time
    || is_bad_time ask.change_time

-- the rows, by what the open shows and what is asked
abbrev pub basic_rows : View → BasicAsk → List (RefusalRow SetBasicRefusal)
basic_rows view ask = (
  has_bad_time ask || not (is_folder_kind view.kind) && has_any ask.attributes.0 FILE_ATTRIBUTE_DIRECTORY,
  SetBasicRefusal.TimeOrAttributesInvalid,
)
    ∷ (not (is_writing_attributes view.access), SetBasicRefusal.AttributesNotGranted)
    ∷ []

-- the time of the last change: for a 0 it becomes the moment ([MS-FSA] 2.1.5.15.2)
abbrev pub change_time_set : ℕ → ℕ → ℕ → ℕ
change_time_set asked moment before = if asked == 0 then moment else time_set asked before

-- attributes as they are asked for, where they are not 0 ([MS-FSCC] 2.4.7)
abbrev pub attributes_set : ℕ → ℕ → ℕ
attributes_set asked before = if asked == 0 then before else asked

-- times and attributes as they are asked for at a moment; of the attributes a tree keeps four ([MS-FSCC] 2.6)
abbrev pub basic_set : BasicAsk → ℕ → Basic → Basic
basic_set ask moment basic = kept_basic (record {
  creation_time = time_set ask.creation_time basic.creation_time;
  last_access_time = time_set ask.last_access_time basic.last_access_time;
  last_write_time = time_set ask.last_write_time basic.last_write_time;
  change_time = change_time_set ask.change_time moment basic.change_time;
  attributes = record { 0 = attributes_set ask.attributes.0 basic.attributes.0 };
})

-- an entry with the times and attributes that are asked for
abbrev pub entry_set : BasicAsk → ℕ → Entry → Entry
entry_set ask moment entry = record entry { basic = basic_set ask moment entry.basic }

-- some open's entry lies beneath a path
abbrev pub has_open_beneath : List Row → List OpenRow → Path → Bool
has_open_beneath rows opens path = list_any (λ row. is_beneath path (path_numbered rows row.entry)) opens

-- an entry exists that is not replaced: a folder, a file with FILE_ATTRIBUTE_READONLY, or one that has an open
-- ([MS-FSA] 2.1.5.15.11)
abbrev pub is_not_replaced : List OpenRow → Option Entry → Bool
is_not_replaced opens found = option_map_or
    (λ entry. is_folder_kind entry.kind || is_read_only_file (Some entry) || has_open opens entry.number)
    found false

-- the rows of a rename from one path to another, which a name spells; by what the open shows, and whether an entry that
-- exists at the new path may be replaced (ReplaceIfExists)
abbrev pub rename_rows :
    List Row → List OpenRow → View → List ℕ → Bool → Path → Path → List (DecidingRow RenameRefusal)
rename_rows rows opens view name replace from to =
    (length name == 0 || is_separator (slice_index name 0), Some RenameRefusal.NameBeginsWithSeparator)
    ∷ (is_some (path_fault name), Some RenameRefusal.NameIsNoPath)
    ∷ (not (is_deleting view.access) || view.entry == 1, Some RenameRefusal.DeleteNotGranted)
    ∷ (view.mark, Some RenameRefusal.EntryToBeDeleted)
    ∷ (is_beneath from to, Some RenameRefusal.NewPathIsBeneath)
    ∷ (not (is_reached rows to), Some RenameRefusal.PathNotFound)
    ∷ (is_same_path from to, None)
    ∷ (is_folder_kind view.kind && has_open_beneath rows opens from, Some RenameRefusal.OpenBeneath)
    ∷ (is_pending rows to, Some RenameRefusal.TargetToBeDeleted)
    ∷ (is_some (entry_at rows to) && not replace, Some RenameRefusal.TargetExists)
    ∷ (is_not_replaced opens (entry_at rows to), Some RenameRefusal.TargetNotReplaceable)
    ∷ (would_be_too_deep rows from to, Some RenameRefusal.PathTooDeep)
    ∷ []

-- an entry's time of the last change becomes the moment; of the attributes a tree keeps four ([MS-FSCC] 2.6)
abbrev pub dated_basic : ℕ → Basic → Basic
dated_basic moment basic = kept_basic (record basic { change_time = moment })

abbrev pub dated : ℕ → Entry → Entry
dated moment entry = record entry { basic = dated_basic moment entry.basic }

-- the tree with the entry of a number moved, with all that lies beneath it, to the path that these components spell, at a
-- moment; a file that exists there is gone ([MS-FSA] 2.1.5.15.11)
abbrev pub renamed_tree : Content → ℕ → List (List ℕ) → ℕ → Content
renamed_tree tree entry parts moment = changed_in (dated moment) (moved tree entry parts) entry
