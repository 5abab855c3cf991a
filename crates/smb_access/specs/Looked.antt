-- For the proofs; nothing here need be believed.
-- What the code looks at once for a CREATE, and the rows of its table over that.
use Rattle.std.specs.Prelude.{◌==◌, ◌||◌, ◌&&◌, Bool, false, not, nat_lt, List, [], ◌∷◌, ◌++◌, Option, None, Some, slice_index}
use Rattle.std.specs.Option.{is_none, is_some}
use Rattle.smb_wire.specs.Access.{has_any}
use Rattle.smb_wire.specs.Attributes.{FILE_ATTRIBUTE_READONLY}
use Rattle.smb_wire.specs.Dispositions.{overwrites_by, must_exist_by, must_be_new_by}
use Rattle.smb_wire.specs.declared.nt_status.NtStatus.TheVariants.{DiskFull}
use Rattle.smb_wire.specs.NtStatus.{status_code}
use Rattle.smb_wire.specs.Paths.{is_separator, path_fault}
use Rattle.smb_tree.specs.Entries.{Entry, is_folder_kind}
use Rattle.smb_access.specs.declared.open_row.OpenRow.{OpenRow}
use Rattle.smb_tree.specs.declared.fault.TreeFault.{TreeFault}
use Rattle.smb_tree.specs.declared.fault.TreeFault.TheVariants.{Absent, ParentAbsent, Exists, NotEmpty, TooDeep, Full, NoMemory}
use Rattle.smb_access.specs.declared.fault.StoreFault.{StoreFault}
use Rattle.smb_access.specs.declared.fault.StoreFault.TheVariants.{Status, NoMemory as NoRoom}
use Rattle.smb_access.specs.declared.found.Target.{Target}
use Rattle.smb_access.specs.declared.found.CreateLookup.{CreateLookup}
use Rattle.smb_access.specs.Access.{granted, is_writing, is_deleting}
use Rattle.smb_access.specs.Parts.{is_bad_access, asks_folder, asks_file, asks_by_number, asks_delete, asks_read_only, asks_past_reading, has_conflict}
use Rattle.smb_access.specs.Asked.{FileAsked}
use Rattle.smb_refusals.specs.Rows.{RefusalRow}
use Rattle.smb_refusals.specs.declared.create.CreateRefusal.{CreateRefusal}
use Rattle.smb_refusals.specs.declared.create.CreateRefusal.TheVariants.{UnknownDisposition, DirectoryToBeOverwritten, NameBeginsWithSeparator, OpenByFileId, NameIsNoPath, NoAccessAsked, SessionMayOnlyRead, PathNotFound, EntryToBeDeleted, EntryAbsent, SessionMayNotAdd, EntryExists, EntryIsDirectory, EntryIsFile, FileIsReadOnly, EntryNotDeletable, OpenConflicts, NoOpenLeft, NoEntryLeft}
use Rattle.smb_access.specs.Sharing.{use_asked}

-- of an entry, what decides
abbrev pub target_of : Entry → Target
target_of entry = record { number = entry.number; kind = entry.kind; basic = entry.basic; mark = entry.mark }

abbrev pub is_file_target : Option Target → Bool
is_file_target None = false
is_file_target (Some target) = not (is_folder_kind target.kind)

abbrev pub is_folder_target : Option Target → Bool
is_folder_target None = false
is_folder_target (Some target) = is_folder_kind target.kind

abbrev pub is_read_only_target : Option Target → Bool
is_read_only_target None = false
is_read_only_target (Some target) = not (is_folder_kind target.kind) && has_any target.basic.attributes.0 FILE_ATTRIBUTE_READONLY

abbrev pub is_marked_target : Option Target → Bool
is_marked_target None = false
is_marked_target (Some target) = target.mark

abbrev pub is_root_target : Option Target → Bool
is_root_target None = false
is_root_target (Some target) = target.number == 1

abbrev pub target_becomes_read_only : FileAsked → Option Target → Bool
target_becomes_read_only ask None = not (asks_folder ask) && asks_read_only ask
target_becomes_read_only ask (Some target) = not (is_folder_kind target.kind) && overwrites_by ask.disposition && asks_read_only ask

abbrev pub target_conflicts : List OpenRow → FileAsked → Option Target → Bool
target_conflicts opens ask None = false
target_conflicts opens ask (Some target) = has_conflict opens target.number (use_asked ask (granted ask.access ask.read_only (is_read_only_target (Some target))))

-- the first five rows, which need the request alone
abbrev pub asked_rows : FileAsked → List (RefusalRow CreateRefusal)
asked_rows ask =
    (nat_lt 5 ask.disposition, UnknownDisposition)
    ∷ (asks_folder ask && (asks_file ask || overwrites_by ask.disposition), DirectoryToBeOverwritten)
    ∷ (is_separator (slice_index ask.name 0), NameBeginsWithSeparator)
    ∷ (asks_by_number ask, OpenByFileId)
    ∷ (is_some (path_fault ask.name), NameIsNoPath)
    ∷ []

-- rows 6 to 10, with 6b and 9b: whether an entry may be there
abbrev pub place_rows : FileAsked → CreateLookup → List (RefusalRow CreateRefusal)
place_rows ask found = (
  is_bad_access ask.access
      || asks_delete ask && not (is_deleting (granted ask.access ask.read_only (is_read_only_target found.target))),
  NoAccessAsked,
)
    ∷ (asks_past_reading ask (granted ask.access ask.read_only (is_read_only_target found.target)), SessionMayOnlyRead)
    ∷ (not found.reached, PathNotFound)
    ∷ (found.pending, EntryToBeDeleted)
    ∷ (is_none found.target && must_exist_by ask.disposition, EntryAbsent)
    ∷ (ask.read_only && is_none found.target, SessionMayNotAdd)
    ∷ (is_some found.target && must_be_new_by ask.disposition, EntryExists)
    ∷ []

-- rows 11 to 14: whether what is asked for suits the entry
abbrev pub kind_rows : FileAsked → Option Target → List (RefusalRow CreateRefusal)
kind_rows ask target =
    (is_folder_target target && (asks_file ask || overwrites_by ask.disposition), EntryIsDirectory)
    ∷ (is_file_target target && asks_folder ask, EntryIsFile)
    ∷ (
      is_read_only_target target
          && (overwrites_by ask.disposition || is_writing (granted ask.access ask.read_only (is_read_only_target target))),
      FileIsReadOnly,
    )
    ∷ (
      asks_delete ask && (is_root_target target || is_read_only_target target || target_becomes_read_only ask target),
      EntryNotDeletable,
    )
    ∷ []

-- rows 16 and 17: whether there is room
abbrev pub room_rows : CreateLookup → List (RefusalRow CreateRefusal)
room_rows found =
    (found.opens_full, NoOpenLeft)
    ∷ (is_none found.target && found.entries_full, NoEntryLeft)
    ∷ []

-- rows 6 to 17, with 6b and 9b, by what was found and the opens
abbrev pub found_rows : List OpenRow → FileAsked → CreateLookup → List (RefusalRow CreateRefusal)
found_rows opens ask found =
    place_rows ask found
    ++ (kind_rows ask found.target ++ ((target_conflicts opens ask found.target, OpenConflicts) ∷ room_rows found))

-- a refusal of the tree, as the store tells it
abbrev pub refusal_of : TreeFault → StoreFault
refusal_of Full = Status (status_code DiskFull)
refusal_of Absent = NoRoom
refusal_of ParentAbsent = NoRoom
refusal_of Exists = NoRoom
refusal_of NotEmpty = NoRoom
refusal_of TooDeep = NoRoom
refusal_of NoMemory = NoRoom
