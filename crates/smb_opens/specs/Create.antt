-- Why a CREATE is refused, and by which status ([MS-SMB2] 3.3.5.9): the rows in order, the first whose condition holds
-- decides.
use Rattle.std.specs.Prelude.{◌||◌, ◌&&◌, false, not, nat_lt, List, [], ◌∷◌, slice_index, Option, ◌-◌, nat_le, ◌==◌, bit_and, length}
use Rattle.std.specs.Option.{is_none, is_some, option_map_or}
use Rattle.smb_wire.specs.declared.access.Access.{Access}
use Rattle.smb_wire.specs.Dispositions.{overwrites_by, must_exist_by, must_be_new_by}
use Rattle.smb_wire.specs.declared.nt_status.NtStatus.{NtStatus}
use Rattle.smb_refusals.specs.declared.create.CreateRefusal.{CreateRefusal}
use Rattle.smb_refusals.specs.declared.create.CreateRefusal.TheVariants.{UnknownDisposition, DirectoryToBeOverwritten, NameBeginsWithSeparator, OpenByFileId, NameIsNoPath, NoAccessAsked, SessionMayOnlyRead, PathNotFound, EntryToBeDeleted, EntryAbsent, SessionMayNotAdd, EntryExists, EntryIsDirectory, EntryIsFile, FileIsReadOnly, EntryNotDeletable, OpenConflicts, NoOpenLeft, NoEntryLeft}
use Rattle.smb_refusals.specs.declared.refusal.Refusal.{Refusal}
use Rattle.smb_wire.specs.Paths.{is_separator, path_fault}
use Rattle.smb_tree.specs.Entries.{Entry, is_folder, is_folder_kind}
use Rattle.smb_access.specs.Access.{granted, is_writing, is_deleting, is_past_reading}
use Rattle.smb_access.specs.Asked.{FileAsked}
use Rattle.smb_access.specs.Found.{path_asked, is_read_only_file, is_pending, is_reached}
use Rattle.smb_opens.specs.Found.{entry_asked}
use Rattle.smb_access.specs.Sharing.{use_asked, is_conflict}
use Rattle.smb_opens.specs.State.{StoreState}
use Rattle.smb_refusals.specs.Rows.{RefusalRow, first_refusal, StatusRow, first_status, with_statuses}
use Rattle.smb_wire.specs.Counters.{is_spent}
use Rattle.smb_wire.specs.Access.{has_any}
use Rattle.smb_wire.specs.Attributes.{FILE_ATTRIBUTE_READONLY}
use Rattle.std.specs.List.{list_any}
use Rattle.smb_wire.specs.CreateOptions.{FILE_DIRECTORY_FILE, FILE_NON_DIRECTORY_FILE, FILE_DELETE_ON_CLOSE, FILE_OPEN_BY_FILE_ID}

-- the access that a request is granted, by the entry that it names (3.3.5.9)
abbrev pub access_granted : StoreState → FileAsked → Access
access_granted state ask = granted ask.access ask.read_only (is_read_only_file (entry_asked state ask))

-- the rows of a CREATE that names this entry, as docs/PROFILE.md has them
abbrev pub create_refusals : StoreState → FileAsked → Option Entry → List (RefusalRow CreateRefusal)
create_refusals state ask entry =
    -- the access that it is granted, by the entry (3.3.5.9)
    let access = granted ask.access ask.read_only (is_read_only_file entry) in
    -- a file is added or overwritten, and gets FILE_ATTRIBUTE_READONLY
    let becomes_read_only =
    option_map_or
    (λ found. not (is_folder_kind found.kind) && overwrites_by ask.disposition) entry
    (not (has_any ask.options FILE_DIRECTORY_FILE))
    && has_any ask.attributes FILE_ATTRIBUTE_READONLY in
    -- C1. no disposition ([MS-SMB2] 2.2.13)
    (nat_lt 5 ask.disposition, UnknownDisposition)
    -- C2. a folder is asked for that is to be a file, or to be overwritten (2.2.13)
    ∷ (
      has_any ask.options FILE_DIRECTORY_FILE
          && (has_any ask.options FILE_NON_DIRECTORY_FILE || overwrites_by ask.disposition),
      DirectoryToBeOverwritten,
    )
    -- C3. the name begins with a separator (2.2.13)
    ∷ (is_separator (slice_index ask.name 0), NameBeginsWithSeparator)
    -- C4. an entry is asked for by its number (3.3.5.9)
    ∷ (has_any ask.options FILE_OPEN_BY_FILE_ID, OpenByFileId)
    -- C5. the name has a component that is not lawful, or more than 32 ([MS-FSCC] 2.1.5)
    ∷ (is_some (path_fault ask.name), NameIsNoPath)
    -- C6. no access is asked for, or a bit besides the rights, MAXIMUM_ALLOWED and the four generic ones; or
    -- FILE_DELETE_ON_CLOSE, and DELETE is not granted ([MS-SMB2] 2.2.13.1, [MS-FSA] 2.1.5.1)
    ∷ (
      ask.access == 0 || not (bit_and ask.access 0xF21F01FF == ask.access)
          || has_any ask.options FILE_DELETE_ON_CLOSE
          && not (is_deleting access),
      NoAccessAsked,
    )
    -- C6b. the session may only read, and asks for a right to change something, or to create or overwrite an entry
    -- ([MS-SMB2] 3.3.5.9)
    ∷ (
      ask.read_only
          && (is_past_reading access || must_be_new_by ask.disposition || overwrites_by ask.disposition),
      SessionMayOnlyRead,
    )
    -- C7. an entry above the path is absent, or a file ([MS-FSA] 2.1.5.1)
    ∷ (not (is_reached state.tree.rows (path_asked ask)), PathNotFound)
    -- C8. the entry or its folder is marked, so it is about to be deleted ([MS-FSA] 2.1.5.1)
    ∷ (is_pending state.tree.rows (path_asked ask), EntryToBeDeleted)
    -- C9. the entry is absent, and has to exist ([MS-FSA] 2.1.5.1)
    ∷ (is_none entry && must_exist_by ask.disposition, EntryAbsent)
    -- C9b. the entry is absent, so it would be created, and the session may only read ([MS-SMB2] 3.3.5.9)
    ∷ (ask.read_only && is_none entry, SessionMayNotAdd)
    -- C10. it exists, and has to be new ([MS-FSA] 2.1.5.1)
    ∷ (is_some entry && must_be_new_by ask.disposition, EntryExists)
    -- C11. it is a folder, where a file is asked for or bytes are to be overwritten ([MS-FSA] 2.1.5.1.2)
    ∷ (
      is_folder entry && (has_any ask.options FILE_NON_DIRECTORY_FILE || overwrites_by ask.disposition),
      EntryIsDirectory,
    )
    -- C12. it is a file, where a folder is asked for ([MS-FSA] 2.1.5.1.2)
    ∷ (
      option_map_or (λ found. not (is_folder_kind found.kind)) entry false && has_any ask.options FILE_DIRECTORY_FILE,
      EntryIsFile,
    )
    -- C13. it is a read-only file, and is to be overwritten or written ([MS-FSA] 2.1.5.1.2)
    ∷ (
      is_read_only_file entry
          && (overwrites_by ask.disposition || is_writing access),
      FileIsReadOnly,
    )
    -- C14. it is to be deleted on close, and is the root (of number 1), or a file that is read-only or becomes so
    -- ([MS-FSA] 2.1.5.1.1, 2.1.5.1.2)
    ∷ (
      has_any ask.options FILE_DELETE_ON_CLOSE
          && (option_map_or (λ found. found.number == 1) entry false || is_read_only_file entry || becomes_read_only),
      EntryNotDeletable,
    )
    -- C15. it has an open that this one conflicts with ([MS-FSA] 2.1.5.1.2)
    ∷ (
      option_map_or
          (λ found.
          list_any
          (λ row. row.entry == found.number && is_conflict (use_asked ask access) (row.access, row.share))
          state.opens)
          entry false,
      OpenConflicts,
    )
    -- C16. as many opens exist as the limits let be, or their numbers are spent
    ∷ (nat_le state.tree.limits.opens (length state.opens) || is_spent 64 state.next, NoOpenLeft)
    -- C17. it is absent, and as many entries exist besides the root as the limits let be, or their numbers are spent
    ∷ (
      is_none entry && (nat_le state.tree.limits.entries (length state.tree.rows - 1) || is_spent 64 state.tree.next),
      NoEntryLeft,
    )
    ∷ []

-- why a CREATE is refused, if it is (3.3.5.9)
abbrev pub create_refusal : StoreState → FileAsked → Option CreateRefusal
create_refusal state ask = first_refusal (create_refusals state ask (entry_asked state ask))

-- the rows by their statuses
abbrev pub create_rows : StoreState → FileAsked → Option Entry → List StatusRow
create_rows state ask entry = with_statuses (λ refusal. Refusal.Create refusal) (create_refusals state ask entry)

-- the status of a CREATE (3.3.5.9)
abbrev pub create_status : StoreState → FileAsked → NtStatus
create_status state ask = first_status (create_rows state ask (entry_asked state ask))
