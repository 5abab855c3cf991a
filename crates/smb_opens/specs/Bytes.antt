-- READ and WRITE of a file through an open of a store ([MS-SMB2] 3.3.5.12, 3.3.5.13): why they are refused, and by
-- which status, and what they do. The rows are those of docs/PROFILE.md.
use Rattle.std.specs.Prelude.{ℕ, ◌==◌, List, [], length, take, drop, if◌then◌else◌, ◌||◌, ◌&&◌, not, nat_lt, ◌∷◌, ◌-◌, nat_le, ◌+◌, min, Option}
use Rattle.std.specs.Option.{option_map_or}
use Rattle.smb_wire.specs.declared.nt_status.NtStatus.{NtStatus}
use Rattle.smb_tree.specs.Content.{used_space, written, changed, bytes_of, changed_in}
use Rattle.smb_access.specs.declared.open_row.OpenRow.{OpenRow}
use Rattle.smb_access.specs.Opens.{open_of}
use Rattle.smb_opens.specs.State.{StoreState}
use Rattle.smb_opens.specs.declared.bytes.FilePart.{FilePart}
use Rattle.smb_opens.specs.Views.{refusal_through, status_through}
use Rattle.smb_refusals.specs.declared.file.ReadRefusal.{ReadRefusal}
use Rattle.smb_refusals.specs.declared.file.WriteRefusal.{WriteRefusal}
use Rattle.smb_refusals.specs.declared.refusal.Refusal.{Refusal}
use Rattle.smb_refusals.specs.Rows.{RefusalRow, with_statuses}
use Rattle.smb_access.specs.declared.view.View.{View}
use Rattle.smb_access.specs.Access.{is_writing, is_reading}
use Rattle.smb_locks.specs.Table.{locks_on}
use Rattle.smb_tree.specs.Entries.{is_folder_kind, kept_basic}
use Rattle.smb_wire.specs.Access.{has_any, FILE_WRITE_DATA}
use Rattle.smb_locks.specs.Conflicts.{is_read_barred, is_write_barred}

-- the rows of a READ of `count` bytes from an offset through the open of a number, which shows this: `most` bytes are
-- what one request may ask for at most, and `minimum` is its MinimumCount
abbrev pub read_refusals : StoreState → ℕ → ℕ → ℕ → ℕ → ℕ → View → List (RefusalRow ReadRefusal)
read_refusals state most number offset count minimum view =
    -- RD1. more is asked for than one request reads ([MS-SMB2] 3.3.5.12)
    (nat_lt most count, ReadRefusal.LengthTooGreat)
    -- RD2. the entry is a folder ([MS-FSA] 2.1.5.2)
    ∷ (is_folder_kind view.kind, ReadRefusal.EntryIsDirectory)
    -- RD3. the open was granted neither FILE_READ_DATA nor FILE_EXECUTE ([MS-SMB2] 3.3.5.12)
    ∷ (not (is_reading view.access), ReadRefusal.ReadNotGranted)
    -- RD4. another open's exclusive lock overlaps the range that is asked for ([MS-FSA] 2.1.5.2)
    ∷ (
      is_read_barred (locks_on state.locks view.entry) number (record { offset = offset; length = count }),
      ReadRefusal.RangeLocked,
    )
    -- RD5. bytes are asked for, and the offset is at the file's end or behind it; or fewer bytes would be read than the
    -- request's MinimumCount, as where that is above its Length ([MS-SMB2] 3.3.5.12)
    ∷ (
      nat_lt 0 count && nat_le view.size offset || nat_lt (min count (view.size - offset)) minimum,
      ReadRefusal.EndOfFile,
    )
    ∷ []

-- why it is refused, if it is
abbrev pub read_refusal : StoreState → ℕ → ℕ → ℕ → ℕ → ℕ → Option ReadRefusal
read_refusal state most number offset count minimum =
    refusal_through state number (read_refusals state most number offset count minimum)

-- its status
abbrev pub read_status : StoreState → ℕ → ℕ → ℕ → ℕ → ℕ → NtStatus
read_status state most number offset count minimum = status_through state number
    (λ view.
    with_statuses (λ refusal. Refusal.Read refusal) (read_refusals state most number offset count minimum view))

-- the bytes that it reads: those of the file from the offset on, at most so many
abbrev pub file_bytes : StoreState → ℕ → ℕ → ℕ → List ℕ
file_bytes state number offset count =
    option_map_or (λ (row : OpenRow). take count (drop offset (bytes_of state.tree.rows row.entry)))
    (open_of state.opens number) []

-- the bytes of a part of a file
abbrev pub part_bytes : StoreState → FilePart → List ℕ
part_bytes state part = take part.count (drop part.offset (bytes_of state.tree.rows part.entry))

-- the rows of a WRITE through the open of a number, which shows this, by the most bytes that one request may bring
abbrev pub write_refusals : StoreState → ℕ → ℕ → ℕ → List ℕ → View → List (RefusalRow WriteRefusal)
write_refusals state most number offset buffer view =
    let after = changed_in (λ entry. record entry { bytes = written offset buffer entry.bytes }) state.tree view.entry in
    -- WR1. more is given than one request writes ([MS-SMB2] 3.3.5.13)
    (nat_lt most (length buffer), WriteRefusal.LengthTooGreat)
    -- WR2. the entry is a folder ([MS-FSA] 2.1.5.3)
    ∷ (is_folder_kind view.kind, WriteRefusal.EntryIsDirectory)
    -- WR3. the open was granted neither FILE_WRITE_DATA nor FILE_APPEND_DATA, or the latter alone, and the offset is before
    -- the end of the file ([MS-SMB2] 3.3.5.13)
    ∷ (
      not (is_writing view.access) || not (has_any view.access.0 FILE_WRITE_DATA) && nat_lt offset view.size,
      WriteRefusal.WriteNotGranted,
    )
    -- WR4. another open's lock, or a shared one of its own, overlaps the range ([MS-FSA] 2.1.5.3)
    ∷ (
      is_write_barred (locks_on state.locks view.entry) number (record { offset = offset; length = length buffer }),
      WriteRefusal.RangeLocked,
    )
    -- WR5. there are bytes, and no room for them: the file would be longer than the limits let a file be, or the space
    -- that files use pass the capacity ([MS-FSA] 2.1.5.3)
    ∷ (
      nat_lt 0 (length buffer)
          && (nat_lt state.tree.limits.file_bytes (offset + length buffer) || nat_lt state.tree.capacity (used_space after.rows)),
      WriteRefusal.NoSpaceLeft,
    )
    ∷ []

-- why it is refused, if it is
abbrev pub write_refusal : StoreState → ℕ → ℕ → ℕ → List ℕ → Option WriteRefusal
write_refusal state most number offset buffer =
    refusal_through state number (write_refusals state most number offset buffer)

-- its status
abbrev pub write_status : StoreState → ℕ → ℕ → ℕ → List ℕ → NtStatus
write_status state most number offset buffer = status_through state number
    (λ view. with_statuses (λ refusal. Refusal.Write refusal) (write_refusals state most number offset buffer view))

-- the store after a WRITE that succeeds: the bytes are at the offset, a gap before them is zeros, and the times of the last
-- write and change are the moment ([MS-FSA] 2.1.5.3); no bytes change nothing
abbrev pub written_to : StoreState → ℕ → ℕ → List ℕ → ℕ → StoreState
written_to state number offset buffer moment = option_map_or
    (λ (row : OpenRow). if length buffer == 0 then state else record state {
      tree = record state.tree {
        rows = changed
            (λ entry. record entry {
              bytes = written offset buffer entry.bytes;
              basic = kept_basic (record entry.basic { last_write_time = moment; change_time = moment });
            })
            state.tree.rows row.entry;
      };
    })
    (open_of state.opens number) state
