-- What follows from the definitions; what a user would say of a store is in smb_name_laws and smb_content_laws.
use Rattle.std.specs.Prelude.{◌≡◌, ◌≢◌, ◌⊎◌, ℕ, ◌-◌, ◌==◌, Bool, true, false, bit_and, min, if◌then◌else◌}
use Rattle.std.specs.Prelude.{List, length, take, drop, replicate, Option, Some, Contains}
use Rattle.std.specs.Option.{option_map}
use Rattle.smb_wire.specs.declared.limits.share.Limits.{Limits}
use Rattle.smb_wire.specs.declared.access.Access.{Access}
use Rattle.smb_wire.specs.declared.access.ShareAccess.{ShareAccess}
use Rattle.smb_wire.specs.declared.nt_status.NtStatus.TheVariants.{Success}
use Rattle.smb_tree.specs.declared.entry.Kind.{Kind}
use Rattle.smb_tree.specs.Content.{Row, number_at, numbered, new_content_within}
use Rattle.smb_tree.specs.Entries.{Entry}
use Rattle.smb_locks.specs.declared.lock.Lock.{Lock}
use Rattle.smb_locks.specs.Ranges.{Overlap}
use Rattle.smb_locks.specs.Table.{locks_on}
use Rattle.smb_access.specs.declared.open_row.OpenRow.{OpenRow}
use Rattle.smb_access.specs.declared.scan.Scan.{Scan}
use Rattle.smb_access.specs.Asked.{FileAsked}
use Rattle.smb_access.specs.Opens.{open_of, open_numbers}
use Rattle.smb_access.specs.Sharing.{is_conflict}
use Rattle.smb_entry.specs.Rename.{path_named}
use Rattle.smb_opens.specs.Bytes.{read_status, write_status}
use Rattle.smb_opens.specs.Create.{create_status}
use Rattle.smb_opens.specs.Found.{entry_asked}
use Rattle.smb_opens.specs.Good.{UnmarkedTree, GoodStore}
use Rattle.smb_opens.specs.Renames.{renamed_through}
use Rattle.smb_opens.specs.Scans.{scan_set}
use Rattle.smb_opens.specs.SetInfo.{size_set_through}
use Rattle.smb_opens.specs.State.{StoreState}
use Rattle.smb_opens.specs.Views.{open_view}

-- a tree that has the root alone is good, under all limits, and has no mark
abbrev pub ANewTreeIsGood : Type 0
ANewTreeIsGood = (limits : Limits) (moment capacity : ℕ) → UnmarkedTree (new_content_within limits moment capacity)

-- a conflict is one both ways, and more access never removes it
abbrev pub AConflictIsMutual : Type 0
AConflictIsMutual =
    (access : Access) (share : ShareAccess) (other : Access × ShareAccess) →
    (is_conflict (access, share) other ≡ is_conflict other (access, share))
    × ((more : Access) → bit_and access.0 more.0 ≡ access.0 → is_conflict (access, share) other ≡ true →
    is_conflict (more, share) other ≡ true)

-- as long as a lock is held, what an open has locked as its own alone no other open of the file reads or writes, and what
-- is under a shared lock no open of the file writes, the one that holds it neither ([MS-SMB2] 3.3.5.12, 3.3.5.13)
abbrev pub ALockKeepsOthersOut : Type 0
ALockKeepsOthersOut =
    (state : StoreState) (most number offset count minimum : ℕ) (buffer : List ℕ) (row : OpenRow) (lock : Lock) →
    open_of state.opens number ≡ Some row → Contains (locks_on state.locks row.entry) lock →
    (lock.exclusive ≡ true → lock.holder ≢ number → Overlap lock.range (record { offset = offset; length = count }) →
    read_status state most number offset count minimum ≢ Success)
    × ((lock.exclusive ≡ false) ⊎ (lock.holder ≢ number) →
    Overlap lock.range (record { offset = offset; length = length buffer }) →
    write_status state most number offset buffer ≢ Success)

-- a SET_INFO of a file's size leaves its path, and the bytes before the smaller of both sizes; behind those that there
-- were are zeros; and the size is the one that is set, or of an allocation size and the size before the smaller
abbrev pub ASetOfASizeKeepsTheFront : Type 0
ASetOfASizeKeepsTheFront =
    (state : StoreState) (number size : ℕ) (is_allocation : Bool) (moment : ℕ) (row : OpenRow) (before after : Row) →
    open_of state.opens number ≡ Some row → numbered state.tree.rows row.entry ≡ Some before →
    numbered (size_set_through state number size is_allocation moment).tree.rows row.entry ≡ Some after →
    let front = min size (length before.1.bytes) in
    (after.0 ≡ before.0) × (length after.1.bytes ≡ (if is_allocation then front else size))
    × (take front after.1.bytes ≡ take front before.1.bytes)
    × (drop (length before.1.bytes) after.1.bytes ≡ replicate (length after.1.bytes - length before.1.bytes) 0)

-- an entry that is marked isn't opened by any CREATE
abbrev pub AMarkedEntryIsNotOpened : Type 0
AMarkedEntryIsNotOpened =
    (state : StoreState) (ask : FileAsked) (entry : Entry) → entry_asked state ask ≡ Some entry → entry.mark ≡ true →
    create_status state ask ≢ Success

-- a rename leaves of every entry the kind and the bytes, but of one that it replaces
abbrev pub ARenameKeepsBytes : Type 0
ARenameKeepsBytes =
    (state : StoreState) (number : ℕ) (name : List ℕ) (moment : ℕ) (row : OpenRow) (entry : ℕ) → GoodStore state →
    open_of state.opens number ≡ Some row →
    (number_at state.tree.rows (path_named name) ≡ Some entry → entry ≡ row.entry) →
    let kind_and_bytes : Option Row → Option (Kind × List ℕ) = option_map (λ found. (found.1.kind, found.1.bytes)) in
    kind_and_bytes (numbered (renamed_through state number name moment).tree.rows entry)
    ≡ kind_and_bytes (numbered state.tree.rows entry)

-- a scan that is set is of one open: it leaves the tree, the locks and the next number, the opens' numbers, every other
-- open, its own but for the scan, and what each open shows
abbrev pub AScanIsOfOneOpen : Type 0
AScanIsOfOneOpen =
    (state : StoreState) (number : ℕ) (scan : Scan) →
    let after = scan_set state number scan in
    (after.tree ≡ state.tree) × (after.locks ≡ state.locks) × (after.next ≡ state.next)
    × (open_numbers after.opens ≡ open_numbers state.opens)
    × ((other : ℕ) → other == number ≡ false → open_of after.opens other ≡ open_of state.opens other)
    × ((row : OpenRow) → open_of state.opens number ≡ Some row →
    open_of after.opens number ≡ Some (record row { scan = scan }))
    × ((other : ℕ) → open_view after other ≡ open_view state other)
