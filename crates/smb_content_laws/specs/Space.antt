-- The space that files use: the sum of their allocation sizes, never over the capacity, and given back by a removal.
use Rattle.std.specs.Prelude.{◌≡◌, ◌≢◌, ℕ, ◌+◌, ◌%◌, ◌<◌, ◌≤◌, Bool, true, false, max, sum, map, List, ◌&&◌, nat_le}
use Rattle.std.specs.Prelude.{length, None, Some}
use Rattle.smb_wire.specs.declared.nt_status.NtStatus.TheVariants.{Success}
use Rattle.smb_wire.specs.Dispositions.{overwrites_by}
use Rattle.smb_tree.specs.Content.{Row, entry_at, numbered, without, used_space}
use Rattle.smb_tree.specs.Entries.{Entry, allocation_size}
use Rattle.smb_access.specs.declared.open_row.OpenRow.{OpenRow}
use Rattle.smb_access.specs.Asked.{FileAsked}
use Rattle.smb_access.specs.Opens.{open_of}
use Rattle.smb_entry.specs.Rename.{path_named}
use Rattle.smb_opens.specs.Bytes.{write_status, written_to}
use Rattle.smb_opens.specs.Close.{closed, is_removed_with}
use Rattle.smb_opens.specs.Effect.{created}
use Rattle.smb_opens.specs.Found.{entry_asked}
use Rattle.smb_opens.specs.Good.{GoodStore}
use Rattle.smb_opens.specs.Renames.{renamed_through}
use Rattle.smb_opens.specs.SetInfo.{size_status, size_set_through}
use Rattle.smb_opens.specs.State.{StoreState}
use Rattle.smb_opens.specs.Steps.{StoreStep, writes, sets_size, stepped}

-- an allocation size is a whole number of clusters of 4,096 bytes, the least that the bytes fit into ([MS-FSCC] 2.4.4)
abbrev pub AllocationIsInClusters : Type 0
AllocationIsInClusters =
    (size : ℕ) → let space = allocation_size size in (space % 4096 ≡ 0) × (size ≤ space) × (space < size + 4096)

-- the space used is the sum of the allocation sizes of all entries, and a removal frees exactly what its entry took
abbrev pub UsedSpaceIsTheSum : Type 0
UsedSpaceIsTheSum =
    (rows : List Row) → (used_space rows ≡ sum (map (λ row. allocation_size (length row.1.bytes)) rows))
    × ((number : ℕ) (row : Row) → numbered rows number ≡ Some row →
    used_space (without rows number) + allocation_size (length row.1.bytes) ≡ used_space rows)

-- the space that a store uses
abbrev pub space_of : StoreState → ℕ
space_of state = used_space state.tree.rows

-- a CREATE takes no space: a new entry has no bytes, and one that is only opened has those that it had; and where it
-- overwrites a file it frees all that this took
abbrev pub ACreateTakesNoSpace : Type 0
ACreateTakesNoSpace =
    (state : StoreState) (ask : FileAsked) (moment : ℕ) →
    (overwrites_by ask.disposition ≡ false → space_of (created state ask moment) ≡ space_of state)
    × ((entry : Entry) → GoodStore state → overwrites_by ask.disposition ≡ true → entry_asked state ask ≡ Some entry →
    space_of (created state ask moment) + allocation_size (length entry.bytes) ≡ space_of state)

-- after a WRITE of some bytes a file takes the space of its size before or of the end of what was written, the greater;
-- and after its size is set, the space of that size
abbrev pub AFileTakesTheSpaceOfItsSize : Type 0
AFileTakesTheSpaceOfItsSize =
    (state : StoreState) (number moment : ℕ) (row : OpenRow) (before : Row) → open_of state.opens number ≡ Some row →
    numbered state.tree.rows row.entry ≡ Some before →
    let long = length before.1.bytes in
    ((offset : ℕ) (buffer : List ℕ) → 0 < length buffer →
    space_of (written_to state number offset buffer moment) + allocation_size long
    ≡ space_of state + allocation_size (max long (offset + length buffer)))
    × ((size : ℕ) (is_allocation : Bool) → (is_allocation && nat_le long size) ≡ false →
    space_of (size_set_through state number size is_allocation moment) + allocation_size long
    ≡ space_of state + allocation_size size)

-- a CLOSE that removes its entry frees exactly what this took, and any other CLOSE nothing
abbrev pub ACloseFreesWhatItRemoves : Type 0
ACloseFreesWhatItRemoves =
    (state : StoreState) (number : ℕ) (row : OpenRow) (before : Row) → open_of state.opens number ≡ Some row →
    numbered state.tree.rows row.entry ≡ Some before →
    (is_removed_with state number ≡ true →
    space_of (closed state number) + allocation_size (length before.1.bytes) ≡ space_of state)
    × (is_removed_with state number ≡ false → space_of (closed state number) ≡ space_of state)

-- a rename takes no space, and one that replaces a file frees what this took
abbrev pub ARenameFreesWhatItReplaces : Type 0
ARenameFreesWhatItReplaces =
    (state : StoreState) (number : ℕ) (name : List ℕ) (moment : ℕ) (row : OpenRow) → GoodStore state →
    open_of state.opens number ≡ Some row →
    let stood = entry_at state.tree.rows (path_named name) in
    let after = renamed_through state number name moment in
    (stood ≡ None → space_of after ≡ space_of state)
    × ((entry : Entry) → stood ≡ Some entry → entry.number ≢ row.entry →
    space_of after + allocation_size (length entry.bytes) ≡ space_of state)

-- a store that is within its capacity stays so, whatever request is performed: a WRITE and a SET_INFO of a size where
-- they have STATUS_SUCCESS, by the most bytes that one request may bring; and its capacity is as it was
abbrev pub SpaceStaysWithinCapacity : Type 0
SpaceStaysWithinCapacity =
    (most : ℕ) (state : StoreState) (step : StoreStep) → space_of state ≤ state.tree.capacity →
    ((number offset : ℕ) (buffer : List ℕ) (moment : ℕ) → step ≡ writes number offset buffer moment →
    write_status state most number offset buffer ≡ Success) →
    ((number size : ℕ) (is_allocation : Bool) (moment : ℕ) → step ≡ sets_size number size is_allocation moment →
    size_status state number size ≡ Success) →
    (space_of (stepped state step) ≤ state.tree.capacity) × ((stepped state step).tree.capacity ≡ state.tree.capacity)
