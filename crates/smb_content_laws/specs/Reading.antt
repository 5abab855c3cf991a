-- What a READ gives: the bytes that were last written there, and zeros where none were.
use Rattle.std.specs.Prelude.{◌≡◌, ◌⊎◌, ℕ, ◌+◌, ◌-◌, ◌<◌, ◌≤◌, min, true, false, List, [], length, take, drop, replicate, slice_get}
use Rattle.std.specs.Prelude.{None, Some, is_some}
use Rattle.smb_wire.specs.declared.nt_status.NtStatus.TheVariants.{Success}
use Rattle.smb_wire.specs.Dispositions.{overwrites_by}
use Rattle.smb_tree.specs.Content.{Row, numbered, bytes_of}
use Rattle.smb_access.specs.declared.open_row.OpenRow.{OpenRow}
use Rattle.smb_access.specs.Asked.{FileAsked}
use Rattle.smb_access.specs.Opens.{open_of}
use Rattle.smb_opens.specs.Bytes.{read_status, file_bytes, written_to}
use Rattle.smb_opens.specs.Effect.{created, create_result}
use Rattle.smb_opens.specs.Found.{entry_asked}
use Rattle.smb_opens.specs.Good.{GoodStore}
use Rattle.smb_opens.specs.SetInfo.{size_set_through}
use Rattle.smb_opens.specs.State.{StoreState}
use Rattle.smb_opens.specs.Steps.{StoreStep, stepped_all, NoneChanges}

-- what a READ that succeeds gives is the file's, byte for byte from its offset on: as many as it asks for or as there
-- are, and at least so many as it wants; and where it asks for some it gives some ([MS-SMB2] 3.3.5.12)
abbrev pub AReadGivesWhatIsThere : Type 0
AReadGivesWhatIsThere =
    (state : StoreState) (most number offset count minimum : ℕ) (row : OpenRow) →
    open_of state.opens number ≡ Some row → read_status state most number offset count minimum ≡ Success →
    let given = file_bytes state number offset count in
    let bytes = bytes_of state.tree.rows row.entry in
    (length given ≡ min count (length bytes - offset))
    × ((k : ℕ) → k < length given → slice_get given k ≡ slice_get bytes (offset + k))
    × (minimum ≤ length given) × (0 < count → 0 < length given)

-- requests of which none writes to a file, overwrites it or sets its size leave its bytes as they are, as long as it
-- exists
abbrev pub AFileKeepsItsBytes : Type 0
AFileKeepsItsBytes =
    (state : StoreState) (steps : List StoreStep) (entry : ℕ) (before after : Row) → GoodStore state →
    numbered state.tree.rows entry ≡ Some before → NoneChanges entry state steps →
    numbered (stepped_all state steps).tree.rows entry ≡ Some after → after.1.bytes ≡ before.1.bytes

-- some requests, of which none changes the bytes of a file, and then what is read through an open of it, from an offset
-- on, at most so many bytes; the file exists
pub record IsReadLater (state : StoreState) (entry offset count : ℕ) (given : List ℕ) : Type 0 where
  pub steps : List StoreStep
  pub number : ℕ
  pub reader : OpenRow
  pub quiet : NoneChanges entry state steps
  pub opened : open_of (stepped_all state steps).opens number ≡ Some reader
  pub same : reader.entry ≡ entry
  pub there : is_some (numbered (stepped_all state steps).tree.rows entry) ≡ true
  pub gives : file_bytes (stepped_all state steps) number offset count ≡ given

-- what is read after a WRITE, through any open of the file, as long as nothing changes it: any part of what was put; of
-- what the WRITE does not cover what was there; and between the end that the file had and what was put past it zeros
-- ([MS-FSA] 2.1.5.3)
abbrev pub WhatIsWrittenIsReadAgain : Type 0
WhatIsWrittenIsReadAgain =
    (state : StoreState) (number at : ℕ) (buffer : List ℕ) (moment : ℕ) (writer : OpenRow)
    (offset count : ℕ) (given : List ℕ) → GoodStore state → open_of state.opens number ≡ Some writer →
    IsReadLater (written_to state number at buffer moment) writer.entry offset count given →
    let before = bytes_of state.tree.rows writer.entry in
    ((place : ℕ) → offset ≡ at + place → place + count ≤ length buffer → given ≡ take count (drop place buffer))
    × (offset + count ≤ length before → (offset + count ≤ at) ⊎ (at + length buffer ≤ offset) →
    given ≡ take count (drop offset before))
    × (0 < length buffer → length before ≤ offset → offset + count ≤ at → given ≡ replicate count 0)

-- and after another size: of what is left in front what was there, and of what a longer size adds zeros
-- ([MS-FSA] 2.1.5.15.4)
abbrev pub ASizeLeavesTheFront : Type 0
ASizeLeavesTheFront =
    (state : StoreState) (number size moment : ℕ) (setter : OpenRow) (offset count : ℕ) (given : List ℕ) →
    GoodStore state → open_of state.opens number ≡ Some setter →
    IsReadLater (size_set_through state number size false moment) setter.entry offset count given →
    offset + count ≤ size →
    let before = bytes_of state.tree.rows setter.entry in
    (offset + count ≤ length before → given ≡ take count (drop offset before))
    × (length before ≤ offset → given ≡ replicate count 0)

-- a file that a CREATE adds or overwrites has no bytes
abbrev pub AMadeFileIsEmpty : Type 0
AMadeFileIsEmpty =
    (state : StoreState) (ask : FileAsked) (moment offset count : ℕ) → GoodStore state →
    (entry_asked state ask ≡ None) ⊎ (overwrites_by ask.disposition ≡ true) →
    file_bytes (created state ask moment) (create_result state ask moment).number offset count ≡ []
