-- What a SET_INFO and a WRITE set of an entry, and what they leave, in a user's words ([MS-FSA] 2.1.5.15, 2.1.5.3).
use Rattle.std.specs.Prelude.{◌≡◌, ◌≢◌, ◌⊎◌, ℕ, ◌-◌, ◌<◌, ◌≤◌, ◌^◌, Bool, true, false, List, [], ◌∷◌, length, bit_and, Some, is_some}
use Rattle.std.specs.List.{AllByRecursion}
use Rattle.smb_tree.specs.Content.{Path, numbered}
use Rattle.smb_tree.specs.Entries.{Entry}
use Rattle.smb_access.specs.declared.open_row.OpenRow.{OpenRow}
use Rattle.smb_access.specs.Opens.{open_of}
use Rattle.smb_entry.specs.declared.ask.BasicAsk.{BasicAsk}
use Rattle.smb_opens.specs.Bytes.{written_to}
use Rattle.smb_opens.specs.SetInfo.{delete_set_through, size_set_through, basic_set_through}
use Rattle.smb_opens.specs.State.{StoreState}

-- the open of a number is of the entry at a path
pub record IsOpenOf (state : StoreState) (number : ℕ) (row : OpenRow) (path : Path) (entry : Entry) : Type 0 where
  pub opened : open_of state.opens number ≡ Some row
  pub found : numbered state.tree.rows row.entry ≡ Some (path, entry)

-- a WRITE, and a SET_INFO of a mark, of a size or of times, changes no entry but its open's; and this exists afterwards
-- exactly where it existed ([MS-FSA] 2.1.5.3, 2.1.5.15)
abbrev pub RequestsChangeTheirEntryAlone : Type 0
RequestsChangeTheirEntryAlone =
    (state : StoreState) (number offset size moment : ℕ) (buffer : List ℕ) (is_deleted is_allocation : Bool)
    (times : BasicAsk) (row : OpenRow) → open_of state.opens number ≡ Some row →
    AllByRecursion
    (λ (after : StoreState).
    ((other : ℕ) → other ≢ row.entry → numbered after.tree.rows other ≡ numbered state.tree.rows other)
    × (is_some (numbered after.tree.rows row.entry) ≡ is_some (numbered state.tree.rows row.entry)))
    (written_to state number offset buffer moment ∷ delete_set_through state number is_deleted
    ∷ size_set_through state number size is_allocation moment ∷ basic_set_through state number times moment ∷ [])

-- after a SET_INFO of the mark of an open's entry this is marked, or no longer, as was asked for; nothing else of it is
-- changed ([MS-FSA] 2.1.5.15.3)
abbrev pub AMarkIsSetAsAskedFor : Type 0
AMarkIsSetAsAskedFor =
    (state : StoreState) (number : ℕ) (is_deleted : Bool) (row : OpenRow) (path : Path) (entry : Entry) →
    IsOpenOf state number row path entry →
    numbered (delete_set_through state number is_deleted).tree.rows row.entry
    ≡ Some (path, record entry { mark = is_deleted })

-- a time is set by what is asked for: one that is asked for it is; where 0 is asked for it is a given one; and where -1
-- or -2 is, in 64 bits, it is what it was ([MS-FSCC] 2.4.7)
pub record IsTimeSet (asked before at_zero time : ℕ) : Type 0 where
  pub set : 0 < asked → asked < 2 ^ 63 → time ≡ asked
  pub zero : asked ≡ 0 → time ≡ at_zero
  pub left : (asked ≡ 2 ^ 64 - 1) ⊎ (asked ≡ 2 ^ 64 - 2) → time ≡ before

-- two entries have the same number, kind, spelling and mark
pub record HasKeptItsName (one other : Entry) : Type 0 where
  pub number : one.number ≡ other.number
  pub kind : one.kind ≡ other.kind
  pub spelling : one.spelling ≡ other.spelling
  pub mark : one.mark ≡ other.mark

-- after a SET_INFO of times and attributes the open's entry has the times that were asked for; where 0 was asked for as
-- the last change this is at the moment, and as another time this is as it was; of the attributes READONLY 1, HIDDEN 2,
-- SYSTEM 4 and ARCHIVE 0x20 it has those that were asked for, and where 0 was asked for those that it had; it is at its
-- path, with its number, kind, spelling, mark and bytes ([MS-FSA] 2.1.5.15.2, [MS-FSCC] 2.6)
abbrev pub TimesAreSetAsAskedFor : Type 0
TimesAreSetAsAskedFor =
    (state : StoreState) (number : ℕ) (ask : BasicAsk) (moment : ℕ) (row : OpenRow) (path : Path) (entry : Entry) →
    IsOpenOf state number row path entry →
    let was = entry.basic in
    let rows = (basic_set_through state number ask moment).tree.rows in
    (after : Entry) × (numbered rows row.entry ≡ Some (path, after))
    × IsTimeSet ask.creation_time was.creation_time was.creation_time after.basic.creation_time
    × IsTimeSet ask.last_access_time was.last_access_time was.last_access_time after.basic.last_access_time
    × IsTimeSet ask.last_write_time was.last_write_time was.last_write_time after.basic.last_write_time
    × IsTimeSet ask.change_time was.change_time moment after.basic.change_time
    × (ask.attributes.0 ≢ 0 → after.basic.attributes.0 ≡ bit_and ask.attributes.0 0x27)
    × (ask.attributes.0 ≡ 0 → after.basic.attributes.0 ≡ bit_and was.attributes.0 0x27)
    × HasKeptItsName after entry × (after.bytes ≡ entry.bytes)

-- a WRITE of some bytes, and a SET_INFO of a size, is the last write and the last change of its file, at the moment; the
-- times of its creation and last access, and READONLY 1, HIDDEN 2, SYSTEM 4 and ARCHIVE 0x20 of its attributes, are as
-- they were; it is at its path, with its number, kind, spelling and mark ([MS-FSA] 2.1.5.3, 2.1.5.15.4)
abbrev pub AWriteIsTheLastOne : Type 0
AWriteIsTheLastOne =
    (state : StoreState) (number offset size : ℕ) (buffer : List ℕ) (moment : ℕ) (row : OpenRow) (path : Path)
    (entry : Entry) →
    IsOpenOf state number row path entry → 0 < length buffer →
    AllByRecursion
    (λ (later : StoreState).
    (after : Entry) × (numbered later.tree.rows row.entry ≡ Some (path, after))
    × (after.basic.last_write_time ≡ moment) × (after.basic.change_time ≡ moment)
    × (after.basic.creation_time ≡ entry.basic.creation_time)
    × (after.basic.last_access_time ≡ entry.basic.last_access_time)
    × HasKeptItsName after entry × (after.basic.attributes.0 ≡ bit_and entry.basic.attributes.0 0x27))
    (written_to state number offset buffer moment ∷ size_set_through state number size false moment ∷ [])

-- a SET_INFO of an allocation size leaves its entry as it is where this is no less than its size; and a smaller one
-- leaves of it what a SET_INFO of this size does ([MS-FSA] 2.1.5.15.1)
abbrev pub AnAllocationSizeOnlyCuts : Type 0
AnAllocationSizeOnlyCuts =
    (state : StoreState) (number size moment : ℕ) (row : OpenRow) (path : Path) (entry : Entry) →
    IsOpenOf state number row path entry →
    let after = numbered (size_set_through state number size true moment).tree.rows row.entry in
    (length entry.bytes ≤ size → after ≡ Some (path, entry))
    × (size < length entry.bytes →
    after ≡ numbered (size_set_through state number size false moment).tree.rows row.entry)
