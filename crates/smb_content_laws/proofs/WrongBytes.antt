-- Wrong definitions of a WRITE, of a CREATE and of a READ, each with a law of specs/Reading that refuses it.
-- A law whose name ends in By says of any definition what that of specs/ says of the right one, as the line below it
-- shows; then come the wrong definition, and the proof that the law is false of it.
use Rattle.std.proofs.Common.{◌≡◌, ◌⊎◌, inr, ℕ, ◌+◌, ◌-◌, ◌==◌, ◌<◌, ◌≤◌, true, if◌then◌else◌, refl, ap, arith}
use Rattle.std.proofs.Common.{List, [], ◌∷◌, ◌++◌, length, take, drop, replicate, get_or, unwrap_or, lit<, lit≤}
use Rattle.std.proofs.Common.{Option, None, Some}
use Rattle.std.specs.Option.{option_map_or}
use Rattle.std.specs.Prelude.{min, slice_get}
use Rattle.smb_wire.specs.Dispositions.{disposition_code, overwrites_by}
use Rattle.smb_wire.specs.declared.disposition.CreateDisposition.TheVariants.{Overwrite}
use Rattle.smb_wire.specs.declared.nt_status.NtStatus.TheVariants.{Success}
use Rattle.smb_tree.specs.Content.{changed, bytes_of, written}
use Rattle.smb_tree.specs.Entries.{Entry}
use Rattle.smb_access.specs.declared.open_row.OpenRow.{OpenRow}
use Rattle.smb_access.specs.Asked.{FileAsked}
use Rattle.smb_access.specs.Opens.{open_of}
use Rattle.smb_entry.specs.Parts.{written_basic}
use Rattle.smb_opens.specs.Bytes.{read_status, file_bytes, written_to}
use Rattle.smb_opens.specs.Effect.{created, create_result}
use Rattle.smb_opens.specs.Found.{entry_asked}
use Rattle.smb_opens.specs.Good.{GoodStore}
use Rattle.smb_opens.specs.State.{StoreState}
use Rattle.smb_content_laws.specs.Example.{example_store, example_open, example_ask}
use Rattle.smb_content_laws.specs.Reading.{AReadGivesWhatIsThere, WhatIsWrittenIsReadAgain, AMadeFileIsEmpty, IsReadLater}
use Rattle.smb_content_laws.proofs.ExampleStore.{example_written, example_is_good, written_is_good}

-- a WRITE by what becomes of a file's bytes where others are put at an offset
abbrev written_by : (ℕ → List ℕ → List ℕ → List ℕ) → StoreState → ℕ → ℕ → List ℕ → ℕ → StoreState
written_by put state number offset buffer moment = option_map_or
    (λ (row : OpenRow). if length buffer == 0 then state else record state {
      tree = record state.tree {
        rows = changed
            (λ (entry : Entry). record entry {
              bytes = put offset buffer entry.bytes;
              basic = written_basic moment entry.basic;
            })
            state.tree.rows row.entry;
      };
    })
    (open_of state.opens number) state

-- by the right one it is that of smb_opens
right_write : written_to ≡ written_by written
right_write = refl

-- what is read after a WRITE: what was put, what was there, and zeros in the gap before what was put
abbrev WhatIsWrittenIsReadAgainBy : (StoreState → ℕ → ℕ → List ℕ → ℕ → StoreState) → Type 0
WhatIsWrittenIsReadAgainBy write =
    (state : StoreState) (number at : ℕ) (buffer : List ℕ) (moment : ℕ) (writer : OpenRow)
    (offset count : ℕ) (given : List ℕ) → GoodStore state → open_of state.opens number ≡ Some writer →
    IsReadLater (write state number at buffer moment) writer.entry offset count given →
    let before = bytes_of state.tree.rows writer.entry in
    ((place : ℕ) → offset ≡ at + place → place + count ≤ length buffer → given ≡ take count (drop place buffer))
    × (offset + count ≤ length before → (offset + count ≤ at) ⊎ (at + length buffer ≤ offset) →
    given ≡ take count (drop offset before))
    × (0 < length buffer → length before ≤ offset → offset + count ≤ at → given ≡ replicate count 0)

what_is_written_is_read_again : WhatIsWrittenIsReadAgain ≡ WhatIsWrittenIsReadAgainBy written_to
what_is_written_is_read_again = refl

-- what a WRITE of three bytes at the offset 2 leaves is read right after it, through open 1
abbrev IsReadNext : (ℕ → List ℕ → List ℕ → List ℕ) → ℕ → ℕ → List ℕ → Type 0
IsReadNext put offset count given =
    IsReadLater (written_by put example_store 1 2 (7 ∷ 8 ∷ 9 ∷ []) 5) 2 offset count given

-- wrong: what is written past the end of a file is put right behind its last byte
abbrev written_without_gap : ℕ → List ℕ → List ℕ → List ℕ
written_without_gap offset buffer bytes = take offset bytes ++ buffer ++ drop (offset + length buffer) bytes

read_without_gap : IsReadNext written_without_gap 2 3 (9 ∷ [])
read_without_gap = record {
  steps = [];
  number = 1;
  reader = example_open;
  quiet = tt;
  opened = refl;
  same = refl;
  there = refl;
  gives = refl;
}

a_write_without_gap_breaks_it : WhatIsWrittenIsReadAgainBy (written_by written_without_gap) → ⊥
a_write_without_gap_breaks_it law =
    let again = law example_store 1 2 (7 ∷ 8 ∷ 9 ∷ []) 5 example_open 2 3 _ example_is_good refl read_without_gap in
    let long : 1 ≡ 3 = ap length (again.0 0 refl (lit≤ tt)) in omega (arith, long)

-- wrong: the gap is filled with the byte 255
abbrev written_with_other_gap : ℕ → List ℕ → List ℕ → List ℕ
written_with_other_gap offset buffer bytes =
    take offset bytes ++ replicate (offset - length bytes) 255 ++ buffer ++ drop (offset + length buffer) bytes

read_with_other_gap : IsReadNext written_with_other_gap 0 2 (255 ∷ 255 ∷ [])
read_with_other_gap = record {
  steps = [];
  number = 1;
  reader = example_open;
  quiet = tt;
  opened = refl;
  same = refl;
  there = refl;
  gives = refl;
}

a_write_with_other_gap_breaks_it : WhatIsWrittenIsReadAgainBy (written_by written_with_other_gap) → ⊥
a_write_with_other_gap_breaks_it law =
    let again = law example_store 1 2 (7 ∷ 8 ∷ 9 ∷ []) 5 example_open 0 2 _ example_is_good refl read_with_other_gap in
    let same : 255 ∷ 255 ∷ [] ≡ 0 ∷ 0 ∷ [] = again.2 (lit< tt) (lit≤ tt) (lit≤ tt) in
    let first : 255 ≡ 0 = ap (λ (bytes : List ℕ). get_or bytes 0 0) same in omega (arith, first)

-- a file that a CREATE adds or overwrites has no bytes
abbrev AMadeFileIsEmptyBy : (StoreState → FileAsked → ℕ → StoreState) → Type 0
AMadeFileIsEmptyBy create =
    (state : StoreState) (ask : FileAsked) (moment offset count : ℕ) → GoodStore state →
    (entry_asked state ask ≡ None) ⊎ (overwrites_by ask.disposition ≡ true) →
    file_bytes (create state ask moment) (create_result state ask moment).number offset count ≡ []

a_made_file_is_empty : AMadeFileIsEmpty ≡ AMadeFileIsEmptyBy created
a_made_file_is_empty = refl

-- a CREATE that overwrites the file `A`
abbrev asks_overwrite : FileAsked
asks_overwrite = record example_ask { name = 65 ∷ []; disposition = disposition_code Overwrite }

-- wrong: a file that is overwritten has the bytes that it had
abbrev created_over_bytes : StoreState → FileAsked → ℕ → StoreState
created_over_bytes state ask moment = record (created state ask moment) {
  tree = option_map_or (λ (entry : Entry). state.tree) (entry_asked state ask) (created state ask moment).tree;
}

a_create_over_bytes_breaks_it : AMadeFileIsEmptyBy created_over_bytes → ⊥
a_create_over_bytes_breaks_it law =
    let same : 0 ∷ 0 ∷ 7 ∷ 8 ∷ 9 ∷ [] ≡ [] = law example_written asks_overwrite 6 0 5 written_is_good (inr refl) in
    let long : 5 ≡ 0 = ap length same in omega (arith, long)

-- what a READ that succeeds gives is the file's, byte for byte, and at least so many as it wants
abbrev AReadGivesWhatIsThereBy : (StoreState → ℕ → ℕ → ℕ → List ℕ) → Type 0
AReadGivesWhatIsThereBy read =
    (state : StoreState) (most number offset count minimum : ℕ) (row : OpenRow) →
    open_of state.opens number ≡ Some row → read_status state most number offset count minimum ≡ Success →
    let given = read state number offset count in
    let bytes = bytes_of state.tree.rows row.entry in
    (length given ≡ min count (length bytes - offset))
    × ((k : ℕ) → k < length given → slice_get given k ≡ slice_get bytes (offset + k))
    × (minimum ≤ length given) × (0 < count → 0 < length given)

a_read_gives_what_is_there : AReadGivesWhatIsThere ≡ AReadGivesWhatIsThereBy file_bytes
a_read_gives_what_is_there = refl

-- wrong: a READ begins one byte behind its offset
abbrev bytes_behind : StoreState → ℕ → ℕ → ℕ → List ℕ
bytes_behind state number offset count = file_bytes state number (offset + 1) count

a_read_behind_breaks_it : AReadGivesWhatIsThereBy bytes_behind → ⊥
a_read_behind_breaks_it law =
    let given = law example_written 65536 1 1 1 1 example_open refl refl in
    let first : 7 ≡ 0 = ap (λ (byte : Option ℕ). unwrap_or byte 0) (given.1 0 (lit< tt)) in
    omega (arith, first)
