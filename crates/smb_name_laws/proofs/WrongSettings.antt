-- Wrong definitions of what a SET_INFO and a WRITE set, each with a law of specs/Settings that refuses it.
-- A law whose name ends in By says of any definition what that of specs/ says of the right one, as the line below it
-- shows; then come the wrong definitions, and the proofs that the law is false of them.
use Rattle.std.proofs.Common.{◌≡◌, ◌≢◌, ℕ, ◌<◌, ◌≤◌, bit_and, Bool, true, false, List, [], ◌∷◌, length, Some, if◌then◌else◌}
use Rattle.std.proofs.Common.{lit<, lit≤, refl, ap, arith, ◌∙◌}
use Rattle.std.specs.List.{AllByRecursion}
use Rattle.std.specs.Option.{option_map_or}
use Rattle.smb_tree.specs.Content.{Path, Row, numbered, changed, written, resized}
use Rattle.smb_tree.specs.Entries.{Entry}
use Rattle.smb_access.specs.declared.open_row.OpenRow.{OpenRow}
use Rattle.smb_entry.specs.declared.ask.BasicAsk.{BasicAsk}
use Rattle.smb_access.specs.Opens.{open_of}
use Rattle.smb_opens.specs.Bytes.{written_to}
use Rattle.smb_opens.specs.SetInfo.{delete_set_through, size_set_through, basic_set_through}
use Rattle.smb_opens.specs.State.{StoreState}
use Rattle.smb_name_laws.specs.Settings.{IsOpenOf, IsTimeSet, HasKeptItsName}
use Rattle.smb_name_laws.specs.Settings.{AMarkIsSetAsAskedFor, TimesAreSetAsAskedFor}
use Rattle.smb_name_laws.specs.Settings.{AWriteIsTheLastOne, AnAllocationSizeOnlyCuts}
use Rattle.smb_name_laws.proofs.ExampleStore.{path, file, sharing, with_opens}

-- the store with open 2, of the file
abbrev with_file : StoreState
with_file = with_opens (sharing ∷ [])

file_is_open : IsOpenOf with_file 2 sharing path file
file_is_open = record { opened = refl; found = refl }

-- of two entries that are found alike each part is the same
found_has : {T : Type 0} (of : Row → T) (one other : Row) → Some one ≡ Some other → of one ≡ of other
found_has of one other h = let same : one ≡ other = cc in ap of same

-- after a SET_INFO of the mark of an open's entry this is marked, or no longer, as was asked for
abbrev AMarkIsSetAsAskedForBy : (StoreState → ℕ → Bool → StoreState) → Type 0
AMarkIsSetAsAskedForBy set =
    (state : StoreState) (number : ℕ) (is_deleted : Bool) (row : OpenRow) (path : Path) (entry : Entry) →
    IsOpenOf state number row path entry →
    numbered (set state number is_deleted).tree.rows row.entry ≡ Some (path, record entry { mark = is_deleted })

a_mark_is_set_as_asked_for : AMarkIsSetAsAskedFor ≡ AMarkIsSetAsAskedForBy delete_set_through
a_mark_is_set_as_asked_for = refl

-- wrong: a SET_INFO of a mark changes nothing
abbrev set_nothing : StoreState → ℕ → Bool → StoreState
set_nothing state number is_deleted = state

a_set_of_nothing_breaks_it : AMarkIsSetAsAskedForBy set_nothing → ⊥
a_set_of_nothing_breaks_it law =
    let set = law with_file 2 true sharing path file file_is_open in
    let left : false ≡ true = found_has (λ row. row.1.mark) _ _ set in
    cc

-- after a SET_INFO of times and attributes the open's entry has the times that were asked for
abbrev TimesAreSetAsAskedForBy : (StoreState → ℕ → BasicAsk → ℕ → StoreState) → Type 0
TimesAreSetAsAskedForBy set =
    (state : StoreState) (number : ℕ) (ask : BasicAsk) (moment : ℕ) (row : OpenRow) (path : Path) (entry : Entry) →
    IsOpenOf state number row path entry →
    let was = entry.basic in
    let rows = (set state number ask moment).tree.rows in
    (after : Entry) × (numbered rows row.entry ≡ Some (path, after))
    × IsTimeSet ask.creation_time was.creation_time was.creation_time after.basic.creation_time
    × IsTimeSet ask.last_access_time was.last_access_time was.last_access_time after.basic.last_access_time
    × IsTimeSet ask.last_write_time was.last_write_time was.last_write_time after.basic.last_write_time
    × IsTimeSet ask.change_time was.change_time moment after.basic.change_time
    × (ask.attributes.0 ≢ 0 → after.basic.attributes.0 ≡ bit_and ask.attributes.0 0x27)
    × (ask.attributes.0 ≡ 0 → after.basic.attributes.0 ≡ bit_and was.attributes.0 0x27)
    × HasKeptItsName after entry × (after.bytes ≡ entry.bytes)

times_are_set_as_asked_for : TimesAreSetAsAskedFor ≡ TimesAreSetAsAskedForBy basic_set_through
times_are_set_as_asked_for = refl

-- a file is to be of the moment 9; the other times are not asked for
abbrev asks_creation : BasicAsk
asks_creation = record {
  creation_time = 9;
  last_access_time = 0;
  last_write_time = 0;
  change_time = 0;
  attributes = record { 0 = 0 };
}

-- wrong: a SET_INFO of times changes nothing
abbrev times_set_to_nothing : StoreState → ℕ → BasicAsk → ℕ → StoreState
times_set_to_nothing state number ask moment = state

times_set_to_nothing_break_it : TimesAreSetAsAskedForBy times_set_to_nothing → ⊥
times_set_to_nothing_break_it law =
    let after = law with_file 2 asks_creation 0 sharing path file file_is_open in
    let old : 0 ≡ 9 =
    found_has (λ row. row.1.basic.creation_time) (path, file) (path, after.0) after.1
    ∙ after.2.set (lit< tt) (lit< tt) in
    omega (arith, old)

-- wrong: a SET_INFO of times also marks the entry
abbrev times_set_and_mark : StoreState → ℕ → BasicAsk → ℕ → StoreState
times_set_and_mark state number ask moment = delete_set_through (basic_set_through state number ask moment) number true

times_set_and_mark_break_it : TimesAreSetAsAskedForBy times_set_and_mark → ⊥
times_set_and_mark_break_it law =
    let after = law with_file 2 asks_creation 0 sharing path file file_is_open in
    let marked : true ≡ false = found_has (λ row. row.1.mark) _ (path, after.0) after.1 ∙ after.8.mark in cc

-- a WRITE of some bytes, and a SET_INFO of a size, is the last write and the last change of its file
abbrev AWriteIsTheLastOneBy :
    (StoreState → ℕ → ℕ → List ℕ → ℕ → StoreState) → (StoreState → ℕ → ℕ → Bool → ℕ → StoreState) → Type 0
AWriteIsTheLastOneBy write set =
    (state : StoreState) (number offset size : ℕ) (buffer : List ℕ) (moment : ℕ) (row : OpenRow) (path : Path)
    (entry : Entry) →
    IsOpenOf state number row path entry → 0 < length buffer →
    AllByRecursion
    (λ (later : StoreState).
    (after : Entry) × (numbered later.tree.rows row.entry ≡ Some (path, after))
    × (after.basic.last_write_time ≡ moment) × (after.basic.change_time ≡ moment)
    × (after.basic.creation_time ≡ entry.basic.creation_time)
    × (after.basic.last_access_time ≡ entry.basic.last_access_time)
    × HasKeptItsName after entry × (after.basic.attributes.0 ≡ bit_and entry.basic.attributes.0 0x27))
    (write state number offset buffer moment ∷ set state number size false moment ∷ [])

a_write_is_the_last_one : AWriteIsTheLastOne ≡ AWriteIsTheLastOneBy written_to size_set_through
a_write_is_the_last_one = refl

-- a store with other entries
abbrev with_rows : StoreState → List Row → StoreState
with_rows state rows = record state { tree = record state.tree { rows = rows } }

-- wrong: a WRITE leaves the times of its file
abbrev written_without_times : StoreState → ℕ → ℕ → List ℕ → ℕ → StoreState
written_without_times state number offset buffer moment = option_map_or
    (λ (row : OpenRow). with_rows state
    (changed (λ entry. record entry { bytes = written offset buffer entry.bytes }) state.tree.rows row.entry))
    (open_of state.opens number) state

a_write_without_times_breaks_it : AWriteIsTheLastOneBy written_without_times size_set_through → ⊥
a_write_without_times_breaks_it law =
    let after = (law with_file 2 0 5 (8 ∷ []) 9 sharing path file file_is_open (lit< tt)).0 in
    let old : 0 ≡ 9 = found_has (λ row. row.1.basic.last_write_time) _ (path, after.0) after.1 ∙ after.2 in
    omega (arith, old)

-- wrong: a SET_INFO of a size leaves the times of its file
abbrev size_set_without_times : StoreState → ℕ → ℕ → Bool → ℕ → StoreState
size_set_without_times state number size is_allocation moment = option_map_or
    (λ (row : OpenRow). with_rows state
    (changed (λ entry. record entry { bytes = resized size entry.bytes }) state.tree.rows row.entry))
    (open_of state.opens number) state

a_size_without_times_breaks_it : AWriteIsTheLastOneBy written_to size_set_without_times → ⊥
a_size_without_times_breaks_it law =
    let after = (law with_file 2 0 5 (8 ∷ []) 9 sharing path file file_is_open (lit< tt)).1.0 in
    let old : 0 ≡ 9 = found_has (λ row. row.1.basic.last_write_time) _ (path, after.0) after.1 ∙ after.2 in
    omega (arith, old)

-- the same file, but hidden
abbrev hidden_file : Entry
hidden_file = record file { basic = record file.basic { attributes = record { 0 = 2 } } }

-- wrong: a SET_INFO of a size shows its file
abbrev size_set_and_shown : StoreState → ℕ → ℕ → Bool → ℕ → StoreState
size_set_and_shown state number size is_allocation moment = option_map_or
    (λ (row : OpenRow). with_rows state
    (changed (λ entry. record entry {
      bytes = resized size entry.bytes;
      basic = record entry.basic { last_write_time = moment; change_time = moment; attributes = record { 0 = 0 } };
    }) state.tree.rows row.entry))
    (open_of state.opens number) state

a_size_that_shows_breaks_it : AWriteIsTheLastOneBy written_to size_set_and_shown → ⊥
a_size_that_shows_breaks_it law =
    let hidden : StoreState = with_rows with_file ((path, hidden_file) ∷ []) in
    let after = (law hidden 2 0 5 (8 ∷ []) 9 sharing path hidden_file (record { opened = refl; found = refl }) (lit< tt)).1.0 in
    let shown : 0 ≡ 2 = found_has (λ row. row.1.basic.attributes.0) _ (path, after.0) after.1 ∙ after.7 in
    omega (arith, shown)

-- an allocation size leaves its entry where this is no less than its size, and a smaller one does what this size does
abbrev AnAllocationSizeOnlyCutsBy : (StoreState → ℕ → ℕ → Bool → ℕ → StoreState) → Type 0
AnAllocationSizeOnlyCutsBy set =
    (state : StoreState) (number size moment : ℕ) (row : OpenRow) (path : Path) (entry : Entry) →
    IsOpenOf state number row path entry →
    let after = numbered (set state number size true moment).tree.rows row.entry in
    (length entry.bytes ≤ size → after ≡ Some (path, entry))
    × (size < length entry.bytes → after ≡ numbered (set state number size false moment).tree.rows row.entry)

an_allocation_size_only_cuts : AnAllocationSizeOnlyCuts ≡ AnAllocationSizeOnlyCutsBy size_set_through
an_allocation_size_only_cuts = refl

-- wrong: an allocation size is the size, also where it is greater
abbrev size_set_always : StoreState → ℕ → ℕ → Bool → ℕ → StoreState
size_set_always state number size is_allocation moment = size_set_through state number size false moment

a_size_set_always_breaks_it : AnAllocationSizeOnlyCutsBy size_set_always → ⊥
a_size_set_always_breaks_it law =
    let same = (law with_file 2 5 9 sharing path file file_is_open).0 (lit≤ tt) in
    let longer : 5 ≡ 1 = found_has (λ row. length row.1.bytes) _ (path, file) same in
    omega (arith, longer)

-- wrong: an allocation size sets nothing
abbrev size_set_as_such : StoreState → ℕ → ℕ → Bool → ℕ → StoreState
size_set_as_such state number size is_allocation moment =
    if is_allocation then state else size_set_through state number size false moment

a_size_set_as_such_breaks_it : AnAllocationSizeOnlyCutsBy size_set_as_such → ⊥
a_size_set_as_such_breaks_it law =
    let same = (law with_file 2 0 9 sharing path file file_is_open).1 (lit< tt) in
    let uncut : 1 ≡ 0 = found_has (λ row. length row.1.bytes) _ _ same in
    omega (arith, uncut)
