-- What a SET_INFO and a WRITE set of an entry.
use Rattle.std.proofs.Common.{◌≡◌, ◌≢◌, inl, inr, ℕ, ◌<◌, nat_le, ◌^◌, ◌-◌, ◌==◌, ◌||◌, List, length, Bool, true, false, if◌then◌else◌, Option, None, Some, is_some, subst, sym, refl, ap, arith, ◌∙◌}
use Rattle.std.proofs.lemmas.Bool.Decides.{nat_tests}
use Rattle.std.specs.Option.{option_map, option_map_or}
use Rattle.smb_tree.specs.Content.{Path, Row, numbered, changed}
use Rattle.smb_tree.specs.Entries.{Entry, kept_attributes}
use Rattle.smb_tree.proofs.Apart.{numbered-changed}
use Rattle.smb_access.specs.declared.open_row.OpenRow.{OpenRow}
use Rattle.smb_access.specs.Opens.{open_of}
use Rattle.smb_entry.specs.Parts.{written_file, written_tree, resized_file, size_set, delete_set, entry_set}
use Rattle.smb_entry.specs.SetInfo.{time_set}
use Rattle.smb_opens.specs.Bytes.{written_to}
use Rattle.smb_opens.specs.SetInfo.{size_set_through}
use Rattle.smb_opens.specs.State.{StoreState}
use Rattle.smb_opens.proofs.StoreSettings.{size_keeps}
use Rattle.smb_name_laws.specs.Settings.{IsOpenOf, IsTimeSet, HasKeptItsName, RequestsChangeTheirEntryAlone, AMarkIsSetAsAskedFor, TimesAreSetAsAskedFor, AWriteIsTheLastOne, AnAllocationSizeOnlyCuts}

same_by : (n : ℕ) → n == n ≡ true
same_by n = grind (arith, nat_tests)

other_by : (m n : ℕ) → m ≢ n → m == n ≡ false
other_by m n h = grind (arith, nat_tests, h)

-- an entry changed, by its number, and the others left
changed_at : (f : Entry → Entry) (rows : List Row) (n : ℕ) (path : Path) (entry : Entry) → ((e : Entry) → (f e).number ≡ e.number) → numbered rows n ≡ Some (path, entry) → numbered (changed f rows n) n ≡ Some (path, f entry)
changed_at f rows n path entry k h = numbered-changed f rows n n k ∙ rw (same_by n, h) refl

others_at : (f : Entry → Entry) (rows : List Row) (n other : ℕ) → ((e : Entry) → (f e).number ≡ e.number) → other ≢ n → numbered (changed f rows n) other ≡ numbered rows other
others_at f rows n other k h = numbered-changed f rows n other k ∙ rw (other_by other n h) refl

-- the same through an open
abbrev set_by : (Entry → Entry) → StoreState → Option OpenRow → StoreState
set_by f state held = option_map_or (λ (row : OpenRow). let x : StoreState = record state { tree = record state.tree { rows = changed f state.tree.rows row.entry } } in x) held state

rows_set : (f : Entry → Entry) (state : StoreState) (number : ℕ) (row : OpenRow) → open_of state.opens number ≡ Some row → (set_by f state (open_of state.opens number)).tree.rows ≡ changed f state.tree.rows row.entry
rows_set f state number row h = ap (λ (o : Option OpenRow). (set_by f state o).tree.rows) h

set_at : (f : Entry → Entry) (state : StoreState) (number : ℕ) (row : OpenRow) (path : Path) (entry : Entry) → ((e : Entry) → (f e).number ≡ e.number) → IsOpenOf state number row path entry →
    numbered (set_by f state (open_of state.opens number)).tree.rows row.entry ≡ Some (path, f entry)
set_at f state number row path entry k o = ap (λ (r : List Row). numbered r row.entry) (rows_set f state number row o.opened) ∙ changed_at f state.tree.rows row.entry path entry k o.found

-- a WRITE of no bytes
written_none : (state : StoreState) (number offset : ℕ) (buffer : List ℕ) (moment : ℕ) (row : OpenRow) → open_of state.opens number ≡ Some row → length buffer == 0 ≡ true → written_to state number offset buffer moment ≡ state
written_none state number offset buffer moment row opened e =
    ap (λ (o : Option OpenRow). option_map_or (λ (row : OpenRow). if length buffer == 0 then state else record state { tree = written_tree state.tree row.entry offset buffer moment }) o state) opened ∙ rw e refl

-- of an entry that is changed, whether it exists
there_at : (f : Entry → Entry) (rows : List Row) (n : ℕ) → ((e : Entry) → (f e).number ≡ e.number) → is_some (numbered (changed f rows n) n) ≡ is_some (numbered rows n)
there_at f rows n k = ap is_some (numbered-changed f rows n n k ∙ rw (same_by n) refl) ∙ some_by (numbered rows n)
  where
    some_by : (o : Option Row) → is_some (option_map (λ (x : Row). let y : Row = (x.0, f x.1) in y) o) ≡ is_some o
    some_by None = refl
    some_by (Some x) = refl

-- one entry alone is changed
abbrev ChangesAlone : StoreState → OpenRow → StoreState → Type 0
ChangesAlone state row after =
    ((other : ℕ) → other ≢ row.entry → numbered after.tree.rows other ≡ numbered state.tree.rows other)
    × (is_some (numbered after.tree.rows row.entry) ≡ is_some (numbered state.tree.rows row.entry))

alone_at : (f : Entry → Entry) (state : StoreState) (number : ℕ) (row : OpenRow) → ((e : Entry) → (f e).number ≡ e.number) → open_of state.opens number ≡ Some row → ChangesAlone state row (set_by f state (open_of state.opens number))
alone_at f state number row k opened =
    let rows = rows_set f state number row opened in (
      λ other apart. ap (λ (r : List Row). numbered r other) rows ∙ others_at f state.tree.rows row.entry other k apart,
      ap (λ (r : List Row). is_some (numbered r row.entry)) rows ∙ there_at f state.tree.rows row.entry k,
    )

written_alone : (state : StoreState) (number offset : ℕ) (buffer : List ℕ) (moment : ℕ) (row : OpenRow) → open_of state.opens number ≡ Some row → ChangesAlone state row (written_to state number offset buffer moment)
written_alone state number offset buffer moment row opened = by (length buffer == 0) refl
  where
    by : (b : Bool) → length buffer == 0 ≡ b → ChangesAlone state row (written_to state number offset buffer moment)
    by true e =
        let left : written_to state number offset buffer moment ≡ state = written_none state number offset buffer moment row opened e in
        subst (ChangesAlone state row) (sym left) (λ other apart. refl, refl)
    by false e =
        let whole : written_to state number offset buffer moment ≡ set_by (written_file offset buffer moment) state (open_of state.opens number) = rw e refl in
        subst (ChangesAlone state row) (sym whole) (alone_at (written_file offset buffer moment) state number row (λ _. refl) opened)

pub alone : RequestsChangeTheirEntryAlone
alone state number offset size moment buffer is_deleted is_allocation times row opened = (
  written_alone state number offset buffer moment row opened,
  (
    alone_at (delete_set is_deleted) state number row (λ _. refl) opened,
    (
      alone_at (size_set size is_allocation moment) state number row (size_keeps size is_allocation moment).number opened,
      (alone_at (entry_set times moment) state number row (λ _. refl) opened, tt),
    ),
  ),
)

pub marks : AMarkIsSetAsAskedFor
marks state number is_deleted row path entry o = set_at (delete_set is_deleted) state number row path entry (λ _. refl) o

time_by : (asked before : ℕ) (a b c : Bool) → a ≡ false → b ≡ false → c ≡ false → (if a || b || c then before else asked) ≡ asked
time_by asked before a b c h k l = rw (h, k, l) refl

is_set : (asked before : ℕ) → 0 < asked → asked < 2 ^ 63 → time_set asked before ≡ asked
is_set asked before p q =
    time_by asked before (asked == 0) (asked == 2 ^ 64 - 1) (asked == 2 ^ 64 - 2)
    (grind (arith, nat_tests, p)) (grind (arith, nat_tests, q)) (grind (arith, nat_tests, q))

time_as : (asked before : ℕ) → IsTimeSet asked before before (time_set asked before)
time_as asked before = record {
  set = λ p q. is_set asked before p q;
  zero = λ e. ap (λ n. time_set n before) e;
  left = λ e. elim e [ inl h ↦ ap (λ n. time_set n before) h | inr h ↦ ap (λ n. time_set n before) h ];
}

change_by : (moment time : ℕ) (a : Bool) → a ≡ false → (if a then moment else time) ≡ time
change_by moment time a h = rw h refl

change_as : (asked before moment : ℕ) → IsTimeSet asked before moment (if asked == 0 then moment else time_set asked before)
change_as asked before moment =
    let at : ℕ → ℕ = λ n. if n == 0 then moment else time_set n before in
    record {
      set = λ p q. change_by moment (time_set asked before) (asked == 0) (grind (arith, nat_tests, p)) ∙ is_set asked before p q;
      zero = λ e. ap at e;
      left = λ e. elim e [ inl h ↦ ap at h | inr h ↦ ap at h ];
    }

pub times : TimesAreSetAsAskedFor
times state number ask moment row path entry o =
    let is = set_at (entry_set ask moment) state number row path entry (λ _. refl) o in (
      entry_set ask moment entry,
      is,
      time_as ask.creation_time entry.basic.creation_time,
      time_as ask.last_access_time entry.basic.last_access_time,
      time_as ask.last_write_time entry.basic.last_write_time,
      change_as ask.change_time entry.basic.change_time moment,
      λ some. ap kept_attributes (change_by entry.basic.attributes.0 ask.attributes.0 (ask.attributes.0 == 0) (other_by ask.attributes.0 0 some)),
      λ none. ap (λ n. kept_attributes (if n == 0 then entry.basic.attributes.0 else n)) none,
      record { number = refl; kind = refl; spelling = refl; mark = refl },
      refl,
    )

written_set : (state : StoreState) (number offset : ℕ) (buffer : List ℕ) (moment : ℕ) → 0 < length buffer → written_to state number offset buffer moment ≡ set_by (written_file offset buffer moment) state (open_of state.opens number)
written_set state number offset buffer moment h =
    let some : length buffer == 0 ≡ false = grind (arith, nat_tests, h) in rw some refl

-- what is written last
abbrev IsLastWritten : StoreState → OpenRow → Path → Entry → ℕ → Type 0
IsLastWritten later row path entry moment =
    (after : Entry) × (numbered later.tree.rows row.entry ≡ Some (path, after))
    × (after.basic.last_write_time ≡ moment) × (after.basic.change_time ≡ moment)
    × (after.basic.creation_time ≡ entry.basic.creation_time)
    × (after.basic.last_access_time ≡ entry.basic.last_access_time)
    × HasKeptItsName after entry × (after.basic.attributes.0 ≡ kept_attributes entry.basic.attributes.0)

writes : (state : StoreState) (number offset : ℕ) (buffer : List ℕ) (moment : ℕ) (row : OpenRow) (path : Path) (entry : Entry) → IsOpenOf state number row path entry → 0 < length buffer → IsLastWritten (written_to state number offset buffer moment) row path entry moment
writes state number offset buffer moment row path entry o h = (
  written_file offset buffer moment entry,
  ap (λ (s : StoreState). numbered s.tree.rows row.entry) (written_set state number offset buffer moment h) ∙ set_at (written_file offset buffer moment) state number row path entry (λ _. refl) o,
  refl,
  refl,
  refl,
  refl,
  record { number = refl; kind = refl; spelling = refl; mark = refl },
  refl,
)

sizes : (state : StoreState) (number size moment : ℕ) (row : OpenRow) (path : Path) (entry : Entry) → IsOpenOf state number row path entry → IsLastWritten (size_set_through state number size false moment) row path entry moment
sizes state number size moment row path entry o = (
  resized_file size moment entry,
  set_at (resized_file size moment) state number row path entry (λ _. refl) o,
  refl,
  refl,
  refl,
  refl,
  record { number = refl; kind = refl; spelling = refl; mark = refl },
  refl,
)

pub last_writes : AWriteIsTheLastOne
last_writes state number offset size buffer moment row path entry o h =
    (writes state number offset buffer moment row path entry o h, (sizes state number size moment row path entry o, tt))

-- an allocation size
not_cut : (size moment : ℕ) (entry : Entry) → nat_le (length entry.bytes) size ≡ true → size_set size true moment entry ≡ entry
not_cut size moment entry e = rw e refl

is_cut : (size moment : ℕ) (entry : Entry) → nat_le (length entry.bytes) size ≡ false → size_set size true moment entry ≡ size_set size false moment entry
is_cut size moment entry e = rw e refl

pub only_cuts : AnAllocationSizeOnlyCuts
only_cuts state number size moment row path entry o =
    let set : (is_allocation : Bool) → numbered (size_set_through state number size is_allocation moment).tree.rows row.entry ≡ Some (path, size_set size is_allocation moment entry) =
    λ is_allocation. set_at (size_set size is_allocation moment) state number row path entry (size_keeps size is_allocation moment).number o in (
      λ h. set true ∙ ap (λ (e : Entry). Some (path, e)) (not_cut size moment entry (grind (arith, nat_tests, h))),
      λ h. set true ∙ ap (λ (e : Entry). Some (path, e)) (is_cut size moment entry (grind (arith, nat_tests, h))) ∙ sym (set false),
    )
