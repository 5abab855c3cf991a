-- A SET_INFO through an open: what is left is the store that is set, and it is good.
use Rattle.std.proofs.Common.{◌≡◌, ◌==◌, ◌≤◌, ℕ, List, [], ◌∷◌, length, true, false, Bool, cond, ◌||◌, not, if◌then◌else◌, Option, None, Some, is_some, refl, sym, ap, subst, arith, ◌∙◌}
use Rattle.std.proofs.lemmas.Bool.{eqb-true}
use Rattle.std.proofs.lemmas.Bool.Decides.{nat_tests}
use Rattle.std.specs.Option.{option_map, option_map_or, option_and_then}
use Rattle.std.specs.Prelude.{Result, Ok, Err, OnOk, OnErr}
use Rattle.smb_refusals.specs.declared.set_info.SetDispositionRefusal.{SetDispositionRefusal}
use Rattle.smb_refusals.specs.declared.set_info.SetDispositionRefusal.TheVariants.{DeleteNotGranted, EntryNotDeletable, DirectoryNotEmpty}
use Rattle.smb_tree.specs.Parts.{has_children, with_size, with_mark}
use Rattle.smb_tree.specs.Content.{Row, Content, numbered, changed, resized, used_space, changed_in}
use Rattle.smb_tree.specs.Entries.{Entry, is_folder_kind}
use Rattle.smb_tree.proofs.Apart.{numbered-changed, number-from_numbered}
use Rattle.smb_tree.proofs.Parts.{length-resized}
use Rattle.smb_tree.proofs.Spaces.{space_changed}
use Rattle.smb_entry.specs.declared.ask.BasicAsk.{BasicAsk}
use Rattle.smb_access.specs.declared.open_row.OpenRow.{OpenRow}
use Rattle.smb_access.specs.declared.view.View.{View}
use Rattle.smb_access.specs.Access.{is_deleting}
use Rattle.smb_access.specs.Close.{is_deletable}
use Rattle.smb_access.specs.Parts.{can_be_deleted}
use Rattle.smb_refusals.specs.Rows.{first_refusal}
use Rattle.smb_tree.proofs.Lawful.{KeepsLawful, lawful_changed, keeps_kept, kept_twice}
use Rattle.smb_tree.specs.Good.{GoodContent}
use Rattle.smb_opens.specs.Good.{IsKept}
use Rattle.smb_opens.specs.Parts.{AreMarksDue}
use Rattle.smb_access.specs.Opens.{open_of, has_open}
use Rattle.smb_entry.specs.Parts.{shows_read_only_file, has_entries, attributes_set, delete_rows, delete_set, has_no_space, resized_file, leaves_size, size_set, entry_set}
use Rattle.smb_opens.specs.SetInfo.{changed_through, size_set_through, delete_refusal}
use Rattle.smb_opens.specs.State.{StoreState}
use Rattle.smb_access.proofs.Changes.{Keeps, Shrinks, keeps_of, good_changed, length-changed, present_changed}
use Rattle.smb_access.proofs.Marks.{deletable_changed, mark_elsewhere}
use Rattle.smb_entry.proofs.Settings.{changed_alike}
use Rattle.smb_opens.proofs.Shows.{ShownBy, entry_of}
use Rattle.smb_opens.proofs.Through.{kind_shown, marks_kept}
use Rattle.smb_entry.proofs.Writes.{good_within}
use Rattle.smb_opens.specs.Views.{open_view}

-- the entry that is shown exists
pub at_shown : (state : StoreState) (number : ℕ) (view : View) → (s : ShownBy state number view) → numbered state.tree.rows view.entry ≡ Some s.row
at_shown state number view s = ap (numbered state.tree.rows) (entry_of state number view s) ∙ s.at_entry

pub there_shown : (state : StoreState) (number : ℕ) (view : View) → ShownBy state number view → is_some (numbered state.tree.rows view.entry) ≡ true
there_shown state number view s = ap is_some (at_shown state number view s)

-- the store with the entry that is shown changed
pub set_through : (f : Entry → Entry) (state : StoreState) (number : ℕ) (view : View) (after : Content) → ShownBy state number view → after ≡ changed_in f state.tree view.entry →
    record { tree = after; opens = state.opens; locks = state.locks; next = state.next } ≡ changed_through f state number
set_through f state number view after s is =
    ap (λ (tree : Content). let x : StoreState = record { tree = tree; opens = state.opens; locks = state.locks; next = state.next } in x) (is ∙ ap (λ (n : ℕ). changed_in f state.tree n) (entry_of state number view s))
    ∙ sym (ap (λ (o : Option OpenRow). option_map_or (λ (row : OpenRow). let x : StoreState = record state { tree = changed_in f state.tree row.entry } in x) o state) s.opened)

-- a good store stays good where an entry is changed so that the tree is good, and its marks
pub kept_changed : (f : Entry → Entry) (state : StoreState) (n opens_count entries_count : ℕ) (after : Content) → after ≡ changed_in f state.tree n → Keeps f → KeepsLawful f → GoodContent (changed_in f state.tree n) →
    AreMarksDue (changed f state.tree.rows n) state.opens → IsKept state.tree state.opens state.locks state.next opens_count entries_count → IsKept after state.opens state.locks state.next opens_count entries_count
kept_changed f state n opens_count entries_count after is k l tree marked kept =
    subst (λ (tree : Content). IsKept tree state.opens state.locks state.next opens_count entries_count) (sym is) (record {
      good = record {
        tree = tree;
        lawful = lawful_changed f state.tree.rows n l kept.good.lawful;
        present = present_changed f state.tree.rows n state.opens k kept.good.present;
        rising = kept.good.rising;
        below = kept.good.below;
        few = kept.good.few;
        masked = kept.good.masked;
        compatible = kept.good.compatible;
        marked = marked;
        locked = kept.good.locked;
        few_locks = kept.good.few_locks;
        held = kept.good.held;
      };
      opens_counted = kept.opens_counted;
      entries_counted = kept.entries_counted ∙ sym (length-changed f state.tree.rows n);
    })

-- times and attributes
pub kept_based : (state : StoreState) (number : ℕ) (view : View) (ask : BasicAsk) (moment : ℕ) (after : Content) (opens_count entries_count : ℕ) → ShownBy state number view → after ≡ changed_in (entry_set ask moment) state.tree view.entry →
    IsKept state.tree state.opens state.locks state.next opens_count entries_count → IsKept after state.opens state.locks state.next opens_count entries_count
kept_based state number view ask moment after opens_count entries_count s is kept =
    let f : Entry → Entry = entry_set ask moment in
    let k : Shrinks f = record { number = λ _. refl; kind = λ _. refl; bytes = λ _. omega arith } in
    kept_changed f state view.entry opens_count entries_count after is (keeps_of f k) (keeps_kept f (λ _. refl) (λ _. refl) (λ e. kept_twice (attributes_set ask.attributes.0 e.basic.attributes.0)))
    (good_changed f state.tree view.entry s.row k (at_shown state number view s) kept.good.tree)
    (marks_kept f state.tree.rows view.entry state.opens (λ _. refl) (λ _. refl) kept.good.marked) kept

-- an entry for which no row holds, and which is to be deleted, is not the root, and no entries are in it
free_by : (may root read_only occupied : Bool) → (if not may then Some DeleteNotGranted else if root || read_only then Some EntryNotDeletable else if occupied then Some DirectoryNotEmpty else None) ≡ None →
    (root ≡ false) × (occupied ≡ false)
free_by false root read_only occupied e = absurd (cc)
free_by true true read_only occupied e = absurd (cc)
free_by true false true occupied e = absurd (cc)
free_by true false false true e = absurd (cc)
free_by true false false false e = (refl, refl)

free_entry : (view : View) (is_occupied : Bool) → first_refusal (delete_rows view is_occupied true) ≡ None → ((view.entry == 1) ≡ false) × (is_occupied ≡ false)
free_entry view is_occupied e = free_by (is_deleting view.access) (view.entry == 1) (shows_read_only_file view) is_occupied e

deletable_entry : (rows : List Row) (n : ℕ) (row : Row) → numbered rows n ≡ Some row → (n == 1) ≡ false → has_entries rows n ≡ false → is_deletable rows n ≡ true
deletable_entry rows n row h other none =
    let number : row.1.number ≡ n = number-from_numbered rows row n h in
    let empty : has_children rows row.0 ≡ false = sym (ap (λ (o : Option Row). option_map_or (λ (r : Row). has_children rows r.0) o false) h) ∙ none in
    ap (λ (o : Option Row). option_map_or (can_be_deleted rows) o false) h ∙ rw (number, other, empty) refl

opened_on : (opens : List OpenRow) (number : ℕ) (row : OpenRow) → open_of opens number ≡ Some row → has_open opens row.entry ≡ true
opened_on [] number row h = cc
opened_on (x ∷ opens) number row h = grind (arith, nat_tests, h, opened_on opens number row)

-- the mark of an entry that was set
mark_by : (o : Option Row) (d : Bool) → option_map_or (λ (row : Row). row.1.mark) (option_map (λ (x : Row). let y : Row = (x.0, delete_set d x.1) in y) o) false ≡ true → d ≡ true
mark_by None d e = absurd (cc)
mark_by (Some row) d e = e

marks_set : (rows : List Row) (opens : List OpenRow) (n : ℕ) (d : Bool) → (d ≡ true → (is_deletable rows n ≡ true) × (has_open opens n ≡ true)) → AreMarksDue rows opens → AreMarksDue (changed (delete_set d) rows n) opens
marks_set rows opens n d free h m e =
    elim (m == n) as (λ b. (m == n) ≡ b → (is_deletable (changed (delete_set d) rows n) m ≡ true) × (has_open opens m ≡ true)) [
      | true ↦ λ t. (
          let same : m ≡ n = eqb-true m n t in
          let found : numbered (changed (delete_set d) rows n) m ≡ option_map (λ (x : Row). let y : Row = (x.0, delete_set d x.1) in y) (numbered rows m) = numbered-changed (delete_set d) rows n m (λ _. refl) ∙ rw t refl in
          let on = free (mark_by (numbered rows m) d (sym (ap (λ (o : Option Row). option_map_or (λ (row : Row). row.1.mark) o false) found) ∙ e)) in
          (deletable_changed (delete_set d) rows n m (λ _. refl) ∙ ap (is_deletable rows) same ∙ on.0, ap (has_open opens) same ∙ on.1)
          )
      | false ↦ λ t. (
          let due = h m (sym (mark_elsewhere (delete_set d) rows n m (λ _. refl) t) ∙ e) in
          (deletable_changed (delete_set d) rows n m (λ _. refl) ∙ due.0, due.1)
          )
    ] refl

-- a mark
pub kept_deleted : (state : StoreState) (number : ℕ) (view : View) (is_deleted : Bool) (after : Content) (opens_count entries_count : ℕ) → ShownBy state number view → after ≡ with_mark state.tree view.entry is_deleted →
    first_refusal (delete_rows view (has_entries state.tree.rows view.entry) is_deleted) ≡ None → IsKept state.tree state.opens state.locks state.next opens_count entries_count → IsKept after state.opens state.locks state.next opens_count entries_count
kept_deleted state number view is_deleted after opens_count entries_count s is lawful kept =
    let f : Entry → Entry = delete_set is_deleted in
    let at = at_shown state number view s in
    let k : Shrinks f = record { number = λ _. refl; kind = λ _. refl; bytes = λ _. omega arith } in
    kept_changed f state view.entry opens_count entries_count after is (keeps_of f k) (record { number = λ _. refl; spelling = λ _. refl; attributes = λ _ h. h })
    (good_changed f state.tree view.entry s.row k at kept.good.tree)
    (marks_set state.tree.rows state.opens view.entry is_deleted (λ on. (
    let free = free_entry view (has_entries state.tree.rows view.entry) (subst (λ (d : Bool). first_refusal (delete_rows view (has_entries state.tree.rows view.entry) d) ≡ None) on lawful) in
    (deletable_entry state.tree.rows view.entry s.row at free.0 free.1, ap (has_open state.opens) (entry_of state number view s) ∙ opened_on state.opens number s.held s.opened)
    )) kept.good.marked) kept

-- a size for which there is room
room_for : (content : Content) (n size : ℕ) → has_no_space content n size ≡ false → (size ≤ content.limits.file_bytes) × (used_space (with_size content n size).rows ≤ content.capacity)
room_for content n size e = (grind (arith, nat_tests, e), grind (arith, nat_tests, e))

space_resized : (content : Content) (n size moment : ℕ) (row : Row) → numbered content.rows n ≡ Some row → used_space (changed (resized_file size moment) content.rows n) ≡ used_space (with_size content n size).rows
space_resized content n size moment row h =
    let one = space_changed (resized_file size moment) content.rows n row h in
    let other = space_changed (λ entry. record entry { bytes = resized size entry.bytes }) content.rows n row h in
    omega (arith, one, other)

pub kept_sized : {X E : Type 0} (r : Result X E) (state : StoreState) (number : ℕ) (view : View) (size moment : ℕ) (after : Content) (opens_count entries_count : ℕ) → ShownBy state number view → is_folder_kind view.kind ≡ false →
    has_no_space state.tree view.entry size ≡ false → OnOk r (after ≡ changed_in (resized_file size moment) state.tree view.entry) → OnErr r (after ≡ state.tree) →
    IsKept state.tree state.opens state.locks state.next opens_count entries_count → IsKept after state.opens state.locks state.next opens_count entries_count
kept_sized (Ok x) state number view size moment after opens_count entries_count s file free ok err kept =
    let f : Entry → Entry = resized_file size moment in
    let k : Keeps f = record { number = λ _. refl; kind = λ _. refl } in
    let at = at_shown state number view s in
    let room = room_for state.tree view.entry size free in
    let small : length (resized size s.row.1.bytes) ≤ state.tree.limits.file_bytes = omega (arith, length-resized size s.row.1.bytes, room.0) in
    let fits : used_space (changed f state.tree.rows view.entry) ≤ state.tree.capacity = omega (arith, space_resized state.tree view.entry size moment s.row at, room.1) in
    kept_changed f state view.entry opens_count entries_count after ok k (keeps_kept f (λ _. refl) (λ _. refl) (λ e. kept_twice e.basic.attributes.0))
    (good_within f state.tree view.entry s.row k at (kind_shown state number view s file) small fits kept.good.tree)
    (marks_kept f state.tree.rows view.entry state.opens (λ _. refl) (λ _. refl) kept.good.marked) kept
kept_sized (Err e) state number view size moment after opens_count entries_count s file free ok err kept =
    subst (λ (tree : Content). IsKept tree state.opens state.locks state.next opens_count entries_count) (sym err) kept

-- the size that is shown is the file's
size_shown : (state : StoreState) (number : ℕ) (view : View) → (s : ShownBy state number view) → view.size ≡ length s.row.1.bytes
size_shown state number view s = ap (λ (v : View). v.size) s.shown

-- a size that is set leaves the number and the kind
pub size_keeps : (size : ℕ) (is_allocation : Bool) (moment : ℕ) → Keeps (size_set size is_allocation moment)
size_keeps size is_allocation moment = record {
  number = λ e. elim (leaves_size (length e.bytes) size is_allocation) as (λ b. (let x : Entry = if b then e else resized_file size moment e in x).number ≡ e.number) [ true ↦ refl | false ↦ refl ];
  kind = λ e. elim (leaves_size (length e.bytes) size is_allocation) as (λ b. (let x : Entry = if b then e else resized_file size moment e in x).kind ≡ e.kind) [ true ↦ refl | false ↦ refl ];
}

sets_by : (size moment : ℕ) (entry : Entry) (b : Bool) → b ≡ false → (if b then entry else resized_file size moment entry) ≡ resized_file size moment entry
sets_by size moment entry b e = rw e refl

-- a size that is set
pub sized_done : {X E : Type 0} (r : Result X E) (state : StoreState) (number : ℕ) (view : View) (size : ℕ) (is_allocation : Bool) (moment : ℕ) (after : Content) → ShownBy state number view →
    leaves_size view.size size is_allocation ≡ false → OnOk r (after ≡ changed_in (resized_file size moment) state.tree view.entry) →
    OnOk r (record { tree = after; opens = state.opens; locks = state.locks; next = state.next } ≡ size_set_through state number size is_allocation moment)
sized_done (Err e) state number view size is_allocation moment after s sets ok = tt
sized_done (Ok x) state number view size is_allocation moment after s sets ok =
    let less : leaves_size (length s.row.1.bytes) size is_allocation ≡ false = ap (λ (n : ℕ). leaves_size n size is_allocation) (sym (size_shown state number view s)) ∙ sets in
    let alike : size_set size is_allocation moment s.row.1 ≡ resized_file size moment s.row.1 = sets_by size moment s.row.1 (leaves_size (length s.row.1.bytes) size is_allocation) less in
    set_through (size_set size is_allocation moment) state number view after s
    (ok ∙ sym (changed_alike (size_set size is_allocation moment) (resized_file size moment) state.tree view.entry s.row (at_shown state number view s) alike))

-- an allocation size that sets nothing
changed_itself : (f : Entry → Entry) (rows : List Row) (n : ℕ) (row : Row) → numbered rows n ≡ Some row → f row.1 ≡ row.1 → changed f rows n ≡ rows
changed_itself f [] n row h e = refl
changed_itself f (x ∷ rows) n row h e =
    elim (x.1.number == n) as (λ b. (cond b (Some x) (numbered rows n)) ≡ Some row → (cond b ((x.0, f x.1) ∷ rows) (x ∷ changed f rows n)) ≡ x ∷ rows) [
      | true ↦ λ q. (let same : row ≡ x = cc in let t : f x.1 ≡ x.1 = subst (λ (r : Row). f r.1 ≡ r.1) same e in λ i. (x.0, t i) ∷ rows)
      | false ↦ λ q. ap (λ (rs : List Row). x ∷ rs) (changed_itself f rows n row q e)
    ] h

leaves_by : (size moment : ℕ) (entry : Entry) (b : Bool) → b ≡ true → (if b then entry else resized_file size moment entry) ≡ entry
leaves_by size moment entry b e = rw e refl

pub nothing_set : (state : StoreState) (number : ℕ) (view : View) (size : ℕ) (is_allocation : Bool) (moment : ℕ) → ShownBy state number view → leaves_size view.size size is_allocation ≡ true → state ≡ size_set_through state number size is_allocation moment
nothing_set state number view size is_allocation moment s leaves =
    let f : Entry → Entry = size_set size is_allocation moment in
    let more : leaves_size (length s.row.1.bytes) size is_allocation ≡ true = ap (λ (n : ℕ). leaves_size n size is_allocation) (sym (size_shown state number view s)) ∙ leaves in
    let same : changed f state.tree.rows view.entry ≡ state.tree.rows = changed_itself f state.tree.rows view.entry s.row (at_shown state number view s) (leaves_by size moment s.row.1 (leaves_size (length s.row.1.bytes) size is_allocation) more) in
    set_through f state number view state.tree s (sym (ap (λ (rows : List Row). let c : Content = record state.tree { rows = rows } in c) same))

-- what refuses by the rows for what is shown refuses a SET_INFO of a mark
pub delete_refused : (state : StoreState) (number : ℕ) (view : View) (is_deleted is_occupied : Bool) (told : Option SetDispositionRefusal) → Some view ≡ open_view state number →
    is_occupied ≡ has_entries state.tree.rows view.entry → first_refusal (delete_rows view is_occupied is_deleted) ≡ told → delete_refusal state number is_deleted ≡ told
delete_refused state number view is_deleted is_occupied told shows there why =
    ap (λ (o : Option View). option_and_then (λ (v : View). first_refusal (delete_rows v (has_entries state.tree.rows v.entry) is_deleted)) o) (sym shows)
    ∙ ap (λ (b : Bool). first_refusal (delete_rows view b is_deleted)) (sym there) ∙ why
