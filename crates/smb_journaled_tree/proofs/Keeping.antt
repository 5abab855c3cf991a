-- What a journaled tree keeps of its notes, after a call.
use Rattle.std.proofs.Common.{◌≡◌, ◌≢◌, ℕ, ◌+◌, ◌-◌, ◌^◌, ◌<◌, ◌≤◌, ◌==◌, Bool, true, false, if◌then◌else◌, is_some, unwrap_or}
use Rattle.std.proofs.Common.{List, [], ◌∷◌, ◌++◌, length, Option, None, Some, refl, sym, ap, subst, arith, ◌∙◌, length-append, append-nil}
use Rattle.std.proofs.lemmas.Grind.{flat_map-append}
use Rattle.std.proofs.lemmas.Bool.{lt-leb}
use Rattle.std.proofs.lemmas.Bool.Decides.{nat_tests}
use Rattle.std.specs.Option.{option_map}
use Rattle.smb_wire.specs.Paths.{folded_path}
use Rattle.smb_tree.specs.declared.entry.Kind.{Kind}
use Rattle.smb_tree.specs.declared.fault.TreeFault.{TreeFault}
use Rattle.smb_tree.specs.declared.fault.TreeFault.TheVariants.{Absent}
use Rattle.smb_tree.specs.Entries.{Entry, new_entry}
use Rattle.smb_tree.specs.Content.{Path, Row, Content, entry_at, numbered, number_at, next_number, parent, added, changed_in}
use Rattle.smb_tree.specs.Content.{changed, without, resized, written}
use Rattle.smb_tree.specs.Faults.{add_fault, remove_fault, size_fault, write_fault, basic_fault}
use Rattle.smb_tree.specs.Good.{GoodContent}
use Rattle.smb_tree.proofs.Additions.{number_left as next_left}
use Rattle.smb_tree.proofs.Apart.{numbered-changed, numbered-push, number-from_numbered}
use Rattle.smb_tree.proofs.Renamed.{numbered-without}
use Rattle.smb_files.specs.Files.{Files, Change, sets, writes, resizes, changed_by, replayed}
use Rattle.smb_files.specs.Contents.{about_of, files_of}
use Rattle.smb_files.specs.Laws.{entry_change}
use Rattle.smb_files.proofs.Gets.{of_numbered}
use Rattle.smb_files.proofs.Removal.{removable}
use Rattle.smb_files.proofs.Goods.{all_push, good_removed, good_resized, good_written, good_set, good_added, length-changed}
use Rattle.smb_files.proofs.Equations.{added_change}
use Rattle.smb_changes.specs.Batches.{spelled, spelled_change}
use Rattle.smb_changes.specs.Crash.{IsWritable}
use Rattle.smb_journaled_tree.specs.declared.slots.Slots.{Slots}
use Rattle.smb_journaled_tree.specs.Slots.{slot_of, is_in, is_dirty, with_one, AreDirty}
use Rattle.smb_journaled_tree.specs.Kept.{Agrees, HaveSlots, IsNoted}
use Rattle.smb_journaled_tree.proofs.Faulting.{no_row}
use Rattle.smb_journaled_tree.proofs.Agreeing.{agrees_added, agrees_removed, agrees_set, agrees_written}
use Rattle.smb_journaled_tree.proofs.Agreeing.{left_there, noted_one, all_noted, agrees_itself}

-- an entry is marked
abbrev pub Marks : Slots → Slots → ℕ → Type 0
Marks slots new n =
    ((dirty : List ℕ) → is_some (slot_of slots n) ≡ true → AreDirty slots dirty → AreDirty new (with_one n dirty))
    × ((q : ℕ) → is_some (slot_of slots q) ≡ true → is_some (slot_of new q) ≡ true)

-- a slot is added
abbrev pub AddsSlot : Slots → Slots → ℕ → Type 0
AddsSlot slots new n =
    ((dirty : List ℕ) → is_in n dirty ≡ false → AreDirty slots dirty → AreDirty new dirty)
    × ((q : ℕ) → is_some (slot_of slots q) ≡ true → is_some (slot_of new q) ≡ true)

pub in_with : (n : ℕ) (ds : List ℕ) → is_in n (with_one n ds) ≡ true
in_with n ds = elim (is_in n ds) as (λ b. is_in n ds ≡ b → is_in n (if b then ds else n ∷ ds) ≡ true) [
  | true ↦ λ e. e
  | false ↦ λ e. grind (arith, nat_tests)
] refl

first_in : (n : ℕ) (ds : List ℕ) → is_in n (n ∷ ds) ≡ true
first_in n ds = grind (arith, nat_tests)

out_more : (q n : ℕ) (ds : List ℕ) → is_in q (n ∷ ds) ≡ false → is_in q ds ≡ false
out_more q n ds h = grind (arith, nat_tests, h)

pub out_with : (q n : ℕ) (ds : List ℕ) → is_in q (with_one n ds) ≡ false → is_in q ds ≡ false
out_with q n ds h = elim (is_in n ds) as (λ b. is_in q (if b then ds else n ∷ ds) ≡ false → is_in q ds ≡ false) [
  | true ↦ λ e. e
  | false ↦ λ e. out_more q n ds e
] h

pub in_still : (q n : ℕ) (ds : List ℕ) → is_in q ds ≡ true → is_in q (with_one n ds) ≡ true
in_still q n ds h = elim (is_in n ds) as (λ b. is_in q (if b then ds else n ∷ ds) ≡ true) [
  | true ↦ h
  | false ↦ grind (arith, nat_tests, h)
]

apart_out : (q n : ℕ) (ds : List ℕ) → n < q → is_in q ds ≡ false → is_in q (with_one n ds) ≡ false
apart_out q n ds l h = elim (is_in n ds) as (λ b. is_in q (if b then ds else n ∷ ds) ≡ false) [
  | true ↦ h
  | false ↦ grind (arith, nat_tests, h, l)
]

pub below_with : (content : Content) (n : ℕ) (row : Row) (dirty : List ℕ) → GoodContent content → numbered content.rows n ≡ Some row →
    ((q : ℕ) → content.next ≤ q → is_in q dirty ≡ false) → (q : ℕ) → content.next ≤ q → is_in q (with_one n dirty) ≡ false
below_with content n row dirty good found below q h =
    let its : row.1.number ≡ n = number-from_numbered content.rows row n found in
    let less : row.1.number < content.next = of_numbered (λ r. r.1.number < content.next) content.rows n row good.below found in
    apart_out q n dirty (omega (arith, its, less, h)) (below q h)

pub length-removed : (rows : List Row) (n : ℕ) (row : Row) → numbered rows n ≡ Some row → length (without rows n) + 1 ≡ length rows
length-removed [] n row h = cc
length-removed (x ∷ rows) n row h = grind (arith, h, length-removed rows n row)

some_rows : (rows : List Row) (n : ℕ) (row : Row) → numbered rows n ≡ Some row → 1 ≤ length rows
some_rows [] n row h = absurd (no_row row h)
some_rows (x ∷ rows) n row h = omega arith

pub removed_from_some : (content : Content) (n entries : ℕ) → remove_fault content n ≡ None → entries ≡ length content.rows → 1 ≤ entries
removed_from_some content n entries free e = (let r = removable content.rows (numbered content.rows n) free in omega (arith, e, some_rows content.rows n r.0 r.1))

no_absent : ◌≡◌ {A = Option TreeFault} (Some Absent) None → ⊥
no_absent h = cc

there_by : (o : Option Row) → (if is_some o then None else Some Absent) ≡ None → (row : Row) × (o ≡ Some row)
there_by None h = absurd (no_absent h)
there_by (Some row) h = (row, refl)

-- an entry that is not absent is there
pub there_is : (content : Content) (n : ℕ) → basic_fault content n ≡ None → (row : Row) × (numbered content.rows n ≡ Some row)
there_is content n h = there_by (numbered content.rows n) h

pub spelled_more : (xs ys : List Change) → spelled (xs ++ ys) ≡ spelled xs ++ spelled ys
spelled_more xs ys = flat_map-append spelled_change xs ys

pub replayed-append : (files : Files) (xs ys : List Change) → replayed files (xs ++ ys) ≡ replayed (replayed files xs) ys
replayed-append files [] ys = refl
replayed-append files (x ∷ xs) ys = replayed-append (changed_by files x) xs ys

-- one more change is spelled
pub spelled_one : (pending new : List ℕ) (changes : List Change) (change : Change) → pending ≡ spelled changes → new ≡ pending ++ spelled_change change → new ≡ spelled (changes ++ change ∷ [])
spelled_one pending new changes change h e =
    e ∙ ap (λ (l : List ℕ). l ++ spelled_change change) h ∙ ap (λ (l : List ℕ). spelled changes ++ l) (sym (append-nil (spelled_change change))) ∙ sym (spelled_more changes (change ∷ []))

before_change : (b : Bool) (o : Option Row) (f : Entry → Entry) (row : Row) → (if b then option_map (λ (x : Row). (x.0, f x.1)) o else o) ≡ Some row → (r : Row) × (o ≡ Some r)
before_change true None f row h = absurd (no_row row h)
before_change false None f row h = absurd (no_row row h)
before_change b (Some r) f row h = (r, refl)

there_before : (f : Entry → Entry) (rows : List Row) (n q : ℕ) (row : Row) → ((e : Entry) → (f e).number ≡ e.number) → numbered (changed f rows n) q ≡ Some row → (r : Row) × (numbered rows q ≡ Some r)
there_before f rows n q row same h = before_change (q == n) (numbered rows q) f row (sym (numbered-changed f rows n q same) ∙ h)

slot_by : (slots new : Slots) (n q : ℕ) (row : Row) (o : Option Row) (last : Row) → is_some (slot_of new n) ≡ true → last.1.number ≡ n → ((row : Row) → o ≡ Some row → is_some (slot_of new q) ≡ true) →
    (if is_some o then o else if last.1.number == q then Some last else None) ≡ Some row → is_some (slot_of new q) ≡ true
slot_by slots new n q row None last m its k h =
    elim (last.1.number == q) as (λ b. (last.1.number == q) ≡ b → (if b then Some last else None) ≡ Some row → is_some (slot_of new q) ≡ true) [
      | true ↦ λ e _. (let same : q ≡ n = grind (arith, nat_tests, e, its) in rw same m)
      | false ↦ λ e f. absurd (no_row row f)
    ] refl h
slot_by slots new n q row (Some r) last m its k h = k r refl

module _ (content after settled : Content) (pending : List ℕ) (slots : Slots) (entries : ℕ) (k : IsNoted content settled pending slots entries) where
  -- nothing changed
  pub keeps_same : (new : List ℕ) → after ≡ content → new ≡ pending → IsNoted after settled new slots entries
  keeps_same new e f = rw (e, f) k

  pub keeps_removed : (new : Slots) (n : ℕ) → n ≢ 1 → remove_fault content n ≡ None → after ≡ record content { rows = without content.rows n } → Marks slots new n → IsNoted after settled pending new (entries - 1)
  keeps_removed new n apart free is m =
      let r = removable content.rows (numbered content.rows n) free in
      rw is (record {
        good = good_removed content n k.good apart free;
        counted = omega (arith, k.counted, length-removed content.rows n r.0 r.1);
        slotted = λ q row h. m.1 q (k.slotted q row (left_there content.rows q n row (numbered-without content.rows n q k.good.apart) h));
        dirty = with_one n k.dirty;
        are_dirty = m.0 k.dirty (k.slotted n r.0 r.1) k.are_dirty;
        below = below_with content n r.0 k.dirty k.good r.1 k.below;
        changes = k.changes;
        each = k.each;
        spelled_are = k.spelled_are;
        agrees = agrees_removed content (replayed (files_of settled) k.changes) (λ q. is_in q k.dirty) (λ q. is_in q (with_one n k.dirty)) n k.agrees k.good apart free (in_with n k.dirty) (λ q c. out_with q n k.dirty c);
      })

  pub keeps_set : (f : Entry → Entry) (new : Slots) (n : ℕ) → basic_fault content n ≡ None → ((e : Entry) → (f e).number ≡ e.number) → ((e : Entry) → (f e).kind ≡ e.kind) → ((e : Entry) → (f e).bytes ≡ e.bytes) → after ≡ changed_in f content n → Marks slots new n → IsNoted after settled pending new entries
  keeps_set f new n free same kind bytes is m =
      let r = there_is content n free in
      rw is (record {
        good = good_set f content n (record { number = same; kind = kind }) bytes k.good;
        counted = k.counted ∙ sym (length-changed f content.rows n);
        slotted = λ q row h. (let b = there_before f content.rows n q row same h in m.1 q (k.slotted q b.0 b.1));
        dirty = with_one n k.dirty;
        are_dirty = m.0 k.dirty (k.slotted n r.0 r.1) k.are_dirty;
        below = below_with content n r.0 k.dirty k.good r.1 k.below;
        changes = k.changes;
        each = k.each;
        spelled_are = k.spelled_are;
        agrees = agrees_set f content (replayed (files_of settled) k.changes) (λ q. is_in q k.dirty) (λ q. is_in q (with_one n k.dirty)) n k.agrees same bytes (in_with n k.dirty) (λ q c. out_with q n k.dirty c);
      })

  pub keeps_written : (new : List ℕ) (n offset : ℕ) (buffer : List ℕ) → write_fault content n offset (length buffer) ≡ None → after ≡ changed_in (λ entry. record entry { bytes = written offset buffer entry.bytes }) content n → IsWritable (writes n offset buffer) → new ≡ pending ++ spelled_change (writes n offset buffer) → IsNoted after settled new slots entries
  keeps_written new n offset buffer free is w e =
      let f : Entry → Entry = λ entry. record entry { bytes = written offset buffer entry.bytes } in
      let one = writes n offset buffer in
      let same = replayed-append (files_of settled) k.changes (one ∷ []) in
      rw is (record {
        good = good_written content n offset buffer k.good free;
        counted = k.counted ∙ sym (length-changed f content.rows n);
        slotted = λ q row h. (let b = there_before f content.rows n q row (λ x. refl) h in k.slotted q b.0 b.1);
        dirty = k.dirty;
        are_dirty = k.are_dirty;
        below = k.below;
        changes = k.changes ++ one ∷ [];
        each = all_push IsWritable k.changes one k.each w;
        spelled_are = spelled_one pending new k.changes one k.spelled_are e;
        agrees = rw same (agrees_written (written offset buffer) content (replayed (files_of settled) k.changes) (λ q. is_in q k.dirty) n k.agrees);
      })

  pub keeps_resized : (new : List ℕ) (n size : ℕ) → size_fault content n size ≡ None → after ≡ changed_in (λ entry. record entry { bytes = resized size entry.bytes }) content n → IsWritable (resizes n size) → new ≡ pending ++ spelled_change (resizes n size) → IsNoted after settled new slots entries
  keeps_resized new n size free is w e =
      let f : Entry → Entry = λ entry. record entry { bytes = resized size entry.bytes } in
      let one = resizes n size in
      let same = replayed-append (files_of settled) k.changes (one ∷ []) in
      rw is (record {
        good = good_resized content n size k.good free;
        counted = k.counted ∙ sym (length-changed f content.rows n);
        slotted = λ q row h. (let b = there_before f content.rows n q row (λ x. refl) h in k.slotted q b.0 b.1);
        dirty = k.dirty;
        are_dirty = k.are_dirty;
        below = k.below;
        changes = k.changes ++ one ∷ [];
        each = all_push IsWritable k.changes one k.each w;
        spelled_are = spelled_one pending new k.changes one k.spelled_are e;
        agrees = rw same (agrees_written (resized size) content (replayed (files_of settled) k.changes) (λ q. is_in q k.dirty) n k.agrees);
      })

  -- a slot may be there that no entry has
  pub keeps_slotted : (new : Slots) (items : List ℕ) (n : ℕ) → n ≡ content.next → after ≡ content → items ≡ pending → AddsSlot slots new n → IsNoted after settled items new entries
  keeps_slotted new items n its is same m = rw (is, same) (record {
    good = k.good;
    counted = k.counted;
    slotted = λ q row h. m.1 q (k.slotted q row h);
    dirty = k.dirty;
    are_dirty = m.0 k.dirty (k.below n (omega (arith, its))) k.are_dirty;
    below = k.below;
    changes = k.changes;
    each = k.each;
    spelled_are = k.spelled_are;
    agrees = k.agrees;
  })

  pub keeps_added : (new : Slots) (items : List ℕ) (parts : List (List ℕ)) (kind : Kind) (attributes moment : ℕ) (change : Change) → length parts ≤ 32 → add_fault content (folded_path parts) ≡ None →
      after ≡ added content parts kind attributes moment →
      change ≡ sets content.next (unwrap_or (number_at content.rows (parent (folded_path parts))) 0) (about_of (new_entry content.next parts kind attributes moment)) →
      IsWritable change → items ≡ pending ++ spelled_change change → AddsSlot slots new content.next → is_some (slot_of new content.next) ≡ true → IsNoted after settled items new (entries + 1)
  keeps_added new items parts kind attributes moment change short free is its w e m here =
      let made : Entry = new_entry content.next parts kind attributes moment in
      let same : entry_change (added content parts kind attributes moment) content.next ≡ change = added_change content parts kind attributes moment k.good free ∙ sym its in
      let all = replayed-append (files_of settled) k.changes (change ∷ []) in
      let agrees = agrees_added content (folded_path parts) made (replayed (files_of settled) k.changes) (λ q. is_in q k.dirty) k.agrees k.good refl refl in
      rw is (record {
        good = good_added content parts kind attributes moment k.good short free;
        counted = omega (arith, k.counted, length-append content.rows ((folded_path parts, made) ∷ []));
        slotted = λ q row h. slot_by slots new content.next q row (numbered content.rows q) (folded_path parts, made) here refl (λ r f. m.1 q (k.slotted q r f)) (sym (numbered-push content.rows (folded_path parts, made) q) ∙ h);
        dirty = k.dirty;
        are_dirty = m.0 k.dirty (k.below content.next (omega arith)) k.are_dirty;
        below = λ q h. k.below q (omega (arith, h));
        changes = k.changes ++ change ∷ [];
        each = all_push IsWritable k.changes change k.each w;
        spelled_are = spelled_one pending items k.changes change k.spelled_are e;
        agrees = rw all (rw same at agrees);
      })

-- the number that is left
pub number_left : (content : Content) (path : Path) (o : Option ℕ) (n : ℕ) → add_fault content path ≡ None → o ≡ next_number content → n ≡ unwrap_or o 0 → n ≡ content.next
number_left content path o n free e k =
    let left = next_left (entry_at content.rows) content.limits.entries (length content.rows) content.next path free in
    let some : o ≡ Some content.next = e ∙ rw (lt-leb (2 ^ 64 - 1) content.next left) refl in
    k ∙ ap (λ (o : Option ℕ). unwrap_or o 0) some

-- the first dirty entry of a chain
first_is : (slots : Slots) (n : ℕ) (dirty : List ℕ) → slots.first ≡ Some n → AreDirty slots dirty → (rest : List ℕ) × (dirty ≡ n ∷ rest)
first_is slots n [] h a = absurd (let no : ◌≡◌ {A = Option ℕ} None (Some n) = sym a.chained ∙ h in cc)
first_is slots n (m ∷ rest) h a = (let same : m ≡ n = (let e : Some m ≡ Some n = sym a.chained.0 ∙ h in cc) in (rest, ap (λ (k : ℕ). k ∷ rest) same))

-- where there is no first one, none is dirty
pub none_dirty : (slots : Slots) (dirty : List ℕ) → slots.first ≡ None → AreDirty slots dirty → dirty ≡ []
none_dirty slots [] h a = refl
none_dirty slots (m ∷ rest) h a = absurd (let no : ◌≡◌ {A = Option ℕ} (Some m) None = sym a.chained.0 ∙ h in cc)

-- the first dirty one has a dirty slot
pub first_dirty : (slots : Slots) (n : ℕ) → slots.first ≡ Some n → (dirty : List ℕ) × AreDirty slots dirty → is_dirty (slot_of slots n) ≡ true
first_dirty slots n h d =
    let f = first_is slots n d.0 h d.1 in
    d.1.told n ∙ ap (is_in n) f.1 ∙ first_in n f.0

-- it is taken
abbrev pub Takes : Slots → Slots → ℕ → Bool → Type 0
Takes slots new n stays =
    ((dirty : List ℕ) → AreDirty slots (n ∷ dirty) → AreDirty new dirty)
    × ((q : ℕ) → (q ≡ n → stays ≡ true) → is_some (slot_of slots q) ≡ true → is_some (slot_of new q) ≡ true)

pub dirty_left : (slots new : Slots) (n : ℕ) (stays : Bool) → slots.first ≡ Some n → Takes slots new n stays → (dirty : List ℕ) × AreDirty slots dirty → (dirty : List ℕ) × AreDirty new dirty
dirty_left slots new n stays h t d =
    let f = first_is slots n d.0 h d.1 in
    (f.0, t.0 f.0 (rw (← f.1) d.1))

-- the first dirty entry is noted as it is
pub keeps_first : (content settled : Content) (pending items : List ℕ) (slots new : Slots) (entries n : ℕ) (stays : Bool) → slots.first ≡ Some n → Takes slots new n stays → stays ≡ is_some (numbered content.rows n) → IsWritable (entry_change content n) → items ≡ pending ++ spelled_change (entry_change content n) → IsNoted content settled pending slots entries → IsNoted content settled items new entries
keeps_first content settled pending items slots new entries n stays h t there w e k =
    let f = first_is slots n k.dirty h k.are_dirty in
    let dirty : List ℕ = f.0 in
    let is : k.dirty ≡ n ∷ dirty = f.1 in
    let change = entry_change content n in
    let same = replayed-append (files_of settled) k.changes (change ∷ []) in
    let agrees : Agrees content (replayed (files_of settled) k.changes) (λ q. is_in q (n ∷ dirty)) = subst (λ (ds : List ℕ). Agrees content (replayed (files_of settled) k.changes) (λ q. is_in q ds)) is k.agrees in
    record {
      good = k.good;
      counted = k.counted;
      slotted = λ q row found. t.1 q (λ its. there ∙ ap (λ (o : Option Row). is_some o) (ap (numbered content.rows) (sym its) ∙ found)) (k.slotted q row found);
      dirty = dirty;
      are_dirty = t.0 dirty (subst (AreDirty slots) is k.are_dirty);
      below = λ q l. out_more q n dirty (ap (is_in q) (sym is) ∙ k.below q l);
      changes = k.changes ++ change ∷ [];
      each = all_push IsWritable k.changes change k.each w;
      spelled_are = spelled_one pending items k.changes change k.spelled_are e;
      agrees = rw same (noted_one content (replayed (files_of settled) k.changes) n dirty k.good agrees);
    }

-- where none is dirty, the changes make the files those of the content
pub all_replayed : (content settled : Content) (pending : List ℕ) (slots : Slots) (entries : ℕ) (k : IsNoted content settled pending slots entries) → slots.first ≡ None → files_of content ≡ replayed (files_of settled) k.changes
all_replayed content settled pending slots entries k h =
    let none = none_dirty slots k.dirty h k.are_dirty in
    sym (all_noted content (replayed (files_of settled) k.changes) (subst (λ (ds : List ℕ). Agrees content (replayed (files_of settled) k.changes) (λ q. is_in q ds)) none k.agrees))

-- nothing is noted since all was settled
pub keeps_settled : (content : Content) (pending : List ℕ) (slots : Slots) (entries : ℕ) → GoodContent content → entries ≡ length content.rows → HaveSlots content slots → AreDirty slots [] → pending ≡ [] → IsNoted content content pending slots entries
keeps_settled content pending slots entries good counted slotted clean none = record {
  good = good;
  counted = counted;
  slotted = slotted;
  dirty = [];
  are_dirty = clean;
  below = λ q h. refl;
  changes = [];
  each = tt;
  spelled_are = none;
  agrees = agrees_itself content good;
}
