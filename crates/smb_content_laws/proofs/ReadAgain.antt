-- What a READ that succeeds gives.
use Rattle.std.proofs.Common.{◌≡◌, ◌⊎◌, inl, inr, ℕ, ◌+◌, ◌-◌, ◌<◌, ◌≤◌, ◌==◌, ◌&&◌, min, Bool, true, false, nat_lt, nat_le, if◌then◌else◌, List, [], ◌∷◌, length, Option, None, Some, is_some, refl, sym, ap, subst, ◌∙◌, arith}
use Rattle.std.proofs.lemmas.Bool.{ltb-false, leb-false, or_parts, and_cases}
use Rattle.std.proofs.lemmas.Bool.Decides.{nat_tests}
use Rattle.std.specs.Option.{option_map, option_map_or}
use Rattle.std.specs.Prelude.{slice_get}
use Rattle.smb_wire.specs.declared.nt_status.NtStatus.TheVariants.{Success, FileClosed}
use Rattle.smb_tree.specs.Entries.{Entry}
use Rattle.smb_tree.specs.Content.{Row, Content, numbered, changed, bytes_of, written, resized, changed_in}
use Rattle.smb_tree.specs.Parts.{part}
use Rattle.smb_tree.proofs.Apart.{numbered-changed}
use Rattle.smb_access.specs.declared.open_row.OpenRow.{OpenRow}
use Rattle.smb_access.specs.declared.view.View.{View}
use Rattle.smb_access.specs.Opens.{open_of}
use Rattle.smb_refusals.specs.declared.refusal.Refusal.{Refusal}
use Rattle.smb_refusals.specs.Rows.{first_status, with_statuses}
use Rattle.smb_access.specs.Views.{view_of}
use Rattle.smb_access.specs.Parts.{view_through}
use Rattle.smb_access.proofs.Changes.{Keeps, below_changed}
use Rattle.smb_access.proofs.Rows.{found}
use Rattle.smb_entry.specs.Parts.{bytes_there, keeps_from_reading, read_rows, written_file, written_tree, size_set}
use Rattle.smb_entry.proofs.Writes.{writes_keep}
use Rattle.smb_opens.specs.Bytes.{read_status, file_bytes, written_to}
use Rattle.smb_opens.specs.Effect.{created, create_result}
use Rattle.smb_opens.specs.Found.{entry_asked}
use Rattle.smb_opens.specs.Good.{GoodStore}
use Rattle.smb_opens.specs.SetInfo.{size_set_through}
use Rattle.smb_opens.specs.State.{StoreState}
use Rattle.smb_opens.specs.Steps.{StoreStep, stepped_all, NoneChanges}
use Rattle.smb_opens.proofs.Again.{entry_there}
use Rattle.smb_opens.proofs.Once.{once_of_apart, once_changed}
use Rattle.smb_opens.proofs.Passing.{pass_all}
use Rattle.smb_opens.proofs.Returned.{returned_shown}
use Rattle.smb_opens.proofs.Shows.{shown_by}
use Rattle.smb_opens.proofs.StoreSettings.{size_keeps}
use Rattle.smb_wire.specs.Dispositions.{overwrites_by}
use Rattle.smb_access.specs.Asked.{FileAsked}
use Rattle.smb_access.specs.Effect.{overwritten, entry_after}
use Rattle.std.proofs.lemmas.List.{nil_from_length}
use Rattle.smb_content_laws.specs.Reading.{IsReadLater, WhatIsWrittenIsReadAgain, ASizeLeavesTheFront}
use Rattle.smb_content_laws.proofs.Parts.{length-part, part_each, written_part, gap_part, longer_part, rest_part, front_part}
use Rattle.smb_content_laws.proofs.Quiet.{Stays, bytes_at, steps_stay, given_below, reads, same_end}

-- where a READ succeeds its entry exists, and bytes are there
record IsRead (state : StoreState) (held : OpenRow) (offset count minimum : ℕ) : Type 0 where
  row : Row
  at_entry : numbered state.tree.rows held.entry ≡ Some row
  some : nat_lt 0 count && nat_le (length row.1.bytes) offset ≡ false
  enough : nat_lt (min count (length row.1.bytes - offset)) minimum ≡ false

is_read : (state : StoreState) (most number offset count minimum : ℕ) (held : OpenRow) → open_of state.opens number ≡ Some held → read_status state most number offset count minimum ≡ Success → IsRead state held offset count minimum
is_read state most number offset count minimum held opened h =
    at_row (numbered state.tree.rows held.entry) refl (sym (ap (λ (o : Option OpenRow). option_map_or (λ view. first_status (with_statuses (λ refusal. Refusal.Read refusal) (read_rows most view (keeps_from_reading state.locks number view offset count) offset count minimum))) (view_through state.tree.rows o) FileClosed) opened) ∙ h)
  where
    at_row : (o : Option Row) → numbered state.tree.rows held.entry ≡ o →
        option_map_or (λ (view : View). first_status (with_statuses (λ refusal. Refusal.Read refusal) (read_rows most view (keeps_from_reading state.locks number view offset count) offset count minimum))) (option_map (λ (row : Row). view_of held.access row.1) o) FileClosed ≡ Success → IsRead state held offset count minimum
    at_row None e s = absurd (let f : FileClosed ≡ Success = s in cc)
    at_row (Some row) e s =
        let view : View = view_of held.access row.1 in
        let rows = pass_all (with_statuses (λ refusal. Refusal.Read refusal) (read_rows most view (keeps_from_reading state.locks number view offset count) offset count minimum)) ((λ q. cc), ((λ q. cc), ((λ q. cc), ((λ q. cc), ((λ q. cc), tt))))) s in
        let last = or_parts (nat_lt 0 count && nat_le view.size offset) (nat_lt (bytes_there view.size offset count) minimum) rows.1.1.1.1.0 in
        record { row = row; at_entry = e; some = last.0; enough = last.1 }

some_given : (size offset count : ℕ) → (nat_lt 0 count && nat_le size offset) ≡ false → 0 < count → 0 < min count (size - offset)
some_given size offset count h c =
    elim (and_cases (nat_lt 0 count) (nat_le size offset) h) [
      | inl none ↦ absurd (let l = ltb-false 0 count none in omega arith)
      | inr some ↦ (let l = leb-false size offset some in omega arith)
    ]

pub read_there : (state : StoreState) (most number offset count minimum : ℕ) (held : OpenRow) → open_of state.opens number ≡ Some held → read_status state most number offset count minimum ≡ Success →
    (length (file_bytes state number offset count) ≡ min count (length (bytes_of state.tree.rows held.entry) - offset))
    × ((k : ℕ) → k < length (file_bytes state number offset count) → slice_get (file_bytes state number offset count) k ≡ slice_get (bytes_of state.tree.rows held.entry) (offset + k))
    × (minimum ≤ length (file_bytes state number offset count))
    × (0 < count → 0 < length (file_bytes state number offset count))
read_there state most number offset count minimum held opened h =
    let r = is_read state most number offset count minimum held opened h in
    let bytes : List ℕ = bytes_of state.tree.rows held.entry in
    let given : file_bytes state number offset count ≡ part offset count bytes = reads state number offset count held held.entry opened refl in
    let here : bytes ≡ r.row.1.bytes = ap (λ (o : Option Row). option_map_or (λ (row : Row). row.1.bytes) o []) r.at_entry in
    let long : length (file_bytes state number offset count) ≡ min count (length bytes - offset) = ap length given ∙ length-part bytes offset count in
    let size : length bytes ≡ length r.row.1.bytes = ap length here in
    let enough = ltb-false (min count (length r.row.1.bytes - offset)) minimum r.enough in (
      long,
      subst (λ (xs : List ℕ). (k : ℕ) → k < length xs → slice_get xs k ≡ slice_get bytes (offset + k)) (sym given) (part_each bytes offset count),
      omega (arith, long, size, enough),
      λ c. (let some = some_given (length r.row.1.bytes) offset count r.some c in omega (arith, long, size, some)),
    )

-- the bytes of a good store's entry
start : (state : StoreState) (n : ℕ) (row : Row) → GoodStore state → numbered state.tree.rows n ≡ Some row → Stays n row.1.bytes state.tree
start state n row good h = record {
  apart = once_of_apart state.tree.rows good.tree.apart;
  below = good.tree.below;
  given = given_below state.tree.rows state.tree.next n row good.tree.below h;
  kept = inr (ap (option_map (λ (row : Row). row.1.bytes)) h);
}

same_row : (rows : List Row) (n : ℕ) (bytes : List ℕ) (after : Row) → numbered rows n ≡ Some after → ((numbered rows n ≡ None) ⊎ (bytes_at rows n ≡ Some bytes)) → after.1.bytes ≡ bytes
same_row rows n bytes after h (inl none) = absurd (let e : None ≡ Some after = sym none ∙ h in cc)
same_row rows n bytes after h (inr some) = let e : Some after.1.bytes ≡ Some bytes = sym (ap (option_map (λ (row : Row). row.1.bytes)) h) ∙ some in cc

pub kept_bytes : (state : StoreState) (steps : List StoreStep) (n : ℕ) (before after : Row) → GoodStore state → numbered state.tree.rows n ≡ Some before → NoneChanges n state steps →
    numbered (stepped_all state steps).tree.rows n ≡ Some after → after.1.bytes ≡ before.1.bytes
kept_bytes state steps n before after good h quiet e =
    same_row (stepped_all state steps).tree.rows n before.1.bytes after e (steps_stay state steps n before.1.bytes quiet (start state n before good h)).kept

-- what is read of bytes that stay
read_kept : (state : StoreState) (n : ℕ) (bytes : List ℕ) (offset count : ℕ) (given : List ℕ) → Stays n bytes state.tree → IsReadLater state n offset count given → given ≡ part offset count bytes
read_kept state n bytes offset count given stays f =
    let after : StoreState = stepped_all state f.steps in
    sym f.gives
    ∙ reads after f.number offset count f.reader n f.opened f.same
    ∙ ap (part offset count) (same_end after.tree.rows n bytes f.there (steps_stay state f.steps n bytes f.quiet stays).kept)

-- the bytes of an entry that was changed
start_changed : (f : Entry → Entry) (state : StoreState) (n : ℕ) (row : Row) → GoodStore state → Keeps f → numbered state.tree.rows n ≡ Some row → Stays n (f row.1).bytes (changed_in f state.tree n)
start_changed f state n row good k h =
    let own : (n == n) ≡ true = grind (arith, nat_tests) in
    let after : numbered (changed f state.tree.rows n) n ≡ Some (row.0, f row.1) = numbered-changed f state.tree.rows n n k.number ∙ rw (own, h) refl in
    record {
      apart = once_changed f state.tree.rows n k.number (once_of_apart state.tree.rows good.tree.apart);
      below = below_changed f state.tree.rows n state.tree.next k good.tree.below;
      given = given_below state.tree.rows state.tree.next n row good.tree.below h;
      kept = inr (ap (option_map (λ (row : Row). row.1.bytes)) after);
    }

-- the entry of an open exists
pub there_of : (state : StoreState) (number : ℕ) (held : OpenRow) → GoodStore state → open_of state.opens number ≡ Some held → (row : Row) × (numbered state.tree.rows held.entry ≡ Some row)
there_of state number held good opened = entry_there state.tree.rows held.entry (found (λ row. is_some (numbered state.tree.rows row.entry) ≡ true) state.opens number held good.present opened)

bytes_there_are : (rows : List Row) (n : ℕ) (row : Row) → numbered rows n ≡ Some row → bytes_of rows n ≡ row.1.bytes
bytes_there_are rows n row h = ap (λ (o : Option Row). option_map_or (λ (row : Row). row.1.bytes) o []) h

-- after a WRITE of some bytes
pub after_write : (state : StoreState) (number offset : ℕ) (buffer : List ℕ) (moment : ℕ) (held : OpenRow) → open_of state.opens number ≡ Some held → (length buffer == 0) ≡ false →
    written_to state number offset buffer moment ≡ record state { tree = written_tree state.tree held.entry offset buffer moment }
after_write state number offset buffer moment held one some =
    ap (λ (o : Option OpenRow). option_map_or (λ (row : OpenRow). if length buffer == 0 then state else record state { tree = written_tree state.tree row.entry offset buffer moment }) o state) one ∙ rw some refl

start_written : (state : StoreState) (number offset : ℕ) (buffer : List ℕ) (moment : ℕ) (held : OpenRow) (row : Row) → GoodStore state → open_of state.opens number ≡ Some held → numbered state.tree.rows held.entry ≡ Some row → 0 < length buffer →
    Stays held.entry (written offset buffer row.1.bytes) (written_to state number offset buffer moment).tree
start_written state number offset buffer moment held row good one h long =
    let some : (length buffer == 0) ≡ false = grind (arith, nat_tests, long) in
    subst (λ (s : StoreState). Stays held.entry (written offset buffer row.1.bytes) s.tree) (sym (after_write state number offset buffer moment held one some))
    (start_changed (written_file offset buffer moment) state held.entry row good (writes_keep offset buffer moment) h)

start_unwritten : (state : StoreState) (number offset moment : ℕ) (held : OpenRow) (row : Row) → GoodStore state → open_of state.opens number ≡ Some held → numbered state.tree.rows held.entry ≡ Some row → Stays held.entry row.1.bytes (written_to state number offset [] moment).tree
start_unwritten state number offset moment held row good one h =
    let left : written_to state number offset [] moment ≡ state = ap (λ (o : Option OpenRow). option_map_or (λ (row : OpenRow). state) o state) one in
    subst (λ (s : StoreState). Stays held.entry row.1.bytes s.tree) (sym left) (start state held.entry row good h)

-- what is read again of what was written, and of what was there
written_again : (state : StoreState) (number at : ℕ) (buffer : List ℕ) (moment : ℕ) (writer : OpenRow) (row : Row) (offset count : ℕ) (given : List ℕ) → GoodStore state → open_of state.opens number ≡ Some writer →
    numbered state.tree.rows writer.entry ≡ Some row → 0 < length buffer → IsReadLater (written_to state number at buffer moment) writer.entry offset count given → given ≡ part offset count (written at buffer row.1.bytes)
written_again state number at buffer moment writer row offset count given good one there some f =
    read_kept (written_to state number at buffer moment) writer.entry (written at buffer row.1.bytes) offset count given (start_written state number at buffer moment writer row good one there some) f

pub read_again : WhatIsWrittenIsReadAgain
read_again state number at [] moment writer offset count given good one f =
    let e = there_of state number writer good one in
    let same = read_kept (written_to state number at [] moment) writer.entry e.0.1.bytes offset count given (start_unwritten state number at moment writer e.0 good one e.1) f in (
      λ place begin le. (let none : count ≡ 0 = omega (arith, le) in same ∙ ap (λ (n : ℕ). part offset n e.0.1.bytes) none ∙ sym (ap (λ (n : ℕ). part place n []) none)),
      λ within apart. same ∙ ap (part offset count) (sym (bytes_there_are state.tree.rows writer.entry e.0 e.1)),
      λ some front back. absurd (omega (arith, some)),
    )
read_again state number at (x ∷ xs) moment writer offset count given good one f =
    let e = there_of state number writer good one in
    let bytes = bytes_there_are state.tree.rows writer.entry e.0 e.1 in
    let long = ap length bytes in
    let again = written_again state number at (x ∷ xs) moment writer e.0 offset count given good one e.1 (omega arith) f in (
      λ place begin le. again ∙ ap (λ (n : ℕ). part n count (written at (x ∷ xs) e.0.1.bytes)) begin ∙ written_part at place count (x ∷ xs) e.0.1.bytes le,
      λ within apart. again ∙ rest_part at offset count (x ∷ xs) e.0.1.bytes (omega (arith, long, within)) apart ∙ ap (part offset count) (sym bytes),
      λ some front back. again ∙ gap_part at offset count (x ∷ xs) e.0.1.bytes (omega (arith, long, front)) back,
    )

-- after a size is set
start_sized : (state : StoreState) (number size moment : ℕ) (held : OpenRow) (row : Row) → GoodStore state → open_of state.opens number ≡ Some held → numbered state.tree.rows held.entry ≡ Some row →
    Stays held.entry (resized size row.1.bytes) (size_set_through state number size false moment).tree
start_sized state number size moment held row good one h =
    let after : size_set_through state number size false moment ≡ record state { tree = changed_in (size_set size false moment) state.tree held.entry } =
    ap (λ (o : Option OpenRow). option_map_or (λ (row : OpenRow). let s : StoreState = record state { tree = changed_in (size_set size false moment) state.tree row.entry } in s) o state) one in
    subst (λ (s : StoreState). Stays held.entry (resized size row.1.bytes) s.tree) (sym after) (start_changed (size_set size false moment) state held.entry row good (size_keeps size false moment) h)

pub read_front : ASizeLeavesTheFront
read_front state number size moment setter offset count given good one f short =
    let e = there_of state number setter good one in
    let bytes = bytes_there_are state.tree.rows setter.entry e.0 e.1 in
    let long = ap length bytes in
    let again = read_kept (size_set_through state number size false moment) setter.entry (resized size e.0.1.bytes) offset count given (start_sized state number size moment setter e.0 good one e.1) f in (
      λ within. again ∙ front_part size offset count e.0.1.bytes short (omega (arith, long, within)) ∙ ap (part offset count) (sym bytes),
      λ front. again ∙ longer_part size offset count e.0.1.bytes (omega (arith, long, front)) short,
    )

-- a file that is made has no bytes
none_after : (tree : Content) (ask : FileAsked) (moment : ℕ) (found : Option Entry) → (found ≡ None) ⊎ (overwrites_by ask.disposition ≡ true) → (entry_after tree ask moment found).bytes ≡ []
none_after tree ask moment None either = refl
none_after tree ask moment (Some entry) (inl none) = absurd (let e : Some entry ≡ None = none in cc)
none_after tree ask moment (Some entry) (inr over) = ap (λ (b : Bool). (let e : Entry = if b then overwritten ask moment entry else entry in e).bytes) over

part-none : (offset count : ℕ) → part offset count [] ≡ []
part-none offset count = nil_from_length (part offset count []) (let long = length-part [] offset count in omega (arith, long))

pub made_empty : (state : StoreState) (ask : FileAsked) (moment offset count : ℕ) → GoodStore state → (entry_asked state ask ≡ None) ⊎ (overwrites_by ask.disposition ≡ true) →
    file_bytes (created state ask moment) (create_result state ask moment).number offset count ≡ []
made_empty state ask moment offset count good either =
    let after : StoreState = created state ask moment in
    let number : ℕ = (create_result state ask moment).number in
    let view : View = (create_result state ask moment).view in
    let s = shown_by after number view (sym (returned_shown state ask moment good)) in
    let size : view.size ≡ length s.row.1.bytes = ap (λ (v : View). v.size) s.shown in
    let made : view.size ≡ 0 = ap length (none_after state.tree ask moment (entry_asked state ask) either) in
    let none : s.row.1.bytes ≡ [] = nil_from_length s.row.1.bytes (omega (arith, size, made)) in
    reads after number offset count s.held s.held.entry s.opened refl
    ∙ ap (part offset count) (bytes_there_are after.tree.rows s.held.entry s.row s.at_entry ∙ none)
    ∙ part-none offset count
