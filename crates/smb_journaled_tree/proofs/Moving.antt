-- What a journaled tree keeps of its notes, after a move.
use Rattle.std.proofs.Common.{◌≡◌, ◌≢◌, ℕ, ◌-◌, ◌≤◌, ◌==◌, Bool, true, false, if◌then◌else◌, is_some}
use Rattle.std.proofs.Common.{List, length, Option, None, Some, refl, sym, ap, arith, ◌∙◌}
use Rattle.std.proofs.lemmas.Bool.{eq-eqb}
use Rattle.std.proofs.lemmas.Bool.Decides.{nat_tests}
use Rattle.std.proofs.lemmas.List.{length-map}
use Rattle.std.specs.Option.{option_map}
use Rattle.smb_wire.specs.Paths.{folded_path}
use Rattle.smb_tree.specs.Entries.{Entry}
use Rattle.smb_tree.specs.Content.{Row, Content, entry_at, numbered, number_at, without}
use Rattle.smb_tree.specs.Faults.{move_fault}
use Rattle.smb_tree.specs.Moves.{moved}
use Rattle.smb_tree.specs.Parts.{without_other, moved_rows, moved_row}
use Rattle.smb_tree.proofs.Apart.{number-from_numbered}
use Rattle.smb_tree.proofs.Kept.{good_kept}
use Rattle.smb_files.specs.Files.{replayed}
use Rattle.smb_files.specs.Contents.{files_of}
use Rattle.smb_files.proofs.Moved.{moving_row, numbers_after, target}
use Rattle.smb_journaled_tree.specs.declared.slots.Slots.{Slots}
use Rattle.smb_journaled_tree.specs.Slots.{slot_of, is_in, with_one, AreDirty}
use Rattle.smb_journaled_tree.specs.Kept.{IsNoted}
use Rattle.smb_journaled_tree.proofs.Faulting.{no_row, found_entry}
use Rattle.smb_journaled_tree.proofs.Agreeing.{agrees_moved}
use Rattle.smb_journaled_tree.proofs.Keeping.{Marks, in_with, in_still, out_with, below_with, length-removed}

pub same_one : (o : Option ℕ) (a b c : ℕ) → o ≡ Some a → o ≡ Some b → a ≡ c → b ≡ c
same_one o a b c h e f = cc

pub no_one : (o : Option ℕ) (b c : ℕ) → o ≡ None → o ≡ Some b → b ≡ c
no_one o b c h e = absurd (let no : ◌≡◌ {A = Option ℕ} None (Some b) = sym h ∙ e in cc)

some_is_one : (a b : ℕ) → Some a ≡ Some b → a ≡ b
some_is_one a b h = cc

-- how many entries there are after a move
length_moved : (content : Content) (n : ℕ) (parts : List (List ℕ)) (row : Row) → numbered content.rows n ≡ Some row → length (moved content n parts).rows ≡ length (without_other content.rows n (entry_at content.rows (folded_path parts)))
length_moved content n parts row h =
    ap (λ (o : Option Row). length (moved_rows content.rows n parts o)) h ∙ length-map (without_other content.rows n (entry_at content.rows (folded_path parts))) (moved_row row.0 parts)

none_out_of : (rows : List Row) (n : ℕ) (o : Option Entry) → ((other : ℕ) → option_map (λ (e : Entry). e.number) o ≡ Some other → other ≡ n) → without_other rows n o ≡ rows
none_out_of rows n None h = refl
none_out_of rows n (Some e) h = let same = h e.number refl in rw (eq-eqb e.number n same) refl

one_out_of : (rows : List Row) (n : ℕ) (e : Entry) → (e.number == n) ≡ false → without_other rows n (Some e) ≡ without rows e.number
one_out_of rows n e h = rw h refl

row_before : (b : Bool) (there : Row → Row) (o : Option Row) (row : Row) → (if b then None else option_map there o) ≡ Some row → (r : Row) × (o ≡ Some r)
row_before true there o row h = absurd (no_row row h)
row_before false there None row h = absurd (no_row row h)
row_before false there (Some r) row h = (r, refl)

module _ (content after settled : Content) (pending : List ℕ) (slots new : Slots) (entries n : ℕ) (parts : List (List ℕ)) (k : IsNoted content settled pending slots entries) (free : move_fault content n (folded_path parts) ≡ None) (is : after ≡ moved content n parts) where
  keeps_moved : (count : ℕ) (dirty : List ℕ) → count ≡ length (moved content n parts).rows → is_in n dirty ≡ true → ((other : ℕ) → number_at content.rows (folded_path parts) ≡ Some other → is_in other dirty ≡ true) → ((q : ℕ) → is_in q dirty ≡ false → is_in q k.dirty ≡ false) → ((q : ℕ) → content.next ≤ q → is_in q dirty ≡ false) → AreDirty new dirty → ((q : ℕ) → is_some (slot_of slots q) ≡ true → is_some (slot_of new q) ≡ true) →
      IsNoted after settled pending new count
  keeps_moved count dirty counted marked replaced others below are still =
      let moving = moving_row content n parts k.good free in
      rw is (record {
        good = good_kept content n parts k.good free;
        counted = counted;
        slotted = λ q row h. (let r = row_before _ (moved_row moving.0.0 parts) (numbered content.rows q) row (sym (numbers_after content n q parts moving.0.0 moving.0.1 (target content n parts) moving.1 refl) ∙ h) in still q (k.slotted q r.0 r.1));
        dirty = dirty;
        are_dirty = are;
        below = below;
        changes = k.changes;
        each = k.each;
        spelled_are = k.spelled_are;
        agrees = agrees_moved content (replayed (files_of settled) k.changes) (λ q. is_in q k.dirty) (λ q. is_in q dirty) n parts k.agrees k.good free marked replaced others;
      })

  pub keeps_moved_alone : ((other : ℕ) → number_at content.rows (folded_path parts) ≡ Some other → other ≡ n) → Marks slots new n → IsNoted after settled pending new entries
  keeps_moved_alone alone m =
      let moving = moving_row content n parts k.good free in
      let long = length_moved content n parts moving.0 moving.1.found in
      let same = none_out_of content.rows n (entry_at content.rows (folded_path parts)) alone in
      let marked = in_with n k.dirty in
      keeps_moved entries (with_one n k.dirty) (k.counted ∙ sym (long ∙ ap (length {A = Row}) same)) marked (λ other h. let its = alone other h in rw its marked) (λ q c. out_with q n k.dirty c)
      (below_with content n moving.0 k.dirty k.good moving.1.found k.below) (m.0 k.dirty (k.slotted n moving.0 moving.1.found) k.are_dirty) m.1

  pub keeps_moved_over : (mid : Slots) (other : ℕ) → number_at content.rows (folded_path parts) ≡ Some other → other ≢ n → Marks slots mid n → Marks mid new other → IsNoted after settled pending new (entries - 1)
  keeps_moved_over mid other there apart m l =
      let moving = moving_row content n parts k.good free in
      let long = length_moved content n parts moving.0 moving.1.found in
      let e = found_entry content (folded_path parts) other k.good there in
      let its : e.0.number ≡ other = number-from_numbered content.rows (folded_path parts, e.0) other e.2 in
      let differs : (e.0.number == n) ≡ false = grind (arith, nat_tests, its, apart) in
      let same : without_other content.rows n (entry_at content.rows (folded_path parts)) ≡ without content.rows e.0.number = ap (without_other content.rows n) e.1 ∙ one_out_of content.rows n e.0 differs in
      let found : numbered content.rows e.0.number ≡ Some (folded_path parts, e.0) = ap (numbered content.rows) its ∙ e.2 in
      let less = length-removed content.rows e.0.number (folded_path parts, e.0) found in
      let dirty = with_one n k.dirty in
      let below = below_with content n moving.0 k.dirty k.good moving.1.found k.below in
      keeps_moved (entries - 1) (with_one other dirty) (omega (arith, k.counted, long, ap (length {A = Row}) same, less))
      (in_still n other dirty (in_with n k.dirty))
      (λ one h. let it : one ≡ other = some_is_one one other (sym h ∙ there) in rw it (in_with other dirty))
      (λ q c. out_with q n k.dirty (out_with q other dirty c))
      (below_with content other (folded_path parts, e.0) dirty k.good e.2 below)
      (l.0 dirty (m.1 other (k.slotted other (folded_path parts, e.0) e.2)) (m.0 k.dirty (k.slotted n moving.0 moving.1.found) k.are_dirty))
      (λ q h. l.1 q (m.1 q h))
