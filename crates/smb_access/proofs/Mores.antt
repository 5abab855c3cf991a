-- More access never removes a conflict.
use Rattle.std.proofs.Common.{◌≡◌, ◌==◌, ℕ, Bool, true, false, ◌&&◌, ◌||◌, not, bit_and, bit_or, refl, sym, ap, arith, ◌∙◌}
use Rattle.std.proofs.lemmas.Bool.Decides.{nat_tests}
use Rattle.std.proofs.lemmas.Nat.{and_or_self, and_assoc, and_comm, or_comm}
use Rattle.std.specs.Int.Bits.{and_zero_r}
use Rattle.smb_wire.specs.Access.{has_any, FILE_WRITE_DATA, FILE_APPEND_DATA, FILE_READ_DATA, FILE_EXECUTE, DELETE, FILE_SHARE_READ, FILE_SHARE_WRITE, FILE_SHARE_DELETE}
use Rattle.smb_wire.specs.declared.access.Access.{Access}
use Rattle.smb_wire.specs.declared.access.ShareAccess.{ShareAccess}
use Rattle.smb_access.specs.Access.{is_reading, is_writing, is_deleting}
use Rattle.smb_access.specs.Sharing.{is_shared_access, is_kept_out, is_conflict}
use Rattle.smb_access.specs.Parts.{Use}

-- of a mask that has all bits of another no fewer are set
any_more : (less more mask : ℕ) → bit_and less more ≡ less → has_any less mask ≡ true → has_any more mask ≡ true
any_more less more mask e h =
    elim (bit_and more mask == 0) as (λ b. bit_and more mask == 0 ≡ b → not b ≡ true) [
      | true ↦ λ t. (let none : bit_and more mask ≡ 0 = grind (arith, nat_tests, t) in let off : bit_and less mask ≡ 0 = sym (ap (λ (n : ℕ). bit_and n mask) e) ∙ and_assoc mask less more ∙ ap (bit_and less) none ∙ and_zero_r less in absurd (grind (arith, nat_tests, off, h)))
      | false ↦ λ _. refl
    ] refl

either_more : (a b c d : Bool) → (a ≡ true → c ≡ true) → (b ≡ true → d ≡ true) → (a || b) ≡ true → (c || d) ≡ true
either_more true b c d k l h = rw (k refl) refl
either_more false b c d k l h = (let m = l h in grind (arith, m))

reading_more : (less more : Access) → bit_and less.0 more.0 ≡ less.0 → is_reading less ≡ true → is_reading more ≡ true
reading_more less more e h = either_more (has_any less.0 FILE_READ_DATA) (has_any less.0 FILE_EXECUTE) (has_any more.0 FILE_READ_DATA) (has_any more.0 FILE_EXECUTE) (any_more less.0 more.0 FILE_READ_DATA e) (any_more less.0 more.0 FILE_EXECUTE e) h

writing_more : (less more : Access) → bit_and less.0 more.0 ≡ less.0 → is_writing less ≡ true → is_writing more ≡ true
writing_more less more e h = either_more (has_any less.0 FILE_WRITE_DATA) (has_any less.0 FILE_APPEND_DATA) (has_any more.0 FILE_WRITE_DATA) (has_any more.0 FILE_APPEND_DATA) (any_more less.0 more.0 FILE_WRITE_DATA e) (any_more less.0 more.0 FILE_APPEND_DATA e) h

deleting_more : (less more : Access) → bit_and less.0 more.0 ≡ less.0 → is_deleting less ≡ true → is_deleting more ≡ true
deleting_more less more e h = any_more less.0 more.0 DELETE e h

three_more : (a b c d e f : Bool) → (a ≡ true → d ≡ true) → (b ≡ true → e ≡ true) → (c ≡ true → f ≡ true) → (a || b || c) ≡ true → (d || e || f) ≡ true
three_more a b c d e f k l m h = grind (arith, k, l, m, h)

with_more : (a b s : Bool) → (a ≡ true → b ≡ true) → (a && s) ≡ true → (b && s) ≡ true
with_more true b s k h = rw (k refl) h
with_more false b s k h = absurd (grind (arith, h))

shared_more : (less more : Access) → bit_and less.0 more.0 ≡ less.0 → is_shared_access less ≡ true → is_shared_access more ≡ true
shared_more less more e h = three_more (is_reading less) (is_writing less) (is_deleting less) (is_reading more) (is_writing more) (is_deleting more) (reading_more less more e) (writing_more less more e) (deleting_more less more e) h

kept_out_more : (less more : Access) (share : ShareAccess) → bit_and less.0 more.0 ≡ less.0 → is_kept_out less share ≡ true → is_kept_out more share ≡ true
kept_out_more less more share e h =
    let r = not (has_any share.0 FILE_SHARE_READ) in
    let w = not (has_any share.0 FILE_SHARE_WRITE) in
    let d = not (has_any share.0 FILE_SHARE_DELETE) in
    three_more (is_reading less && r) (is_writing less && w) (is_deleting less && d) (is_reading more && r) (is_writing more && w) (is_deleting more && d)
    (with_more (is_reading less) (is_reading more) r (reading_more less more e)) (with_more (is_writing less) (is_writing more) w (writing_more less more e)) (with_more (is_deleting less) (is_deleting more) d (deleting_more less more e)) h

conflict_by : (a b c d x y : Bool) → (a ≡ true → x ≡ true) → (c ≡ true → y ≡ true) → (a && b && (c || d)) ≡ true → (x && b && (y || d)) ≡ true
conflict_by a b c d x y k l h = grind (arith, k, l, h)

pub more_conflicts : (access more : Access) (share : ShareAccess) (other : Use) → bit_and access.0 more.0 ≡ access.0 → is_conflict (access, share) other ≡ true → is_conflict (more, share) other ≡ true
more_conflicts access more share other e h =
    conflict_by (is_shared_access access) (is_shared_access other.0) (is_kept_out access other.1) (is_kept_out other.0 share) (is_shared_access more) (is_kept_out more other.1) (shared_more access more e) (kept_out_more access more other.1 e) h

-- a mask with more bits has all that it had
pub or_has : (mask more : ℕ) → bit_and mask (bit_or mask more) ≡ mask
or_has mask more = and_comm mask (bit_or mask more) ∙ ap (λ (n : ℕ). bit_and n mask) (or_comm mask more) ∙ and_or_self mask more
