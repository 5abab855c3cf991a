-- The access that is granted has no bits but the rights.
use Rattle.std.proofs.Common.{◌≡◌, ℕ, ◌/◌, Bool, true, false, if◌then◌else◌, bit_and, bit_or, refl, sym, ap, arith, ◌∙◌}
use Rattle.std.proofs.lemmas.Nat.{and_assoc, and_shr, or_shr}
use Rattle.std.specs.Int.Bits.{and_zero_r}
use lib.Arith.{bin_ind}
use lib.Bits.{and_step, or_step}
use Rattle.smb_wire.specs.Access.{has_any, GENERIC_ALL, GENERIC_EXECUTE, GENERIC_WRITE, GENERIC_READ, MAXIMUM_ALLOWED, FILE_ALL_ACCESS, FILE_GENERIC_EXECUTE, FILE_GENERIC_WRITE, FILE_GENERIC_READ, FILE_SHARE_ALL}
use Rattle.smb_access.specs.Access.{most_allowed, granted}
use Rattle.smb_access.specs.Parts.{rights_for, share_asked}
use Rattle.smb_access.specs.Asked.{FileAsked}

-- of two masks joined the bits within another one are those of each
and_or : (m a b : ℕ) → bit_and (bit_or a b) m ≡ bit_or (bit_and a m) (bit_and b m)
and_or =
    bin_ind (λ (m : ℕ). (a b : ℕ) → bit_and (bit_or a b) m ≡ bit_or (bit_and a m) (bit_and b m))
    (λ a b. and_zero_r (bit_or a b) ∙ sym (ap (λ n. bit_or n (bit_and b 0)) (and_zero_r a) ∙ ap (bit_or 0) (and_zero_r b)))
    (λ m ih a b.
    let p : bit_and (bit_or a b / 2) (m / 2) ≡ bit_or (bit_and a m / 2) (bit_and b m / 2) =
    ap (λ x. bit_and x (m / 2)) (or_shr a b 1) ∙ ih (a / 2) (b / 2) ∙ sym (ap (λ x. bit_or x (bit_and b m / 2)) (and_shr a m 1) ∙ ap (bit_or (bit_and (a / 2) (m / 2))) (and_shr b m 1)) in
    omega (arith, and_step (bit_or a b) m, or_step (bit_and a m) (bit_and b m), or_step a b, and_step a m, and_step b m, p))

-- what has no bits but those of a mask, joined to another such
within_or : (m a b : ℕ) → bit_and a m ≡ a → bit_and b m ≡ b → bit_and (bit_or a b) m ≡ bit_or a b
within_or m a b h k = and_or m a b ∙ ap (λ x. bit_or x (bit_and b m)) h ∙ ap (bit_or a) k

within_if : (m n : ℕ) (b : Bool) → bit_and n m ≡ n → bit_and (if b then n else 0) m ≡ (if b then n else 0)
within_if m n true h = h
within_if m n false h = refl

all_or_some : (r b : Bool) → bit_and (most_allowed r b) FILE_ALL_ACCESS ≡ most_allowed r b
all_or_some true b = refl
all_or_some false true = refl
all_or_some false false = refl

-- the rights that are granted are rights
pub granted_masked : (access : ℕ) (read_only on_read_only : Bool) → bit_and (granted access read_only on_read_only).0 FILE_ALL_ACCESS ≡ (granted access read_only on_read_only).0
granted_masked access read_only on_read_only =
    let m : ℕ = FILE_ALL_ACCESS in
    let maximum : ℕ = most_allowed read_only on_read_only in
    let six = within_if m maximum (has_any access MAXIMUM_ALLOWED) (all_or_some read_only on_read_only) in
    let five = within_or m (rights_for access GENERIC_READ FILE_GENERIC_READ) _ (within_if m FILE_GENERIC_READ (has_any access GENERIC_READ) refl) six in
    let four = within_or m (rights_for access GENERIC_WRITE FILE_GENERIC_WRITE) _ (within_if m FILE_GENERIC_WRITE (has_any access GENERIC_WRITE) refl) five in
    let three = within_or m (rights_for access GENERIC_EXECUTE FILE_GENERIC_EXECUTE) _ (within_if m FILE_GENERIC_EXECUTE (has_any access GENERIC_EXECUTE) refl) four in
    let two = within_or m (rights_for access GENERIC_ALL FILE_ALL_ACCESS) _ (within_if m FILE_ALL_ACCESS (has_any access GENERIC_ALL) refl) three in
    within_or m (bit_and access FILE_ALL_ACCESS) _ (and_assoc m access FILE_ALL_ACCESS) two

-- and so is what is shared
pub share_masked : (ask : FileAsked) → bit_and (share_asked ask).0 FILE_SHARE_ALL ≡ (share_asked ask).0
share_masked ask = and_assoc FILE_SHARE_ALL ask.share FILE_SHARE_ALL
