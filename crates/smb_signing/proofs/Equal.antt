-- Bytes that are compared one by one.
use Rattle.std.proofs.Common.{◌≡◌, ℕ, ◌+◌, ◌<◌, ◌≤◌, IsTrue, nat_eq, eq-eqb, List, length, get_or, bit_or, bit_xor, refl, sym, ap, ◌∙◌, arith, ◌↔◌, below_more}
use Rattle.std.proofs.lemmas.List.{ext_get_or}
use Rattle.std.proofs.lemmas.Bool.{eqb-true}
use lib.Bits.{bit_and, and_le_l, and_le_r, or_add_and, xor_assoc, xor_self, xor_zero_l, xor_zero_r}

none_differs : (a b : ℕ) → bit_or a b ≡ 0 → (a ≡ 0) × (b ≡ 0)
none_differs a b e =
    let both : bit_or a b + bit_and a b ≡ a + b = or_add_and a b in
    let left : bit_and a b ≤ a = and_le_l a b in
    let right : bit_and a b ≤ b = and_le_r a b in
    (omega arith, omega arith)

equal_by_xor : (a b : ℕ) → bit_xor a b ≡ 0 → a ≡ b
equal_by_xor a b e =
    sym (xor_zero_r a)
    ∙ ap (bit_xor a) (sym (xor_self b))
    ∙ sym (xor_assoc a b b)
    ∙ ap (λ (n : ℕ). bit_xor n b) e
    ∙ xor_zero_l b

-- the bytes below i are equal
abbrev pub AreEqualBelow : List ℕ → List ℕ → ℕ → Type 0
AreEqualBelow left right i = (k : ℕ) → k < i → get_or left k 0 ≡ get_or right k 0

-- a difference of zero so far is one of equal bytes, also with one byte more
pub equal_more : (left right : List ℕ) (i difference : ℕ) → (difference ≡ 0) ↔ AreEqualBelow left right i →
    (bit_or difference (bit_xor (get_or left i 0) (get_or right i 0)) ≡ 0) ↔ AreEqualBelow left right (i + 1)
equal_more left right i difference before = (
  λ e. let parts = none_differs difference (bit_xor (get_or left i 0) (get_or right i 0)) e in
      below_more _ _ (before.0 parts.0) (equal_by_xor _ _ parts.1),
  λ equal. rw (before.1 (λ k h. equal k (omega arith)), equal i (omega arith), xor_self) refl,
)

-- no difference behind the last byte, in one as long as the other
pub equal_all : (left right : List ℕ) (i difference : ℕ) → i ≡ length left → length left ≡ length right → (difference ≡ 0) ↔ AreEqualBelow left right i →
    IsTrue (nat_eq difference 0) ↔ (left ≡ right)
equal_all left right i difference whole long before = (
  λ e. ext_get_or 0 left right long (λ k h. before.0 (eqb-true _ _ e) k (omega arith)),
  λ same. eq-eqb _ _ (before.1 (λ k h. ap (λ (xs : List ℕ). get_or xs k 0) same)),
)
