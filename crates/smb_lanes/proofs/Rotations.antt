-- Rotations of a word of 32 bits to the right, bit by bit, and rotations inside one another.
use Rattle.std.proofs.Common.{◌≡◌, ℕ, ◌+◌, ◌-◌, ◌*◌, ◌/◌, ◌%◌, ◌^◌, ◌<◌, max, bit_or, bit_xor, sym, ap, ap₂, ◌∙◌, arith, inl, inr, add-zero, mod-lt, pow_pos}
use Rattle.std.proofs.lemmas.Bool.{cases_lt}
use Rattle.std.proofs.lemmas.Nat.{or_lt, shr-shr, shr_le, shr_split, xor_lt}
use Rattle.std.proofs.lemmas.Nat.Bits.{bit_at-zero, bit_at_above, bit_at_cat_high, bit_at_cat_low, bit_at_or, bit_at_xor, same_from_bits_below}
use Rattle.std.specs.Int.{bit_at}
use lib.Bits.{xor_assoc}

-- a word of 32 bits rotated by 1 to 31
abbrev pub turned : ℕ → ℕ → ℕ
turned n k = bit_or (n / 2 ^ k) (n * 2 ^ (32 - k) % 2 ^ 32)

turned-lt : (n k : ℕ) → n < 2 ^ 32 → turned n k < 2 ^ 32
turned-lt n k fits = or_lt 32 (n / 2 ^ k) (n * 2 ^ (32 - k) % 2 ^ 32) (omega (arith, shr_le n k)) (mod-lt _ (pow_pos 32))

-- the bits that come from above
high_bit : (n k i : ℕ) → bit_at (n / 2 ^ k) i ≡ bit_at n (i + k)
high_bit n k i = ap (λ m. m % 2) (shr-shr n k i) ∙ ap (bit_at n) (omega arith)

-- the bits that come in again at the top
low_bit : (n k i : ℕ) → i < 32 → bit_at (n * 2 ^ (32 - k) % 2 ^ 32) i ≡ bit_at (n * 2 ^ (32 - k) + 0) i
low_bit n k i low =
    let m : ℕ = n * 2 ^ (32 - k) in
    sym (bit_at_cat_low (m / 2 ^ 32) 32 (m % 2 ^ 32) i low) ∙ ap (λ x. bit_at x i) (shr_split m 32 ∙ sym (add-zero m))

-- bit i comes from k places above it
turned_bit : (n k i : ℕ) → k < 32 → n < 2 ^ 32 → i < 32 → bit_at (turned n k) i ≡ bit_at n ((i + k) % 32)
turned_bit n k i short fits low =
    let both : bit_at (turned n k) i ≡ max (bit_at n (i + k)) (bit_at (n * 2 ^ (32 - k) + 0) i) =
    bit_at_or (n / 2 ^ k) (n * 2 ^ (32 - k) % 2 ^ 32) i ∙ ap₂ max (high_bit n k i) (low_bit n k i low) in
    elim (cases_lt (i + k) 32) [
      | inl below ↦
          let none : bit_at (n * 2 ^ (32 - k) + 0) i ≡ 0 = bit_at_cat_low n (32 - k) 0 i (omega arith) ∙ bit_at-zero i in
          let place : (i + k) % 32 ≡ i + k = omega arith in
          both ∙ ap (max (bit_at n (i + k))) none ∙ rw place (omega arith)
      | inr above ↦
          let none : bit_at n (i + k) ≡ 0 = bit_at_above n 32 (i + k) fits above in
          let again : bit_at (n * 2 ^ (32 - k) + 0) i ≡ bit_at n (i - (32 - k)) = bit_at_cat_high n (32 - k) 0 i (pow_pos (32 - k)) (omega arith) in
          let place : (i + k) % 32 ≡ i - (32 - k) = omega arith in
          both ∙ ap₂ max none again ∙ rw place (omega arith)
    ]

-- a rotation goes into a xor
turned_xor : (a b k : ℕ) → k < 32 → a < 2 ^ 32 → b < 2 ^ 32 → turned (bit_xor a b) k ≡ bit_xor (turned a k) (turned b k)
turned_xor a b k short fa fb =
    let both : bit_xor a b < 2 ^ 32 = xor_lt 32 a b fa fb in
    same_from_bits_below 32 _ _ (turned-lt (bit_xor a b) k both) (xor_lt 32 (turned a k) (turned b k) (turned-lt a k fa) (turned-lt b k fb)) (λ i low.
    turned_bit (bit_xor a b) k i short both low ∙ bit_at_xor a b ((i + k) % 32)
    ∙ sym (bit_at_xor (turned a k) (turned b k) i ∙ ap₂ (λ m n. (m + n) % 2) (turned_bit a k i short fa low) (turned_bit b k i short fb low)))

-- two rotations are one
turned_twice : (n j k : ℕ) → k + j < 32 → n < 2 ^ 32 → turned (turned n j) k ≡ turned n (k + j)
turned_twice n j k short fits =
    same_from_bits_below 32 _ _ (turned-lt (turned n j) k (turned-lt n j fits)) (turned-lt n (k + j) fits) (λ i low.
    turned_bit (turned n j) k i (omega arith) (turned-lt n j fits) low
    ∙ turned_bit n j ((i + k) % 32) (omega arith) fits (omega arith)
    ∙ ap (bit_at n) (omega arith)
    ∙ sym (turned_bit n (k + j) i short fits low))

-- the xor of two rotations, by one inside the other
pub two_turned : (n a b : ℕ) → a + b < 32 → n < 2 ^ 32
    → turned (bit_xor n (turned n b)) a ≡ bit_xor (turned n a) (turned n (a + b))
two_turned n a b short fits =
    turned_xor n (turned n b) a (omega arith) fits (turned-lt n b fits) ∙ ap (bit_xor (turned n a)) (turned_twice n b a short fits)

-- the xor of three
pub three_turned : (n a b c : ℕ) → a + b + c < 32 → n < 2 ^ 32
    → turned (bit_xor n (turned (bit_xor n (turned n c)) b)) a
    ≡ bit_xor (bit_xor (turned n a) (turned n (a + b))) (turned n (a + b + c))
three_turned n a b c short fits =
    let inner : turned (bit_xor n (turned n c)) b ≡ bit_xor (turned n b) (turned n (b + c)) = two_turned n b c (omega arith) fits in
    let fb : turned n b < 2 ^ 32 = turned-lt n b fits in
    let fc : turned n (b + c) < 2 ^ 32 = turned-lt n (b + c) fits in
    ap (λ m. turned (bit_xor n m) a) inner
    ∙ turned_xor n (bit_xor (turned n b) (turned n (b + c))) a (omega arith) fits (xor_lt 32 (turned n b) (turned n (b + c)) fb fc)
    ∙ ap (bit_xor (turned n a)) (
    turned_xor (turned n b) (turned n (b + c)) a (omega arith) fb fc
    ∙ ap₂ bit_xor (turned_twice n b a (omega arith) fits) (turned_twice n (b + c) a (omega arith) fits ∙ ap (turned n) (omega arith)))
    ∙ sym (xor_assoc (turned n a) (turned n (a + b)) (turned n (a + b + c)))
