-- Bits of words: what the operations on words do to each bit.
use Rattle.std.proofs.Common.{◌≡◌, ℕ, zero, suc, ◌+◌, ◌-◌, ◌*◌, ◌/◌, ◌%◌, ◌^◌, ◌<◌, min, max, Bool, true, false, not, ◌==◌, ◌&&◌, ◌||◌, refl, sym, ap, subst, ◌∙◌, inl, inr, arith}
use mir.Val.{bool_byte}
use Rattle.std.specs.Prelude.{bit_and, bit_or}
use Rattle.std.proofs.lemmas.Bool.{cases_eq, eq-eqb, ne_eqb, true≢false, false≢true, and_right, and_parts}
use Rattle.std.specs.Int.{bit_at, trailing_zeros, w64}
use Rattle.std.proofs.lemmas.Nat.{shr_split, one_shl}
use Rattle.std.proofs.lemmas.Nat.Bits.{bit_at_lowest, bit_at-suc, bit_at-zero, bit_at-lt, bit_at_and, bit_at_or, bit_at_not, bit_at_cat_low, bit_at-trailing_zeros, bit_at-pow_same, bit_at-pow_other, shr_and_one}
use Rattle.smb_patterns.specs.Bits.{bit, below}

max_bits : (x y : ℕ) → x < 2 → y < 2 → (max x y == 1) ≡ ((x == 1) || (y == 1))
max_bits zero zero f g = refl
max_bits zero (suc zero) f g = refl
max_bits (suc zero) zero f g = refl
max_bits (suc zero) (suc zero) f g = refl
max_bits zero (suc (suc y)) f g = absurd (omega arith)
max_bits (suc zero) (suc (suc y)) f g = absurd (omega arith)
max_bits (suc (suc x)) y f g = absurd (omega arith)

min_bits : (x y : ℕ) → x < 2 → y < 2 → (min x y == 1) ≡ ((x == 1) && (y == 1))
min_bits zero zero f g = refl
min_bits zero (suc zero) f g = refl
min_bits (suc zero) zero f g = refl
min_bits (suc zero) (suc zero) f g = refl
min_bits zero (suc (suc y)) f g = absurd (omega arith)
min_bits (suc zero) (suc (suc y)) f g = absurd (omega arith)
min_bits (suc (suc x)) y f g = absurd (omega arith)

bit_is : (n i : ℕ) → bit n i ≡ (bit_at n i == 1)
unfolding bit
bit_is n i = refl

pub bit-or : (a b i : ℕ) → bit (bit_or a b) i ≡ (bit a i || bit b i)
unfolding bit
bit-or a b i = ap (λ (x : ℕ). x == 1) (bit_at_or a b i) ∙ max_bits (bit_at a i) (bit_at b i) (bit_at-lt a i) (bit_at-lt b i)

pub bit-and : (a b i : ℕ) → bit (bit_and a b) i ≡ (bit a i && bit b i)
unfolding bit
bit-and a b i = ap (λ (x : ℕ). x == 1) (bit_at_and a b i) ∙ min_bits (bit_at a i) (bit_at b i) (bit_at-lt a i) (bit_at-lt b i)

pub bit-zero : (i : ℕ) → bit 0 i ≡ false
unfolding bit
bit-zero i = ap (λ (x : ℕ). x == 1) (bit_at-zero i)

-- the low bits are those of the whole number
low_bits : (n k i : ℕ) → i < k → bit_at (n % 2 ^ k) i ≡ bit_at n i
low_bits n k i h = sym (bit_at_cat_low (n / 2 ^ k) k (n % 2 ^ k) i h) ∙ ap (λ (x : ℕ). bit_at x i) (shr_split n k)

pub bit-wrapped : (n i : ℕ) → i < 64 → bit (n % 18446744073709551616) i ≡ bit n i
unfolding bit
bit-wrapped n i h = ap (λ (x : ℕ). x == 1) (low_bits n 64 i h)

other_bit : (x : ℕ) → x < 2 → ((1 - x) == 1) ≡ not (x == 1)
other_bit zero f = refl
other_bit (suc zero) f = refl
other_bit (suc (suc x)) f = absurd (omega arith)

pub bit-not : (n i : ℕ) → n < 18446744073709551616 → i < 64 → bit (18446744073709551615 - n) i ≡ not (bit n i)
unfolding bit
bit-not n i f h = ap (λ (x : ℕ). x == 1) (bit_at_not w64 n i f h) ∙ other_bit (bit_at n i) (bit_at-lt n i)

-- ---- one bit

pub bit-power : (k i : ℕ) → bit (2 ^ k) i ≡ (i == k)
unfolding bit
bit-power k i = elim (cases_eq i k) [
  | inl e ↦
      let one : bit_at (2 ^ k) i ≡ 1 = subst (λ (j : ℕ). bit_at (2 ^ k) j ≡ 1) (sym e) (bit_at-pow_same k) in
      ap (λ (x : ℕ). x == 1) one ∙ sym (eq-eqb i k e)
  | inr n ↦ ap (λ (x : ℕ). x == 1) (bit_at-pow_other k i n) ∙ sym (ne_eqb i k n)
]

-- ---- a word moved up by one bit

double_lowest : (n : ℕ) → bit_at (n * 2) 0 ≡ 0
double_lowest n = omega (arith, bit_at_lowest (n * 2))

double_suc : (n i : ℕ) → bit_at (n * 2) (suc i) ≡ bit_at n i
double_suc n i =
    let half : n * 2 / 2 ≡ n = omega arith in
    bit_at-suc (n * 2) i ∙ ap (λ (x : ℕ). bit_at x i) half

pub above_zero : (i : ℕ) → (suc i == 0) ≡ false
above_zero i = ne_eqb (suc i) 0 (λ e. absurd (omega (arith, e)))

pub bit-flag : (b : Bool) (i : ℕ) → bit (bool_byte b) i ≡ ((i == 0) && b)
unfolding bit
bit-flag true zero = refl
bit-flag false zero = refl
bit-flag true (suc i) = ap (λ (x : ℕ). x == 1) (bit_at-suc 1 i ∙ bit_at-zero i) ∙ rw (above_zero i) refl
bit-flag false (suc i) = ap (λ (x : ℕ). x == 1) (bit_at-zero (suc i)) ∙ rw (above_zero i) refl

pub or-false : (b : Bool) → (b || false) ≡ b
or-false true = refl
or-false false = refl

-- a bit above the lowest has the one below it
pub below-suc : (first : Bool) (test : ℕ → Bool) (i : ℕ) → below first test (suc i) ≡ test i
below-suc first test i =
    let back : suc i - 1 ≡ i = omega arith in
    rw (above_zero i) (ap test back)

by_place : (word : ℕ) (first : Bool) (i : ℕ) → (bit (word * 2) i || ((i == 0) && first)) ≡ below first (bit word) i
unfolding bit
by_place word first zero = ap (λ (x : ℕ). (x == 1) || first) (double_lowest word)
by_place word first (suc i) =
    ap (λ (b : Bool). (bit_at (word * 2) (suc i) == 1) || (b && first)) (above_zero i)
    ∙ or-false (bit_at (word * 2) (suc i) == 1)
    ∙ ap (λ (x : ℕ). x == 1) (double_suc word i)
    ∙ sym (below-suc first (bit word) i)

pub moved_up : (word : ℕ) (first : Bool) (i : ℕ) → i < 64 → bit (bit_or (word * 2 % 18446744073709551616) (bool_byte first)) i ≡ below first (bit word) i
moved_up word first i h =
    bit-or (word * 2 % 18446744073709551616) (bool_byte first) i
    ∙ rw (bit-wrapped (word * 2) i h, bit-flag first i) (by_place word first i)

-- ---- the bits of a sum

-- what is carried to bit i of the sum of two numbers and c
carry : ℕ → ℕ → ℕ → ℕ → ℕ
carry c a b zero = c
carry c a b (suc i) = carry ((a % 2 + b % 2 + c) / 2) (a / 2) (b / 2) i

sum_bit : (c a b i : ℕ) → bit_at (a + b + c) i ≡ (bit_at a i + bit_at b i + carry c a b i) % 2
unfolding carry
sum_bit c a b zero = omega (arith, bit_at_lowest (a + b + c), bit_at_lowest a, bit_at_lowest b)
sum_bit c a b (suc i) =
    let half : (a + b + c) / 2 ≡ a / 2 + b / 2 + (a % 2 + b % 2 + c) / 2 = omega arith in
    bit_at-suc (a + b + c) i ∙ ap (λ (x : ℕ). bit_at x i) half ∙ sum_bit ((a % 2 + b % 2 + c) / 2) (a / 2) (b / 2) i
    ∙ rw (bit_at-suc a i, bit_at-suc b i) refl

carry_next : (c a b i : ℕ) → carry c a b (suc i) ≡ (bit_at a i + bit_at b i + carry c a b i) / 2
unfolding carry
carry_next c a b zero = rw (bit_at_lowest a, bit_at_lowest b) refl
carry_next c a b (suc i) =
    carry_next ((a % 2 + b % 2 + c) / 2) (a / 2) (b / 2) i ∙ rw (bit_at-suc a i, bit_at-suc b i) refl

carry_small : (c a b i : ℕ) → c < 2 → carry c a b i < 2
unfolding carry
carry_small c a b zero h = h
carry_small c a b (suc i) h = carry_small ((a % 2 + b % 2 + c) / 2) (a / 2) (b / 2) i (omega arith)

-- ---- the bits that a carry goes through

-- s: the bit of the mask; e: it is entered; c: a carry comes to it
carries_on : (s e c : ℕ) → s < 2 → e < 2 → c < 2 → ((e == 1) ≡ true → (s == 1) ≡ true) → ((e == 1) || ((s == 1) && not ((s + e + c) % 2 == 1))) ≡ ((s + e + c) / 2 == 1)
carries_on zero zero zero f g h n = refl
carries_on zero zero (suc zero) f g h n = refl
carries_on zero (suc zero) c f g h n = absurd (false≢true (n refl))
carries_on (suc zero) zero zero f g h n = refl
carries_on (suc zero) zero (suc zero) f g h n = refl
carries_on (suc zero) (suc zero) zero f g h n = refl
carries_on (suc zero) (suc zero) (suc zero) f g h n = refl
carries_on (suc (suc s)) e c f g h n = absurd (omega arith)
carries_on zero (suc (suc e)) c f g h n = absurd (omega arith)
carries_on (suc zero) (suc (suc e)) c f g h n = absurd (omega arith)
carries_on zero zero (suc (suc c)) f g h n = absurd (omega arith)
carries_on (suc zero) zero (suc (suc c)) f g h n = absurd (omega arith)
carries_on (suc zero) (suc zero) (suc (suc c)) f g h n = absurd (omega arith)

-- w: the bit below was set before
enters : (s e c : ℕ) (w : Bool) → s < 2 → e < 2 → c < 2 → (e == 1) ≡ (w && (s == 1)) → ((s + e + c) / 2 == 1) ≡ ((s == 1) && (w || (c == 1)))
enters zero zero zero w f g h n = refl
enters zero zero (suc zero) w f g h n = refl
enters zero (suc zero) c w f g h n = absurd (true≢false (n ∙ and_right w false refl))
enters (suc zero) zero zero false f g h n = refl
enters (suc zero) zero (suc zero) false f g h n = refl
enters (suc zero) zero c true f g h n = absurd (false≢true n)
enters (suc zero) (suc zero) c false f g h n = absurd (true≢false n)
enters (suc zero) (suc zero) zero true f g h n = refl
enters (suc zero) (suc zero) (suc zero) true f g h n = refl
enters (suc (suc s)) e c w f g h n = absurd (omega arith)
enters zero (suc (suc e)) c w f g h n = absurd (omega arith)
enters (suc zero) (suc (suc e)) c w f g h n = absurd (omega arith)
enters zero zero (suc (suc c)) w f g h n = absurd (omega arith)
enters (suc zero) zero (suc (suc c)) w f g h n = absurd (omega arith)
enters (suc zero) (suc zero) (suc (suc c)) w f g h n = absurd (omega arith)

-- a word, the bits entered of a mask, and those that the sum of both has changed
unfoldable pub fill_of : ℕ → ℕ → ℕ → ℕ
fill_of word skips entered =
    bit_or (bit_or word entered) (bit_and skips (18446744073709551615 - (skips + entered) % 18446744073709551616))

carried : ℕ → ℕ → ℕ → Bool
carried skips entered i = carry 0 skips entered i == 1

sum_is : (skips entered i : ℕ) → i < 64 → bit (18446744073709551615 - (skips + entered) % 18446744073709551616) i ≡ not ((bit_at skips i + bit_at entered i + carry 0 skips entered i) % 2 == 1)
sum_is skips entered i h =
    let small : (skips + entered) % 18446744073709551616 < 18446744073709551616 = omega arith in
    let whole : skips + entered + 0 ≡ skips + entered = omega arith in
    bit-not ((skips + entered) % 18446744073709551616) i small h
    ∙ ap not (bit-wrapped (skips + entered) i h ∙ bit_is (skips + entered) i)
    ∙ ap (λ (x : ℕ). not (x == 1)) (sym (ap (λ (n : ℕ). bit_at n i) whole) ∙ sum_bit 0 skips entered i)

join : (w e s r : Bool) → ((w || e) || (s && r)) ≡ (w || (e || (s && r)))
join true e s r = refl
join false e s r = refl

fill_bit : (word skips entered i : ℕ) → i < 64 → (bit entered i ≡ true → bit skips i ≡ true) → bit (fill_of word skips entered) i ≡ (bit word i || carried skips entered (suc i))
unfolding fill_of bit carried
fill_bit word skips entered i h n =
    let sum : ℕ = 18446744073709551615 - (skips + entered) % 18446744073709551616 in
    let s : ℕ = bit_at skips i in
    let e : ℕ = bit_at entered i in
    let c : ℕ = carry 0 skips entered i in
    let done : ((e == 1) || ((s == 1) && not ((s + e + c) % 2 == 1))) ≡ (carry 0 skips entered (suc i) == 1) =
    carries_on s e c (bit_at-lt skips i) (bit_at-lt entered i) (carry_small 0 skips entered i (omega arith)) n
    ∙ ap (λ (x : ℕ). x == 1) (sym (carry_next 0 skips entered i)) in
    bit-or (bit_or word entered) (bit_and skips sum) i
    ∙ ap (λ (b : Bool). b || bit (bit_and skips sum) i) (bit-or word entered i)
    ∙ ap (λ (b : Bool). (bit word i || bit entered i) || b) (bit-and skips sum i ∙ ap (λ (b : Bool). bit skips i && b) (sum_is skips entered i h))
    ∙ join (bit word i) (e == 1) (s == 1) (not ((s + e + c) % 2 == 1))
    ∙ ap (λ (b : Bool). bit word i || b) done

-- a bit is carried to where the mask has it, and the one below it is set
goes_up : (word skips entered : ℕ) (first : Bool) (i : ℕ) → i < 64 → ((j : ℕ) → j < 64 → bit entered j ≡ (below first (bit word) j && bit skips j)) → carried skips entered (suc i) ≡ (bit skips i && below first (bit (fill_of word skips entered)) i)
unfolding carried carry
goes_up word skips entered first zero h e =
    ap (λ (x : ℕ). x == 1) (carry_next 0 skips entered zero)
    ∙ enters (bit_at skips zero) (bit_at entered zero) 0 first (bit_at-lt skips zero) (bit_at-lt entered zero) (omega arith) (sym (bit_is entered zero) ∙ e zero h ∙ ap (λ (b : Bool). first && b) (bit_is skips zero))
    ∙ ap (λ (b : Bool). (bit_at skips zero == 1) && b) (or-false first)
    ∙ ap (λ (b : Bool). b && first) (sym (bit_is skips zero))
goes_up word skips entered first (suc j) h e =
    let below_here : below first (bit word) (suc j) ≡ bit word j = below-suc first (bit word) j in
    let entered_here : (bit_at entered (suc j) == 1) ≡ (bit word j && (bit_at skips (suc j) == 1)) =
    sym (bit_is entered (suc j)) ∙ e (suc j) h ∙ ap (λ (b : Bool). b && bit skips (suc j)) below_here ∙ ap (λ (b : Bool). bit word j && b) (bit_is skips (suc j)) in
    let here : j < 64 = omega arith in
    let filled_below : bit (fill_of word skips entered) j ≡ (bit word j || (carry 0 skips entered (suc j) == 1)) =
    fill_bit word skips entered j here (λ t. (and_parts (below first (bit word) j) (bit skips j) (sym (e j here) ∙ t)).1) in
    ap (λ (x : ℕ). x == 1) (carry_next 0 skips entered (suc j))
    ∙ enters (bit_at skips (suc j)) (bit_at entered (suc j)) (carry 0 skips entered (suc j)) (bit word j) (bit_at-lt skips (suc j)) (bit_at-lt entered (suc j)) (carry_small 0 skips entered (suc j) (omega arith)) entered_here
    ∙ ap (λ (b : Bool). (bit_at skips (suc j) == 1) && b) (sym filled_below ∙ sym (below-suc first (bit (fill_of word skips entered)) j))
    ∙ ap (λ (b : Bool). b && below first (bit (fill_of word skips entered)) (suc j)) (sym (bit_is skips (suc j)))

pub filled : (word skips entered : ℕ) (first : Bool) (i : ℕ) → i < 64 → ((j : ℕ) → j < 64 → bit entered j ≡ (below first (bit word) j && bit skips j)) → bit (fill_of word skips entered) i ≡ (bit word i || (bit skips i && below first (bit (fill_of word skips entered)) i))
filled word skips entered first i h e =
    fill_bit word skips entered i h (λ t. (and_parts (below first (bit word) i) (bit skips i) (sym (e i h) ∙ t)).1)
    ∙ ap (λ (b : Bool). bit word i || b) (goes_up word skips entered first i h e)

-- ---- one bit more, the top bit, and some bit

-- a word that is not 0 has a bit
pub some_bit : (n : ℕ) → 0 < n → n < 18446744073709551616 → (i : ℕ) × (i < 64) × (bit n i ≡ true)
unfolding bit
some_bit n h f =
    let found = bit_at-trailing_zeros w64 n h f in
    (trailing_zeros w64 n, found.0, ap (λ (x : ℕ). x == 1) found.1)

pub or_turned : (a b : Bool) → (a || b) ≡ (b || a)
or_turned true true = refl
or_turned true false = refl
or_turned false true = refl
or_turned false false = refl

pub with_bit : (word at : ℕ) → at < 64 → (i : ℕ) → i < 64 → bit (bit_or word (1 * 2 ^ at % 18446744073709551616)) i ≡ ((i == at) || bit word i)
with_bit word at h i f =
    bit-or word (1 * 2 ^ at % 18446744073709551616) i
    ∙ ap (λ (n : ℕ). bit word i || bit n i) (one_shl at 64 h)
    ∙ ap (λ (b : Bool). bit word i || b) (bit-power at i)
    ∙ or_turned (bit word i) (i == at)

pub top_bit : (word : ℕ) → word < 18446744073709551616 → (word / 9223372036854775808 == 1) ≡ bit word 63
unfolding bit
top_bit word f =
    let one : word / 9223372036854775808 ≡ word / 9223372036854775808 % 2 = omega arith in
    ap (λ (x : ℕ). x == 1) one

pub shifted_bit : (word i : ℕ) → (bit_and (word / 2 ^ i) 1 == 1) ≡ bit word i
unfolding bit
shifted_bit word i = ap (λ (x : ℕ). x == 1) (shr_and_one word i)

and_turned : (a b : Bool) → (a && b) ≡ (b && a)
and_turned true true = refl
and_turned true false = refl
and_turned false true = refl
and_turned false false = refl

pub carried_bits : (up takes word stays i : ℕ) (behind : Bool) → bit up i ≡ behind → bit (bit_or (bit_and up takes) (bit_and word stays)) i ≡ ((bit takes i && behind) || (bit stays i && bit word i))
carried_bits up takes word stays i behind e =
    bit-or (bit_and up takes) (bit_and word stays) i
    ∙ ap (λ (b : Bool). b || bit (bit_and word stays) i) (bit-and up takes i ∙ and_turned (bit up i) (bit takes i) ∙ ap (λ (b : Bool). bit takes i && b) e)
    ∙ ap (λ (b : Bool). (bit takes i && behind) || b) (bit-and word stays i ∙ and_turned (bit word i) (bit stays i))
