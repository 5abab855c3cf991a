-- Rows of words, bit by bit.
use Rattle.std.proofs.Common.{◌≡◌, ◌≢◌, ℕ, ◌+◌, ◌*◌, ◌/◌, ◌%◌, ◌<◌, Bool, false, ◌==◌, ◌||◌, List, length, get_or, set, replicate, inl, inr, sym, ap, ◌∙◌, arith, get_or-set_same, get_or-set_other}
use Rattle.std.proofs.lemmas.Bool.{cases_eq, cases_lt, eq-eqb, ne_eqb}
use Rattle.std.proofs.lemmas.List.{get_or-replicate, get_or_past}
use Rattle.std.proofs.Math.ListN.{length-replicate}
use Rattle.smb_patterns.specs.Bits.{bit, has_bit}
use Rattle.smb_patterns.proofs.Words.{bit-zero}

-- a bit of a word is that of the row
pub has-word : (words : List ℕ) (at i n : ℕ) → i < 64 → n ≡ 64 * at + i → bit (get_or words at 0) i ≡ has_bit words n
unfolding has_bit
has-word words at i n h e =
    let word : at ≡ n / 64 = omega arith in
    let place : i ≡ n % 64 = omega arith in
    ap (λ (k : ℕ). bit (get_or words k 0) i) word ∙ ap (bit (get_or words (n / 64) 0)) place

zeros_at : (count k : ℕ) → ◌≡◌ {A = ℕ} (get_or (replicate count 0) k 0) 0
zeros_at count k = elim (cases_lt k count) [
  | inl h ↦ get_or-replicate count k 0 0 h
  | inr h ↦ get_or_past (replicate count 0) k 0 (let zero : ℕ = 0 in omega (arith, length-replicate count zero))
]

-- in a row of zeros no bit is 1
pub has-none : (count n : ℕ) → has_bit (replicate count 0) n ≡ false
unfolding has_bit
has-none count n = ap (λ (w : ℕ). bit w (n % 64)) (zeros_at count (n / 64)) ∙ bit-zero (n % 64)

-- a word that is written has its own bits, and the others stay
pub has-set_same : (words : List ℕ) (at word i n : ℕ) → at < length words → i < 64 → n ≡ 64 * at + i → has_bit (set words at word) n ≡ bit word i
has-set_same words at word i n h f e =
    sym (has-word (set words at word) at i n f e) ∙ ap (λ (w : ℕ). bit w i) (get_or-set_same words at word 0 h)

pub has-set_other : (words : List ℕ) (at word n : ℕ) → n / 64 ≢ at → has_bit (set words at word) n ≡ has_bit words n
unfolding has_bit
has-set_other words at word n h = ap (λ (w : ℕ). bit w (n % 64)) (get_or-set_other words at (n / 64) word 0 h)

same_word : (m n : ℕ) → m / 64 ≡ n / 64 → (m % 64 == n % 64) ≡ (m == n)
same_word m n e = elim (cases_eq m n) [
  | inl same ↦ eq-eqb (m % 64) (n % 64) (ap (λ (x : ℕ). x % 64) same) ∙ sym (eq-eqb m n same)
  | inr other ↦ ne_eqb (m % 64) (n % 64) (λ f. other (omega arith)) ∙ sym (ne_eqb m n other)
]

-- one bit more in one word is one bit more in the row
pub has-more : (words : List ℕ) (n word m : ℕ) → n < 64 * length words → ((i : ℕ) → i < 64 → bit word i ≡ ((i == n % 64) || bit (get_or words (n / 64) 0) i)) → has_bit (set words (n / 64) word) m ≡ ((m == n) || has_bit words m)
has-more words n word m h w = elim (cases_eq (m / 64) (n / 64)) [
  | inl same ↦
      let place : m ≡ 64 * (n / 64) + m % 64 = omega arith in
      has-set_same words (n / 64) word (m % 64) m (omega arith) (omega arith) place
      ∙ w (m % 64) (omega arith)
      ∙ ap (λ (b : Bool). b || bit (get_or words (n / 64) 0) (m % 64)) (same_word m n same)
      ∙ ap (λ (b : Bool). (m == n) || b) (has-word words (n / 64) (m % 64) m (omega arith) place)
  | inr other ↦
      has-set_other words (n / 64) word m other
      ∙ ap (λ (b : Bool). b || has_bit words m) (sym (ne_eqb m n (λ e. other (ap (λ (x : ℕ). x / 64) e))))
]
