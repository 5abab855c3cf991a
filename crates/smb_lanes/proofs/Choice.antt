-- Ch and Maj in fewer operations, since `and` distributes over `xor`.
use Rattle.std.proofs.Common.{◌≡◌, ℕ, ◌+◌, ◌-◌, ◌%◌, ◌^◌, ◌<◌, min, bit_and, bit_xor, arith, sym, ap, ap₂, ◌∙◌}
use Rattle.std.proofs.lemmas.Nat.{and_le_r, xor_comm, xor_lt}
use Rattle.std.proofs.lemmas.Nat.Bits.{bit_at-lt, bit_at_and, bit_at_not, bit_at_xor, same_from_bits, same_from_bits_below}
use Rattle.std.specs.Int.{w32, bit_not, bit_at}
use lib.Bits.{and_comm, and_self, xor_assoc, xor_self, xor_zero_l}

bit_distributes : (p q r : ℕ) → p < 2 → q < 2 → r < 2 → min p ((q + r) % 2) ≡ (min p q + min p r) % 2
bit_distributes p q r hp hq hr = omega arith

distributes : (a b c : ℕ) → bit_and a (bit_xor b c) ≡ bit_xor (bit_and a b) (bit_and a c)
distributes a b c =
    same_from_bits _ _ (λ i.
    bit_at_and a (bit_xor b c) i ∙ ap (min (bit_at a i)) (bit_at_xor b c i)
    ∙ bit_distributes _ _ _ (bit_at-lt a i) (bit_at-lt b i) (bit_at-lt c i)
    ∙ sym (bit_at_xor (bit_and a b) (bit_and a c) i ∙ ap₂ (λ m n. (m + n) % 2) (bit_at_and a b i) (bit_at_and a c i)))

bit_without : (p r : ℕ) → p < 2 → r < 2 → (r + min p r) % 2 ≡ min (1 - p) r
bit_without p r hp hr = omega arith

-- what z has and x has not
without : (x z : ℕ) → x < 2 ^ 32 → z < 2 ^ 32 → bit_xor z (bit_and x z) ≡ bit_and (bit_not w32 x) z
without x z hx hz =
    same_from_bits_below 32 _ _ (xor_lt 32 z (bit_and x z) hz (omega (arith, and_le_r x z))) (omega (arith, and_le_r (bit_not w32 x) z)) (λ i low.
    bit_at_xor z (bit_and x z) i ∙ ap (λ m. (bit_at z i + m) % 2) (bit_at_and x z i)
    ∙ bit_without _ _ (bit_at-lt x i) (bit_at-lt z i)
    ∙ sym (bit_at_and (bit_not w32 x) z i ∙ ap (λ m. min m (bit_at z i)) (bit_at_not w32 x i hx low)))

-- an inner term goes to the front
xor_swap : (a b c : ℕ) → bit_xor a (bit_xor b c) ≡ bit_xor b (bit_xor a c)
xor_swap a b c = sym (xor_assoc a b c) ∙ ap (λ n. bit_xor n c) (xor_comm a b) ∙ xor_assoc b a c

pub choice_is : (x y z : ℕ) → x < 2 ^ 32 → z < 2 ^ 32
    → bit_xor z (bit_and x (bit_xor y z)) ≡ bit_xor (bit_and x y) (bit_and (bit_not w32 x) z)
choice_is x y z hx hz =
    ap (bit_xor z) (distributes x y z) ∙ xor_swap z (bit_and x y) (bit_and x z) ∙ ap (bit_xor (bit_and x y)) (without x z hx hz)

-- x without y
part : (x y : ℕ) → bit_and (bit_xor x y) y ≡ bit_xor y (bit_and x y)
part x y =
    and_comm (bit_xor x y) y ∙ distributes y x y ∙ ap₂ bit_xor (and_comm y x) (and_self y) ∙ xor_comm (bit_and x y) y

parts : (x y z : ℕ) → bit_and (bit_xor x y) z ≡ bit_xor (bit_and x z) (bit_and y z)
parts x y z = and_comm (bit_xor x y) z ∙ distributes z x y ∙ ap₂ bit_xor (and_comm z x) (and_comm z y)

pub majority_is : (x y z : ℕ)
    → bit_xor y (bit_and (bit_xor x y) (bit_xor y z)) ≡ bit_xor (bit_xor (bit_and x y) (bit_and x z)) (bit_and y z)
majority_is x y z =
    ap (bit_xor y) (distributes (bit_xor x y) y z ∙ ap₂ bit_xor (part x y) (parts x y z) ∙ xor_assoc y (bit_and x y) (bit_xor (bit_and x z) (bit_and y z)))
    ∙ sym (xor_assoc y y _) ∙ ap (λ n. bit_xor n (bit_xor (bit_and x y) (bit_xor (bit_and x z) (bit_and y z)))) (xor_self y)
    ∙ xor_zero_l _ ∙ sym (xor_assoc (bit_and x y) (bit_and x z) (bit_and y z))
