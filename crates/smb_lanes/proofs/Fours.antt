-- What holds of each lane of a vector of four.
use Rattle.std.proofs.Common.{◌≡◌, ℕ, zero, suc, ◌<◌, ◌-◌, ◌*◌, ◌/◌, ◌%◌, ◌^◌, List, [], ◌∷◌, length, slice_index, slice_index_or, slice_set, bit_and, bit_or, bit_xor, arith, refl, ap, ◌∙◌, ◌+◌, below_more}
use Rattle.std.proofs.Math.ListN.{get_or-map}
use Rattle.std.proofs.lemmas.List.{get_or-set_same, get_or-set_other, map-set, length-map}
use Rattle.std.proofs.lemmas.Simd.{Each1-get_or}
use Rattle.std.specs.Simd.Lanes.{zip2, Each1}
use Rattle.sha2.specs.Sha256.{word_at}
use Rattle.smb_lanes.specs.Lanes.{word_lane}
use mir.Val.{Fits}
use Rattle.std.specs.Int.{w32, rotate_right}

-- what holds of each of the four lanes
pub below_four : (P : ℕ → Type 0) → P 0 → P 1 → P 2 → P 3 → (j : ℕ) → j < 4 → P j
below_four P p0 p1 p2 p3 zero h = p0
below_four P p0 p1 p2 p3 (suc zero) h = p1
below_four P p0 p1 p2 p3 (suc (suc zero)) h = p2
below_four P p0 p1 p2 p3 (suc (suc (suc zero))) h = p3
below_four P p0 p1 p2 p3 (suc (suc (suc (suc n)))) h = absurd (omega arith)

-- what holds of each list of four elements
pub four_lanes : (P : List ℕ → Type 0) → ((a b c d : ℕ) → P (a ∷ b ∷ c ∷ d ∷ [])) → (xs : List ℕ) → length xs ≡ 4 → P xs
four_lanes P p (a ∷ b ∷ c ∷ d ∷ []) h = p a b c d
four_lanes P p [] h = absurd (omega arith)
four_lanes P p (a ∷ []) h = absurd (omega arith)
four_lanes P p (a ∷ b ∷ []) h = absurd (omega arith)
four_lanes P p (a ∷ b ∷ c ∷ []) h = absurd (omega arith)
four_lanes P p (a ∷ b ∷ c ∷ d ∷ e ∷ xs) h = absurd (omega arith)

-- a shift of each lane
abbrev Shifts : ℕ → List ℕ → Type 0
Shifts k a = (j : ℕ) → j < 4 → slice_index (zip2 (λ x n. x / 2 ^ n) a (k ∷ k ∷ k ∷ k ∷ [])) j ≡ slice_index a j / 2 ^ k

pub shifts : (k : ℕ) (a : List ℕ) → length a ≡ 4 → Shifts k a
shifts k = four_lanes (Shifts k) (λ a0 a1 a2 a3. below_four _ refl refl refl refl)

-- two shifts of each lane and an or are a rotation
abbrev Rotates : ℕ → List ℕ → Type 0
Rotates k a = (j : ℕ) → j < 4
    → slice_index (zip2 bit_or
    (zip2 (λ x n. x / 2 ^ n) a (k ∷ k ∷ k ∷ k ∷ []))
    (zip2 (λ x n. x * 2 ^ n % 2 ^ 32) a ((32 - k) ∷ (32 - k) ∷ (32 - k) ∷ (32 - k) ∷ []))) j
    ≡ rotate_right w32 (slice_index a j) k

pub rotates : (k : ℕ) → 0 < k → k < 32 → (a : List ℕ) → length a ≡ 4 → Rotates k a
rotates k low high =
    let right : k % 32 ≡ k = omega arith in
    let left : (32 - k) % 32 ≡ 32 - k = omega arith in
    four_lanes (Rotates k) (λ a0 a1 a2 a3. below_four _ (rw (right, left) refl) (rw (right, left) refl) (rw (right, left) refl) (rw (right, left) refl))

-- the lanes of `ch` and of `maj` as they are computed
abbrev Choices : List ℕ → List ℕ → List ℕ → Type 0
Choices x y z = (j : ℕ) → j < 4 → slice_index (zip2 bit_xor z (zip2 bit_and x (zip2 bit_xor y z))) j
    ≡ bit_xor (slice_index z j) (bit_and (slice_index x j) (bit_xor (slice_index y j) (slice_index z j)))

pub choices : (x : List ℕ) → length x ≡ 4 → (y : List ℕ) → length y ≡ 4 → (z : List ℕ) → length z ≡ 4 → Choices x y z
choices =
    four_lanes (λ x. (y : List ℕ) → length y ≡ 4 → (z : List ℕ) → length z ≡ 4 → Choices x y z) (λ x0 x1 x2 x3.
    four_lanes (λ y. (z : List ℕ) → length z ≡ 4 → Choices (x0 ∷ x1 ∷ x2 ∷ x3 ∷ []) y z) (λ y0 y1 y2 y3.
    four_lanes (Choices (x0 ∷ x1 ∷ x2 ∷ x3 ∷ []) (y0 ∷ y1 ∷ y2 ∷ y3 ∷ [])) (λ z0 z1 z2 z3.
    below_four _ refl refl refl refl)))

abbrev Majorities : List ℕ → List ℕ → List ℕ → Type 0
Majorities x y z = (j : ℕ) → j < 4 → slice_index (zip2 bit_xor y (zip2 bit_and (zip2 bit_xor x y) (zip2 bit_xor y z))) j
    ≡ bit_xor (slice_index y j) (bit_and (bit_xor (slice_index x j) (slice_index y j)) (bit_xor (slice_index y j) (slice_index z j)))

pub majorities : (x : List ℕ) → length x ≡ 4 → (y : List ℕ) → length y ≡ 4 → (z : List ℕ) → length z ≡ 4 → Majorities x y z
majorities =
    four_lanes (λ x. (y : List ℕ) → length y ≡ 4 → (z : List ℕ) → length z ≡ 4 → Majorities x y z) (λ x0 x1 x2 x3.
    four_lanes (λ y. (z : List ℕ) → length z ≡ 4 → Majorities (x0 ∷ x1 ∷ x2 ∷ x3 ∷ []) y z) (λ y0 y1 y2 y3.
    four_lanes (Majorities (x0 ∷ x1 ∷ x2 ∷ x3 ∷ []) (y0 ∷ y1 ∷ y2 ∷ y3 ∷ [])) (λ z0 z1 z2 z3.
    below_four _ refl refl refl refl)))

-- each lane is a word
pub lane_fits : (x : List ℕ) → (length x ≡ 4) × Each1 (Fits w32) x → (j : ℕ) → j < 4 → slice_index x j < 2 ^ 32
lane_fits x f j h = (Each1-get_or (Fits w32) x j 0 (omega arith) f.1).fits

-- the lanes of a splat
pub splat_lane : (k j : ℕ) → j < 4 → slice_index (k ∷ k ∷ k ∷ k ∷ []) j ≡ k
splat_lane k = below_four _ refl refl refl refl

-- a word of a lane's window, and the window with one word changed
pub word_lane_at : (w : List (List ℕ)) (k j : ℕ) → slice_index (word_lane j w) k ≡ slice_index (slice_index_or w k []) j
word_lane_at w k j = get_or-map (λ v. slice_index v j) w k []

pub word_lane_set : (w : List (List ℕ)) (k : ℕ) (x : List ℕ) (j : ℕ) → word_lane j (slice_set w k x) ≡ slice_set (word_lane j w) k (slice_index x j)
word_lane_set w k x j = map-set (λ v. slice_index v j) w k x

pub length-word_lane : (j : ℕ) (w : List (List ℕ)) → length (word_lane j w) ≡ length w
length-word_lane j w = length-map w (λ v. slice_index v j)

-- one more word of a block
pub loaded_more : (w : List (List ℕ)) (x : List ℕ) (b : List ℕ) (i j : ℕ) → i < length w
    → ((k : ℕ) → k < i → slice_index (word_lane j w) k ≡ word_at b (4 * k)) → slice_index x j ≡ word_at b (4 * i)
    → (k : ℕ) → k < i + 1 → slice_index (word_lane j (slice_set w i x)) k ≡ word_at b (4 * k)
loaded_more w x b i j room before e =
    let moved : word_lane j (slice_set w i x) ≡ slice_set (word_lane j w) i (slice_index x j) = word_lane_set w i x j in
    below_more _ _
    (λ k h. ap (λ v. slice_index v k) moved ∙ get_or-set_other (word_lane j w) i k (slice_index x j) 0 (omega arith) ∙ before k h)
    (ap (λ v. slice_index v i) moved ∙ get_or-set_same (word_lane j w) i (slice_index x j) 0 (omega (arith, length-word_lane j w)) ∙ e)
