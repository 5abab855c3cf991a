-- For the proofs; nothing here need be believed.
-- Four of anything, and the lanes of vectors.
use Rattle.std.specs.Prelude.{ℕ, zero, suc, List, [], ◌∷◌, map, slice_index, slice_index_or}

-- the jth of four, from 0
abbrev pub nth : {A : Type 0} → A → A → A → A → ℕ → A
nth a b c d zero = a
nth a b c d (suc zero) = b
nth a b c d (suc (suc zero)) = c
nth a b c d (suc (suc (suc j))) = d

-- lane j of vector k
abbrev pub lane_at : List (List ℕ) → ℕ → ℕ → ℕ
lane_at vs k j = slice_index (slice_index_or vs k []) j

-- the words of message j in a list of vectors
abbrev pub word_lane : ℕ → List (List ℕ) → List ℕ
word_lane j ws = map (λ v. slice_index v j) ws

-- the eight words of message j in a hash value, spelled out
abbrev pub state_lane : ℕ → List (List ℕ) → List ℕ
state_lane j vs =
    lane_at vs 0 j ∷ lane_at vs 1 j ∷ lane_at vs 2 j ∷ lane_at vs 3 j
    ∷ lane_at vs 4 j ∷ lane_at vs 5 j ∷ lane_at vs 6 j ∷ lane_at vs 7 j ∷ []
