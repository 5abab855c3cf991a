-- For the proofs; nothing here need be believed.
-- What four hash values have taken in.
use Rattle.std.specs.Prelude.{◌≡◌, ℕ, ◌/◌, ◌%◌, ◌^◌, List, [], ◌∷◌, length}
use Rattle.sha2.specs.Sha256.{hash_after, initial_hash_256}
use Rattle.smb_lanes.specs.declared.hash.FourHashes.{FourHashes}
use Rattle.smb_lanes.specs.Lanes.{state_lane}

-- the eight words
abbrev pub words_of : FourHashes → List (List ℕ)
words_of s = s.a ∷ s.b ∷ s.c ∷ s.d ∷ s.e ∷ s.f ∷ s.g ∷ s.h ∷ []

-- the jth of four hash values has taken in the bytes p, which are whole blocks
unfoldable pub Holds : FourHashes → ℕ → List ℕ → Type 0
Holds s j p = (length p % 64 ≡ 0) × (s.before ≡ length p % 2 ^ 64)
    × (state_lane j (words_of s) ≡ hash_after initial_hash_256 p (length p / 64))
