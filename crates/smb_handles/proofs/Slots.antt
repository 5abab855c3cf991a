-- A slot that is written.
use Rattle.std.proofs.Common.{◌≡◌, ◌≢◌, ◌<◌, ℕ, zero, suc, length, slice_index_or, slice_set, Option, None, Some, List, [], ◌∷◌, arith}
use Rattle.std.proofs.lemmas.List.{get_or-set_same, get_or-set_other}

-- a slot with an open is one of the slab's
pub within : {X : Type 0} (xs : List (Option X)) (i : ℕ) (x : X) → slice_index_or xs i None ≡ Some x → i < length xs
within [] i x e = cc
within (y ∷ xs) zero x e = omega arith
within (y ∷ xs) (suc i) x e = let below = within xs i x e in omega (arith, below)

pub set_here : {X : Type 0} (xs : List (Option X)) (i : ℕ) (x y : X) → slice_index_or xs i None ≡ Some x → slice_index_or (slice_set xs i (Some y)) i None ≡ Some y
set_here xs i x y e = get_or-set_same xs i (Some y) None (within xs i x e)

pub set_other : {X : Type 0} (xs : List (Option X)) (i : ℕ) (y : X) (j : ℕ) → j ≢ i → slice_index_or (slice_set xs i (Some y)) j None ≡ slice_index_or xs j None
set_other xs i y j d = get_or-set_other xs i j (Some y) None d
