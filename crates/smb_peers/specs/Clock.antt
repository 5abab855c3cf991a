-- A clock with a list of moments.
use Rattle.std.specs.Prelude.{ℕ, zero, suc, ◌-◌, min, Bool, List, [], ◌∷◌, ◌++◌, length, slice_get, unwrap_or}

-- its moments, how often it was asked, and whether its record of the moments that it gave is complete
pub record ListClockState : Type 0 where
  pub moments : List ℕ
  pub asked : ℕ
  pub keeps : Bool

-- the moment that it tells after so many others: that of its place, behind the last one the last, and 0 where there is none
abbrev pub moment_of : List ℕ → ℕ → ℕ
moment_of moments place = unwrap_or (slice_get moments (min place (length moments - 1))) 0

-- the moments that it gave in so many calls
abbrev pub moments_told : List ℕ → ℕ → List ℕ
moments_told moments zero = []
moments_told moments (suc asked) = moments_told moments asked ++ moment_of moments asked ∷ []
