-- What waits for the rest of its frame is short.
use Rattle.std.proofs.Common.{◌≡◌, ℕ, ◌+◌, ◌≤◌, List, [], ◌∷◌, length, None, arith}
use Rattle.std.proofs.lemmas.Grind.{common_steps}
use Rattle.smb_frame.specs.Reading.{first, fault_of}

pub open_rest_short : (limit : ℕ) (held : List ℕ) → first limit held ≡ None → fault_of limit held ≡ None → length held ≤ limit + 3
open_rest_short limit [] f e = omega arith
open_rest_short limit (k ∷ []) f e = omega arith
open_rest_short limit (k ∷ a ∷ []) f e = omega arith
open_rest_short limit (k ∷ a ∷ b ∷ []) f e = omega arith
open_rest_short limit (k ∷ a ∷ b ∷ c ∷ bytes) f e = grind (arith, common_steps)
