-- Lists of units.
use Rattle.std.proofs.Common.{◌≡◌, ℕ, suc, ◌*◌, ◌/◌, List, [], ◌∷◌, length, take, refl, ap, arith}
use Rattle.smb_wire.specs.Pairs.{units_in}
use Rattle.smb_wire.specs.Number.{number}

-- a last odd byte spells no unit
pub even_units : (bytes : List ℕ) → units_in (take (length bytes / 2 * 2) bytes) ≡ units_in bytes
even_units [] = refl
even_units (a ∷ []) = refl
even_units (a ∷ b ∷ bytes) =
    let e : length (a ∷ b ∷ bytes) / 2 * 2 ≡ suc (suc (length bytes / 2 * 2)) = omega arith in
    rw e (ap (λ us. number (a ∷ b ∷ []) ∷ us) (even_units bytes))
