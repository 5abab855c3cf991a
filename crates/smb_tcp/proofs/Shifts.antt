-- Numbers of a width, without their last bits.
use Rattle.std.proofs.Common.{◌≡◌, ◌<◌, ◌≤◌, ◌/◌, ◌^◌, ℕ, zero, sym, arith, ◌∙◌}
use Rattle.std.proofs.Math.Nat.{div-eq_of_lt, pow-le-pow_right}

-- nothing is left of a number without as many bits as it has
nothing_left : (a width free : ℕ) → a < 2 ^ width → width ≤ free → a / 2 ^ free ≡ zero
nothing_left a width free below wide =
    let more : 2 ^ width ≤ 2 ^ free = pow-le-pow_right (omega arith) wide in
    div-eq_of_lt (omega (arith, below, more))

-- so two are the same then
pub same_nothing : (a b width free : ℕ) → a < 2 ^ width → b < 2 ^ width → width ≤ free → a / 2 ^ free ≡ b / 2 ^ free
same_nothing a b width free low high wide =
    nothing_left a width free low wide ∙ sym (nothing_left b width free high wide)
