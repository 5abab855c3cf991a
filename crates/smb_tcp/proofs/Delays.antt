-- Delays by how many wrong passwords there were.
use Rattle.std.proofs.Common.{◌≡◌, ◌≤◌, ◌^◌, ◌-◌, ℕ, arith}
use Rattle.std.proofs.lemmas.Bool.Decides.{nat_tests}
use Rattle.std.proofs.Math.Nat.{pow-le-pow_right}
use Rattle.smb_tcp.specs.LoginDelays.{seconds_by}

-- eleven wrong passwords or more cost a minute
pub a_minute : (n : ℕ) → 11 ≤ n → 60 ≡ seconds_by n
a_minute n many =
    let six : 6 ≤ n - 5 = omega (arith, many) in
    let more : 2 ^ 6 ≤ 2 ^ (n - 5) = pow-le-pow_right (omega arith) six in
    let above : 60 ≤ 2 ^ (n - 5) = omega (arith, more) in
    grind (arith, nat_tests, many, above)
