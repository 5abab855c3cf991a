use Rattle.std.proofs.Common.{◌≤◌, arith}
use Rattle.smb_tcp.proofs.Shifts.{same_nothing}
use Rattle.smb_tcp.proofs.network.is_same_before.Goals as goal

pub returns-else-free-lt-BITS : goal.returns-else-free-lt-BITS
returns-else-free-lt-BITS c =
    let wide : 128 ≤ c.args.free = omega (arith, c.if-free-lt-BITS.false) in
    let same = same_nothing c.args.a c.args.b 128 c.args.free c.ranges.a.fits c.ranges.b.fits wide in
    grind (arith, same)
