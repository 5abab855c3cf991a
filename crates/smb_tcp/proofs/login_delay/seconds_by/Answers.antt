use Rattle.std.proofs.Common.{◌≤◌, arith}
use Rattle.smb_tcp.proofs.Delays.{a_minute}
use Rattle.smb_tcp.proofs.login_delay.seconds_by.Goals as goal

pub returns-in_default-clause-seconds : goal.returns-in_default-clause-seconds
returns-in_default-clause-seconds c =
    let many : 11 ≤ c.args.wrong = omega (arith, c.in_default) in
    a_minute c.args.wrong many
