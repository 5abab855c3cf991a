use Rattle.std.proofs.Common.{◌≡◌}
use Rattle.smb_tcp.proofs.tcp.TcpPeers.read_on.Given as goal

abbrev pub invariant-loop : goal.invariant-loop
invariant-loop g l = l.self.opened ≡ l.fn.self.opened
