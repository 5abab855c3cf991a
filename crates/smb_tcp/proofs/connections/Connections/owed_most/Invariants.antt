use Rattle.std.proofs.Common.{◌<◌, IfSome, vec_len}
use Rattle.smb_tcp.proofs.connections.Connections.owed_most.Given as goal

abbrev pub invariant-loop-place : goal.invariant-loop-place
invariant-loop-place l = IfSome l.found (λ i. i < vec_len l.self.list)
