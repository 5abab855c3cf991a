use Rattle.std.proofs.Common.{◌≡◌, vec_len}
use Rattle.smb_tcp.proofs.connections.Connections.release.Given as goal

abbrev pub invariant-loop-place : goal.invariant-loop-place
invariant-loop-place l = vec_len l.self.list ≡ vec_len l.fn.self.list
