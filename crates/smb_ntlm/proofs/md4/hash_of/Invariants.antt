use Rattle.std.proofs.Common.{◌≡◌}
use Rattle.smb_ntlm.specs.Md4.{hash_of}
use Rattle.smb_ntlm.proofs.md4.hash_of.Given as goal

abbrev pub invariant-loop-n : goal.invariant-loop-n
invariant-loop-n l = l.state ≡ hash_of l.padded l.n
