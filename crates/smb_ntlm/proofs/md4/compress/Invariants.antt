use Rattle.std.proofs.Common.{◌≡◌}
use Rattle.smb_ntlm.specs.Md4.{operations}
use Rattle.smb_ntlm.proofs.md4.compress.Given as goal

abbrev pub invariant-loop-t : goal.invariant-loop-t
invariant-loop-t l = l.words ≡ operations l.state l.block l.t
