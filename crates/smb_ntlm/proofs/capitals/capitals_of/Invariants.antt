use Rattle.std.proofs.Common.{◌≡◌, take}
use Rattle.smb_ntlm.specs.Proof.{capitals}
use Rattle.smb_ntlm.proofs.capitals.capitals_of.Given as goal

abbrev pub invariant-loop-byte : goal.invariant-loop-byte
invariant-loop-byte l = l.units.items ≡ capitals (take l.byte-index l.name)
