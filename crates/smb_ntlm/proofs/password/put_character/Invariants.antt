use Rattle.std.proofs.Common.{◌≡◌, ◌++◌, take}
use Rattle.smb_wire.specs.Pairs.{unit_bytes}
use Rattle.smb_ntlm.proofs.password.put_character.Given as goal

-- the units so far are put
abbrev pub invariant-loop-unit : goal.invariant-loop-unit
invariant-loop-unit l = l.bytes.items ≡ l.fn.bytes.items ++ unit_bytes (take l.unit-index l.unit-items)
