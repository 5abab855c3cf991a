use Rattle.std.proofs.Common.{◌≡◌, drop}
use Rattle.smb_wire.specs.Names.{is_same_name}
use Rattle.smb_ntlm.proofs.account.is_same_name.Given as goal

-- the bytes that are left decide
abbrev pub invariant-loop-i : goal.invariant-loop-i
invariant-loop-i l = is_same_name (drop l.i l.left) (drop l.i l.right) ≡ is_same_name l.left l.right
