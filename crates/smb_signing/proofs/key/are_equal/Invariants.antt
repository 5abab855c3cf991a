use Rattle.std.proofs.Common.{◌≡◌, ◌↔◌}
use Rattle.smb_signing.proofs.Equal.{AreEqualBelow}
use Rattle.smb_signing.proofs.key.are_equal.Given as goal

-- no difference was found exactly where the bytes before are equal
abbrev pub invariant-loop-i : goal.invariant-loop-i
invariant-loop-i l = (l.difference ≡ 0) ↔ AreEqualBelow l.left l.right l.i
