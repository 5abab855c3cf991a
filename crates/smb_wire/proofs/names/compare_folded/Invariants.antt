use Rattle.std.proofs.Common.{◌≡◌, drop}
use Rattle.std.specs.Ordering.{nat_cmp}
use Rattle.std.specs.Cmp.Lexicographic.{slice_cmp}
use Rattle.smb_wire.specs.Names.{folded}
use Rattle.smb_wire.specs.Units.{units_of}
use Rattle.smb_wire.proofs.names.compare_folded.Given as goal

abbrev pub invariant-loop-i : goal.invariant-loop-i
invariant-loop-i l = slice_cmp nat_cmp (drop l.i (folded (units_of l.left))) (drop l.i (folded (units_of l.right))) ≡ slice_cmp nat_cmp (folded (units_of l.left)) (folded (units_of l.right))
