use Rattle.std.proofs.Common.{◌-◌}
use Rattle.smb_tree_of_files.specs.Building.{IsPoured}
use Rattle.smb_tree_of_files.proofs.fill.pour.Given as goal

abbrev pub invariant-loop-offset : goal.invariant-loop-offset
invariant-loop-offset l = IsPoured l.fn.tree l.number l.bytes l.offset l.tree

abbrev pub decreases-loop-offset : goal.decreases-loop-offset
decreases-loop-offset l = l.size - l.offset
