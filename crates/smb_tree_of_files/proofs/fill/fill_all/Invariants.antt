use Rattle.std.proofs.Common.{ℕ}
use Rattle.std.specs.FinMap.{len}
use Rattle.smb_wire.specs.declared.limits.share.Limits.{Limits}
use Rattle.smb_tree_of_files.specs.Building.{IsFilled}
use Rattle.smb_tree_of_files.proofs.fill.fill_all.Given as goal

abbrev pub invariant-loop-number : goal.invariant-loop-number
invariant-loop-number l = (limits : Limits) (capacity : ℕ) →
    IsFilled l.fn.files l.fn.files limits capacity l.fn.tree → IsFilled l.fn.files l.left limits capacity l.tree

abbrev pub decreases-loop-number : goal.decreases-loop-number
decreases-loop-number l = len l.left.entries
