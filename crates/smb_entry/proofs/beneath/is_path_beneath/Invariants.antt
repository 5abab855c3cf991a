use Rattle.std.proofs.Common.{◌≤◌, length}
use Rattle.smb_wire.specs.Paths.{folded_path}
use Rattle.smb_wire.specs.PathViews.{parts_of}
use Rattle.smb_entry.proofs.Under.{AreNoFronts}
use Rattle.smb_entry.proofs.beneath.is_path_beneath.Given as goal

abbrev pub invariant-loop-depth : goal.invariant-loop-depth
invariant-loop-depth g l = record {
  within : l.depth ≤ length (parts_of l.path);
  none : AreNoFronts (g.T.Tree.content l.tree).rows (folded_path (parts_of l.path)) l.depth;
}

abbrev pub decreases-loop-depth : goal.decreases-loop-depth
decreases-loop-depth g l = l.depth
