use Rattle.std.proofs.Common.{◌-◌, length}
use Rattle.std.specs.Option.{option_copied}
use Rattle.smb_tree.specs.declared.tree.TheConstants.{CHILDREN_AT_ONCE}
use Rattle.smb_nodes.specs.Seen.{heap_of}
use Rattle.smb_nodes.proofs.Batches.{SoFar}
use Rattle.smb_nodes.proofs.next.next_children.Given as goal

abbrev pub invariant-loop-later : goal.invariant-loop-later
invariant-loop-later l = SoFar (heap_of l.nodes) l.among (option_copied l.fn.after) l.children.items l.later

abbrev pub decreases-loop-later : goal.decreases-loop-later
decreases-loop-later l = CHILDREN_AT_ONCE - length l.children.items
