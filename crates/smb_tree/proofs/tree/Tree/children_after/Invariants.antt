use Rattle.std.proofs.Common.{◌-◌, length}
use Rattle.std.specs.Option.{option_copied}
use Rattle.smb_tree.specs.declared.tree.TheConstants.{CHILDREN_AT_ONCE}
use Rattle.smb_tree.proofs.ChildLists.{AreFirst}
use Rattle.smb_tree.proofs.tree.Tree.children_after.Given as goal

abbrev pub invariant-loop-last : goal.invariant-loop-last
invariant-loop-last g l = AreFirst (g.Self.Tree.content l.self).rows l.number (option_copied l.fn.after) l.last CHILDREN_AT_ONCE l.children.items

abbrev pub decreases-loop-last : goal.decreases-loop-last
decreases-loop-last g l = CHILDREN_AT_ONCE - length l.children.items
