use Rattle.std.proofs.Common.{sym}
use Rattle.std.specs.Option.{option_copied}
use Rattle.smb_nodes.proofs.Kept.{has_node}
use Rattle.smb_nodes.proofs.Putting.{children_of}
use Rattle.smb_nodes.proofs.Turning.{are_at_once, none_at_once}
use Rattle.smb_nodes.proofs.tree.NodeTreeTree.children_after.Goals as goal

pub index-requires : goal.index-requires
index-requires c = has_node c.self.inside c.args.number c.in-Some.slot c.self.invariant (sym (c.in-Some.ensures {u = tt}))

pub returns-in-Some : goal.returns-in-Some
returns-in-Some c =
    rw (← c.self.view_is) (are_at_once c.self.inside c.args.number c.in-Some.slot c.self.invariant (sym (c.in-Some.ensures {u = tt})) c.index.result.now.children (children_of c.self.inside.nodes c.in-Some.slot c.index.result.now c.index.ensures) (option_copied c.args.after) _ c.next_children.ensures)

pub returns-in-None : goal.returns-in-None
returns-in-None c =
    rw (← c.self.view_is) (none_at_once c.self.inside c.args.number (option_copied c.args.after) _ c.self.invariant (sym (c.in-None.ensures {u = tt})) c.clear.ensures)
