use Rattle.smb_nodes.proofs.Putting.{unhung}
use Rattle.smb_nodes.proofs.removals.unhang.Goals as goal

pub returns : goal.returns
returns c =
    unhung c.args.nodes.now c.remove-node.new.self c.take_child.new.nodes c.remove-node.result c.args.slot c.remove-node.ensures.value c.remove-node.ensures.updates c.requires.not_root c.requires.bare
    (rw c.name_of.ensures at c.take_child.ensures)
