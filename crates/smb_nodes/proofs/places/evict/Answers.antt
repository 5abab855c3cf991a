use Rattle.std.proofs.Common.{Option, sym, ap, ◌∙◌, unwrap_or}
use Rattle.smb_nodes.specs.declared.node.Node.{Node}
use Rattle.smb_nodes.specs.Nodes.{entry_in, blank, index_without}
use Rattle.smb_nodes.specs.Seen.{seen}
use Rattle.smb_nodes.proofs.Indexed.{remove_is}
use Rattle.smb_nodes.proofs.Replacing.{emptied}
use Rattle.smb_nodes.proofs.places.evict.Goals as goal

pub returns-clause-nodes : goal.returns-clause-nodes
returns-clause-nodes c = emptied c.args.nodes.now c.remove-node.new.self c.args.slot c.remove-node.ensures.updates

pub returns-clause-index : goal.returns-clause-index
returns-clause-index c =
    c.remove.ensures.entries ∙ remove_is c.args.index.now.entries c.remove-node.result.number
    ∙ sym (ap (λ (o : Option Node). index_without c.args.index.now.entries (unwrap_or (entry_in (seen o)) blank).number) c.remove-node.ensures.value)
