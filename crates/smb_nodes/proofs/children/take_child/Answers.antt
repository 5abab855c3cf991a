use Rattle.std.proofs.Common.{None, refl}
use Rattle.smb_nodes.proofs.Keyed.{updated}
use Rattle.smb_nodes.proofs.Putting.{child_put}
use Rattle.smb_nodes.proofs.children.take_child.Goals as goal

pub returns : goal.returns
returns c =
    child_put c.args.nodes.now c.args.folder c.index_mut.result.now (record { number = c.index_mut.result.now.number; kind = c.index_mut.result.now.kind; basic = c.index_mut.result.now.basic; mark = c.index_mut.result.now.mark; spelling = c.index_mut.result.now.spelling; parent = c.index_mut.result.now.parent; children = c.remove.new.self; bytes = c.index_mut.result.now.bytes; even = _; short = _; few = _ }) c.args.name.now None c.index_mut.ensures.value refl refl (updated c.index_mut.result.now.children c.remove.new.self c.units.result.now c.args.name.now None c.units.ensures c.remove.ensures.updates)
