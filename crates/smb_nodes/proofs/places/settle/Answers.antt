use Rattle.std.proofs.Common.{refl}
use Rattle.smb_wire.specs.Pairs.{units_in}
use Rattle.smb_nodes.proofs.Replacing.{settled}
use Rattle.smb_nodes.proofs.places.settle.Goals as goal

pub returns : goal.returns
returns c = settled c.args.nodes.now c.args.slot c.index_mut-node.result.now (record { number = c.index_mut-node.result.now.number; kind = c.index_mut-node.result.now.kind; basic = c.index_mut-node.result.now.basic; mark = c.index_mut-node.result.now.mark; spelling = c.args.spelling; parent = c.args.folder; children = c.index_mut-node.result.now.children; bytes = c.index_mut-node.result.now.bytes; even = _; short = _; few = _ }) c.args.folder (units_in c.args.spelling.items) c.index_mut-node.ensures.value refl refl refl
