use Rattle.std.proofs.Common.{refl}
use Rattle.smb_tree.specs.Entries.{Entry}
use Rattle.smb_nodes.proofs.Putting.{put_in}
use Rattle.smb_nodes.proofs.change.put_mark.Goals as goal

pub returns : goal.returns
returns c = put_in c.args.nodes.now c.args.slot c.index_mut.result.now (record { number = c.index_mut.result.now.number; kind = c.index_mut.result.now.kind; basic = c.index_mut.result.now.basic; mark = c.args.mark; spelling = c.index_mut.result.now.spelling; parent = c.index_mut.result.now.parent; children = c.index_mut.result.now.children; bytes = c.index_mut.result.now.bytes; even = _; short = _; few = _ }) (λ (entry : Entry). record entry { mark = c.args.mark }) c.index_mut.ensures.value refl refl refl refl
