use Rattle.std.proofs.Common.{refl, ap}
use Rattle.smb_tree.specs.declared.entry.Basic.{Basic}
use Rattle.smb_tree.specs.Entries.{Entry, kept_basic}
use Rattle.smb_nodes.specs.Seen.{entry_seen}
use Rattle.smb_nodes.proofs.Putting.{put_in}
use Rattle.smb_nodes.proofs.change.rebase.Goals as goal

pub returns : goal.returns
returns c = put_in c.args.nodes.now c.args.slot c.index_mut.result.now (record { number = c.index_mut.result.now.number; kind = c.index_mut.result.now.kind; basic = c.kept.result; mark = c.index_mut.result.now.mark; spelling = c.index_mut.result.now.spelling; parent = c.index_mut.result.now.parent; children = c.index_mut.result.now.children; bytes = c.index_mut.result.now.bytes; even = _; short = _; few = _ }) (λ (entry : Entry). record entry { basic = kept_basic c.args.basic }) c.index_mut.ensures.value (ap (λ (b : Basic). record (entry_seen c.index_mut.result.now) { basic = b }) c.kept.ensures) refl refl refl
