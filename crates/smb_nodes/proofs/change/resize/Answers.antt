use Rattle.std.proofs.Common.{ℕ, List, refl, ap}
use Rattle.smb_tree.specs.Entries.{Entry}
use Rattle.smb_tree.specs.Content.{resized}
use Rattle.smb_nodes.specs.Seen.{entry_seen}
use Rattle.smb_nodes.proofs.Putting.{put_in}
use Rattle.smb_nodes.proofs.change.resize.Goals as goal

pub returns : goal.returns
returns c =
    put_in c.args.nodes.now c.args.slot c.index_mut.result.now (record { number = c.index_mut.result.now.number; kind = c.index_mut.result.now.kind; basic = c.index_mut.result.now.basic; mark = c.index_mut.result.now.mark; spelling = c.index_mut.result.now.spelling; parent = c.index_mut.result.now.parent; children = c.index_mut.result.now.children; bytes = c.resize.new.self; even = _; short = _; few = _ }) (λ (entry : Entry). record entry { bytes = resized c.args.size entry.bytes }) c.index_mut.ensures.value (ap (λ (b : List ℕ). record (entry_seen c.index_mut.result.now) { bytes = b }) c.resize.ensures) refl refl refl
