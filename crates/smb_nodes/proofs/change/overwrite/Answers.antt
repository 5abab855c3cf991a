use Rattle.std.proofs.Common.{ℕ, List, refl, ap}
use Rattle.smb_tree.specs.Entries.{Entry}
use Rattle.smb_tree.specs.Content.{written}
use Rattle.smb_nodes.specs.Seen.{entry_seen}
use Rattle.smb_nodes.proofs.Putting.{put_in, on_ok_from}
use Rattle.smb_nodes.proofs.change.overwrite.Goals as goal

pub returns-clause-ok : goal.returns-clause-ok
returns-clause-ok c =
    on_ok_from c.put_at.result c.put_at.ensures.ok
    (λ e. put_in c.args.nodes.now c.args.slot c.index_mut.result.now (record { number = c.index_mut.result.now.number; kind = c.index_mut.result.now.kind; basic = c.index_mut.result.now.basic; mark = c.index_mut.result.now.mark; spelling = c.index_mut.result.now.spelling; parent = c.index_mut.result.now.parent; children = c.index_mut.result.now.children; bytes = c.put_at.new.self; even = _; short = _; few = _ }) (λ (entry : Entry). record entry { bytes = written c.args.offset c.args.buffer.now entry.bytes }) c.index_mut.ensures.value (ap (λ (b : List ℕ). record (entry_seen c.index_mut.result.now) { bytes = b }) e) refl refl refl)
