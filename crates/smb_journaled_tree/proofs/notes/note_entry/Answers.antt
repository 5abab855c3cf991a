use Rattle.std.proofs.Common.{subst, ap, ◌∙◌}
use Rattle.smb_changes.specs.Crash.{IsWritable}
use Rattle.smb_journaled_tree.specs.Kept.{change_seen}
use Rattle.smb_journaled_tree.proofs.Noting.{seen_as_is}
use Rattle.smb_journaled_tree.proofs.notes.note_entry.Goals as goal

pub returns-clause-writable : goal.returns-clause-writable
returns-clause-writable g c =
    subst IsWritable
    (c.change_of.ensures ∙ ap (change_seen c.args.number) c.entry-view.ensures ∙ seen_as_is (g.T.Tree.content c.args.tree.now) c.args.number)
    c.in_ok-note.ensures.writable
