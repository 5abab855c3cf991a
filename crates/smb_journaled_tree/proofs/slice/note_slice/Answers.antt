use Rattle.smb_files.specs.Contents.{files_of}
use Rattle.smb_journaled_tree.proofs.Bringing.{brings_both}
use Rattle.smb_journaled_tree.proofs.slice.note_slice.Goals as goal

pub loop-preserved : goal.loop-preserved
loop-preserved g c =
    brings_both (files_of (g.T.Tree.content c.args.tree.now)) _ _ _ _ _ _ c.loop.invariant c.in_ok-note_next.ensures
