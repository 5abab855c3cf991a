use Rattle.smb_files.specs.Contents.{files_of}
use Rattle.smb_changes.specs.Open.{changes_in_batch}
use Rattle.smb_journaled_tree.specs.Renewal.{Brings}
use Rattle.smb_journaled_tree.proofs.slice.note_slice.Given as goal

abbrev pub invariant-loop : goal.invariant-loop
invariant-loop g l = Brings (files_of (g.T.Tree.content l.tree)) (changes_in_batch l.fn.batch) (changes_in_batch l.batch) l.fn.place l.place
