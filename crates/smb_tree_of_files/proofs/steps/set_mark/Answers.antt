use Rattle.smb_tree_of_files.proofs.Begun.{leads_mark}
use Rattle.smb_tree_of_files.proofs.steps.set_mark.Goals as goal

pub returns-in-Ok : goal.returns-in-Ok
returns-in-Ok c = λ files. rw c.in-Ok.ensures.ok (leads_mark files c.args.tree.now c.args.number c.args.mark)
