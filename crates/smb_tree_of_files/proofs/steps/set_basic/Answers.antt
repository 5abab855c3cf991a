use Rattle.smb_tree_of_files.proofs.Begun.{leads_basic}
use Rattle.smb_tree_of_files.proofs.steps.set_basic.Goals as goal

pub returns-in-Ok : goal.returns-in-Ok
returns-in-Ok c = λ files. rw c.in-Ok.ensures.ok (leads_basic files c.args.tree.now c.args.number c.args.basic)
