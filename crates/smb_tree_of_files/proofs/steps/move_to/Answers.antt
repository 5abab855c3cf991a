use Rattle.smb_wire.specs.PathViews.{parts_of}
use Rattle.smb_tree_of_files.proofs.Begun.{leads_moved}
use Rattle.smb_tree_of_files.proofs.steps.move_to.Goals as goal

pub returns-in-Ok : goal.returns-in-Ok
returns-in-Ok c = λ files. rw c.in-Ok.ensures.ok (
    leads_moved files c.args.tree.now c.args.number
    (parts_of c.args.path.now) c.args.path.now.kept.lawful c.in-Ok.ensures.lawful)
