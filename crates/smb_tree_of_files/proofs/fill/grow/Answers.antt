use Rattle.smb_files.proofs.Goods.{good_resized}
use Rattle.smb_tree_of_files.proofs.fill.grow.Goals as goal

pub returns-in-Ok-clause-good : goal.returns-in-Ok-clause-good
returns-in-Ok-clause-good c = λ good.
    rw c.in-Ok.ensures.ok (good_resized c.args.tree.now c.args.number c.args.size good c.in-Ok.ensures.lawful)
