use Rattle.smb_files.proofs.Goods.{good_written}
use Rattle.smb_tree_of_files.proofs.fill.put.Goals as goal

pub returns-in-Ok-clause-good : goal.returns-in-Ok-clause-good
returns-in-Ok-clause-good c = λ good.
    rw c.in-Ok.ensures.ok (
    good_written c.args.tree.now c.args.number c.args.offset c.args.part.now good c.in-Ok.ensures.lawful)
