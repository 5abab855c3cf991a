use Rattle.smb_tree_of_files.proofs.Begun.{leads_on}
use Rattle.smb_tree_of_files.proofs.places.set_one.Goals as goal

pub returns : goal.returns
returns c = leads_on c.args.files.now c.args.tree.now c.set_basic.new.tree c.set_mark.new.tree
    (c.in_ok-set_basic.ensures c.args.files.now) (c.in_ok-set_mark.ensures c.args.files.now)
