use Rattle.smb_tree_of_files.proofs.Begun.{leads_on}
use Rattle.smb_tree_of_files.proofs.build.put_entries.Goals as goal

pub returns : goal.returns
returns c =
    let files = c.args.files.now in
    let tree = c.args.tree.now in
    leads_on files tree c.place_all.new.tree c.set_all.new.tree
    (leads_on files tree c.skip_to.new.tree c.place_all.new.tree
    (leads_on files tree c.add_all.new.tree c.skip_to.new.tree c.in_ok-add_all.ensures (c.skip_to.ensures files))
    c.in_ok-place_all.ensures) c.in_ok-set_all.ensures
