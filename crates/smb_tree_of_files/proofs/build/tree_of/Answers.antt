use Rattle.smb_tree_of_files.proofs.build.tree_of.Goals as goal

pub returns : goal.returns
returns c =
    let made = c.in_ok-fill_all.ensures c.args.limits c.args.capacity c.in_ok-tree.ensures in record {
      good = made.good;
      lawful = made.lawful;
      files = made.files;
      limits = (made.limits, made.capacity);
    }
