use Rattle.smb_tree.specs.Views.{shown}
use Rattle.smb_held_files.specs.Held.{file_shown}
use Rattle.smb_tree_of_files.proofs.Checked.{entry_is}
use Rattle.smb_tree_of_files.proofs.check.check_one.Goals as goal

pub returns-in-Some-entry : goal.returns-in-Some-entry
returns-in-Some-entry c =
    entry_is c.args.files.now c.args.tree.now c.args.number c.in-Some-entry.view.number (file_shown c.in-Some.file.now)
    (shown c.in-Some-entry.view) c.in-Some-entry.ensures (c.is_as_held.ensures c.if-is_as_held.true) c.in-Some.ensures
