use Rattle.std.proofs.Common.{◌∙◌}
use Rattle.smb_wire.specs.Paths.{folded_path}
use Rattle.smb_wire.specs.PathViews.{parts_of}
use Rattle.smb_entry.specs.Parts.{path_numbered}
use Rattle.smb_entry.proofs.Renaming.{way_is}
use Rattle.smb_entry.proofs.rename.look_up_rename.Goals as goal

pub returns : goal.returns
returns g c =
    way_is (g.T.Tree.content c.args.tree.now).rows (path_numbered (g.T.Tree.content c.args.tree.now).rows c.args.entry) (folded_path (parts_of c.args.path.now)) c.find_target-target.result c.find_above-above.result c.is_path_beneath.result c.is_folder_target.result c.is_pending.result c.find_target-target.ensures c.find_above-above.ensures.above c.is_path_beneath.ensures (c.is_folder_target.ensures ∙ c.find_above-above.ensures.reached) c.is_pending.ensures
