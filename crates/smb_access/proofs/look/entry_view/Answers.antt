use Rattle.smb_access.proofs.Trees.{shown_small}
use Rattle.smb_access.proofs.look.entry_view.Goals as goal

pub view_of-requires : goal.view_of-requires
view_of-requires g c = shown_small (g.T.Tree.content c.args.tree.now) c.requires c.args.number _ c.in_ok-entry.ensures
