use Rattle.std.proofs.Common.{ap, ◌∙◌}
use Rattle.std.specs.Option.{option_map}
use Rattle.smb_wire.specs.Paths.{folded_path}
use Rattle.smb_wire.specs.PathViews.{parts_of}
use Rattle.smb_tree.specs.Content.{entry_at}
use Rattle.smb_access.specs.Looked.{target_of}
use Rattle.smb_access.proofs.Trees.{above_told, reached_told}
use Rattle.smb_access.proofs.look.find_above.Goals as goal

pub returns-clause-above : goal.returns-clause-above
returns-clause-above g c =
    c.find_target-2.ensures ∙ ap (λ parts. option_map target_of (entry_at (g.T.Tree.content c.args.tree.now).rows (folded_path parts))) c.front.ensures
    ∙ above_told (g.T.Tree.content c.args.tree.now).rows (parts_of c.args.path.now) c.len-depth.result c.len-depth.ensures.len

pub returns-clause-reached : goal.returns-clause-reached
returns-clause-reached g c = reached_told (g.T.Tree.content c.args.tree.now) c.requires (folded_path (parts_of c.args.path.now)) c.find_target-2.result (returns-clause-above g c)
