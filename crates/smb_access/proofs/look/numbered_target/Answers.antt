use Rattle.std.proofs.Common.{Some, ap, ◌∙◌}
use Rattle.std.specs.Option.{option_map}
use Rattle.smb_access.proofs.Trees.{row_seen, seen_target}
use Rattle.smb_access.proofs.look.numbered_target.Goals as goal

pub returns-in_err-entry : goal.returns-in_err-entry
returns-in_err-entry g c = c.from_residual.ensures ∙ ap (option_map seen_target) c.in_err-entry.ensures ∙ row_seen (g.T.Tree.content c.args.tree.now).rows _

pub returns : goal.returns
returns g c = ap Some c.target_of.ensures ∙ ap (option_map seen_target) c.in_ok-entry.ensures ∙ row_seen (g.T.Tree.content c.args.tree.now).rows _
