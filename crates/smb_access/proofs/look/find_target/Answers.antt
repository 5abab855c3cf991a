use Rattle.std.proofs.Common.{sym, ◌∙◌}
use Rattle.smb_access.proofs.Trees.{row_seen, target_seen}
use Rattle.smb_access.proofs.look.find_target.Goals as goal

pub returns : goal.returns
returns g c = c.numbered_target.ensures ∙ sym (row_seen (g.T.Tree.content c.args.tree.now).rows _) ∙ target_seen _ _ _ c.requires.apart (sym c.in_ok-number.ensures)
