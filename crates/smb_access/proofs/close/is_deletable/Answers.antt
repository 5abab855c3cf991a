use Rattle.smb_access.proofs.Closing.{root_not_deletable, deletable_by_child}
use Rattle.smb_access.proofs.close.is_deletable.Goals as goal

pub returns-then-number-eq-ROOT : goal.returns-then-number-eq-ROOT
returns-then-number-eq-ROOT g c = root_not_deletable (g.T.Tree.content c.args.tree.now).rows c.args.number c.if-number-eq-ROOT.true

pub returns : goal.returns
returns g c =
    deletable_by_child (g.T.Tree.content c.args.tree.now).rows c.args.number c.child_after.result c.is_none.result c.requires c.if-number-eq-ROOT.false c.child_after.ensures c.is_none.ensures
