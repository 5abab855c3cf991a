use Rattle.std.proofs.Common.{sym, ◌∙◌}
use Rattle.smb_access.proofs.Closing.{due_not, due_so, cleared_not, cleared_so, deletable_not_root}
use Rattle.smb_access.proofs.close.remove_if_delete_pending.Goals as goal

pub returns-then-is_some-clause-removed : goal.returns-then-is_some-clause-removed
returns-then-is_some-clause-removed g c =
    sym (due_not (g.T.Tree.content c.args.tree.now) (g.O.Opens.content c.args.opens.now) c.args.number c.on_entry.result c.on_entry.ensures (sym c.is_some.ensures ∙ c.if-is_some.true))

pub returns-then-is_some-clause-tree : goal.returns-then-is_some-clause-tree
returns-then-is_some-clause-tree g c =
    cleared_not (g.T.Tree.content c.args.tree.now) (g.O.Opens.content c.args.opens.now) c.args.number (due_not (g.T.Tree.content c.args.tree.now) (g.O.Opens.content c.args.opens.now) c.args.number c.on_entry.result c.on_entry.ensures (sym c.is_some.ensures ∙ c.if-is_some.true))

pub remove-requires : goal.remove-requires
remove-requires g c =
    deletable_not_root (g.T.Tree.content c.args.tree.now).rows c.args.number (c.requires (sym c.has_mark.ensures ∙ c.if-not-has_mark.false))

pub returns-clause-removed : goal.returns-clause-removed
returns-clause-removed g c =
    sym (due_so (g.T.Tree.content c.args.tree.now) (g.O.Opens.content c.args.opens.now) c.args.number c.on_entry.result c.on_entry.ensures (sym c.is_some.ensures ∙ c.if-is_some.false) (sym c.has_mark.ensures ∙ c.if-not-has_mark.false))

pub returns-clause-tree : goal.returns-clause-tree
returns-clause-tree g c =
    c.in-Ok.ensures.ok ∙ cleared_so (g.T.Tree.content c.args.tree.now) (g.O.Opens.content c.args.opens.now) c.args.number (due_so (g.T.Tree.content c.args.tree.now) (g.O.Opens.content c.args.opens.now) c.args.number c.on_entry.result c.on_entry.ensures (sym c.is_some.ensures ∙ c.if-is_some.false) (sym c.has_mark.ensures ∙ c.if-not-has_mark.false))
