use Rattle.std.proofs.Common.{◌≡◌, Bool, true, is_some, sym, ap, subst, ◌∙◌}
use Rattle.std.specs.Option.{option_copied}
use Rattle.smb_tree.specs.Content.{numbered}
use Rattle.smb_access.specs.declared.open_row.OpenRow.{OpenRow}
use Rattle.smb_entry.specs.Parts.{is_beneath, path_numbered}
use Rattle.smb_entry.proofs.Looks.{IsLooked, first_looked, hit, passed_looked, fewer_left}
use Rattle.smb_access.proofs.Rows.{found}
use Rattle.smb_entry.proofs.beneath.has_open_beneath.Goals as goal

pub loop-next-init : goal.loop-next-init
loop-next-init g c =
    let p : OpenRow → Bool = λ row. is_beneath (path_numbered (g.T.Tree.content c.args.tree.now).rows c.args.above) (path_numbered (g.T.Tree.content c.args.tree.now).rows row.entry) in
    subst (IsLooked p (g.O.Opens.content c.args.opens.now)) (sym c.after-next.ensures) (first_looked p (g.O.Opens.content c.args.opens.now) c.requires.rising)

pub is_entry_beneath-requires-clause-there : goal.is_entry_beneath-requires-clause-there
is_entry_beneath-requires-clause-there g c =
    found (λ row. is_some (numbered (g.T.Tree.content c.args.tree.now).rows row.entry) ≡ true) (g.O.Opens.content c.args.opens.now) c.in-Some.number c.in-Some-get.row.now c.requires.present (sym c.get.ensures ∙ ap option_copied c.in-Some-get.is)

pub returns-then-is_entry_beneath : goal.returns-then-is_entry_beneath
returns-then-is_entry_beneath g c =
    let p : OpenRow → Bool = λ row. is_beneath (path_numbered (g.T.Tree.content c.args.tree.now).rows c.args.above) (path_numbered (g.T.Tree.content c.args.tree.now).rows row.entry) in
    sym (hit p (g.O.Opens.content c.args.opens.now) c.in-Some.number c.in-Some-get.row.now (sym c.get.ensures ∙ ap option_copied c.in-Some-get.is) (sym c.is_entry_beneath.ensures ∙ c.if-is_entry_beneath.true))

pub loop-next-smaller : goal.loop-next-smaller
loop-next-smaller g c =
    fewer_left (g.O.Opens.content c.args.opens.now) c.in-Some.number c.loop-next.next c.after-next-in-Some.result c.in-Some-get.row.now c.in-Some.is (sym c.get.ensures ∙ ap option_copied c.in-Some-get.is) c.after-next-in-Some.ensures

pub loop-next-preserved : goal.loop-next-preserved
loop-next-preserved g c =
    let p : OpenRow → Bool = λ row. is_beneath (path_numbered (g.T.Tree.content c.args.tree.now).rows c.args.above) (path_numbered (g.T.Tree.content c.args.tree.now).rows row.entry) in
    passed_looked p (g.O.Opens.content c.args.opens.now) c.loop-next.next c.after-next-in-Some.result c.in-Some.number c.in-Some-get.row.now c.requires.rising c.loop-next.invariant c.in-Some.is (sym c.get.ensures ∙ ap option_copied c.in-Some-get.is) (sym c.is_entry_beneath.ensures ∙ c.if-is_entry_beneath.false) c.after-next-in-Some.ensures
