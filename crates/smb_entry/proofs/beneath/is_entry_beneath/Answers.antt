use Rattle.std.proofs.Common.{◌≡◌, ◌==◌, false, not, arith, ◌∙◌}
use Rattle.std.proofs.lemmas.Bool.Decides.{nat_tests}
use Rattle.smb_entry.proofs.Under.{beneath_other, beneath_itself}
use Rattle.smb_entry.proofs.beneath.is_entry_beneath.Goals as goal

pub returns-then-entry-above : goal.returns-then-entry-above
returns-then-entry-above g c = beneath_other (g.T.Tree.content c.args.tree.now).rows c.args.above c.args.entry c.is_within.result c.requires.good.apart c.requires.above c.requires.there c.if-entry-above.true c.is_within.ensures

pub returns-else-entry-above : goal.returns-else-entry-above
returns-else-entry-above g c =
    let none : not (c.args.entry == c.args.above) ≡ false = grind (arith, nat_tests, c.if-entry-above.false) in
    none ∙ beneath_itself (g.T.Tree.content c.args.tree.now).rows c.args.above c.args.entry c.if-entry-above.false
