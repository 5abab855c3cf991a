use Rattle.std.proofs.Common.{sym, ◌∙◌, arith}
use Rattle.smb_info.proofs.Seeking.{sought_on}
use Rattle.smb_info.proofs.cursor.Cursor.seek.Goals as goal

pub returns-then-is_before-clause-same : goal.returns-then-is_before-clause-same
returns-then-is_before-clause-same g c =
    (sought_on (g.T.Tree.content c.args.tree.now) c.args.folder c.requires.good c.requires.folder c.requires.lawful c.args.pattern.now c.args.self.now.at c.args.self.now.after c.args.self.now.given c.in-Some.name _
    c.in-Child.is (omega (arith, c.if-self-ne0.false)) (c.in-Some.ensures {u = tt}) (sym c.is_before.ensures ∙ c.if-is_before.true) c.look_up.ensures.all).0

pub returns-then-is_before-clause-fewer : goal.returns-then-is_before-clause-fewer
returns-then-is_before-clause-fewer g c =
    (sought_on (g.T.Tree.content c.args.tree.now) c.args.folder c.requires.good c.requires.folder c.requires.lawful c.args.pattern.now c.args.self.now.at c.args.self.now.after c.args.self.now.given c.in-Some.name _
    c.in-Child.is (omega (arith, c.if-self-ne0.false)) (c.in-Some.ensures {u = tt}) (sym c.is_before.ensures ∙ c.if-is_before.true) c.look_up.ensures.all).1
