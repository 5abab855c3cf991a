use Rattle.std.proofs.Common.{sym, ◌∙◌}
use Rattle.smb_info.proofs.Coming.{from_dots, from_name}
use Rattle.smb_info.proofs.cursor.Cursor.behind.Goals as goal

pub returns-in-DotDot-clause-all : goal.returns-in-DotDot-clause-all
returns-in-DotDot-clause-all g c = rw c.in-DotDot.is (c.look_up.ensures.all ∙ sym (from_dots (g.T.Tree.content c.args.tree.now).rows c.args.folder))

pub returns-in-Name-clause-all : goal.returns-in-Name-clause-all
returns-in-Name-clause-all g c = rw c.in-Name.is (c.look_up-in-Name.ensures.all ∙ sym (from_name (g.T.Tree.content c.args.tree.now).rows c.args.folder _))
