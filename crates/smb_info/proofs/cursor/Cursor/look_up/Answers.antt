use Rattle.smb_info.proofs.Coming.{from_first}
use Rattle.smb_info.proofs.cursor.Cursor.look_up.Goals as goal

pub returns-clause-all : goal.returns-clause-all
returns-clause-all g c = from_first (g.T.Tree.content c.args.tree.now).rows c.args.folder c.args.after
