use Rattle.std.proofs.Common.{◌∙◌, arith, ap, length}
use Rattle.smb_tree.specs.Views.{shown}
use Rattle.smb_info.proofs.Turns.{size_small}
use Rattle.smb_info.proofs.Coming.{as_dot, dot_first}
use Rattle.smb_info.proofs.cursor.Cursor.dot.Goals as goal

pub invariant_of-result : goal.invariant_of-result
invariant_of-result g c = record {
  few = size_small (g.T.Tree.content c.args.tree.now) c.args.folder (shown c.in_ok-entry.entry) c.requires.good (c.in_ok-entry.ensures {u = tt});
  short = omega (arith, ap length c.one_dot.ensures);
}

pub returns-clause-some : goal.returns-clause-some
returns-clause-some g c =
    as_dot (g.T.Tree.content c.args.tree.now).rows c.args.folder c.args.self.now.at c.args.self.now.after c.args.self.now.given c.requires.dot
    ∙ dot_first (g.T.Tree.content c.args.tree.now).rows c.args.folder (shown c.in_ok-entry.entry) _ c.one_dot.ensures (c.in_ok-entry.ensures {u = tt})
