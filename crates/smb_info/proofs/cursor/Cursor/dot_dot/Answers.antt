use Rattle.std.proofs.Common.{◌∙◌, sym, arith, ap, length, List, ◌∷◌}
use Rattle.smb_tree.specs.Views.{shown}
use Rattle.smb_wire.specs.Units.{units_of}
use Rattle.smb_tree.specs.Content.{Row}
use Rattle.smb_access.specs.declared.scan.ScanLast.TheVariants as last
use Rattle.smb_info.specs.Candidates.{Candidate}
use Rattle.smb_info.proofs.Turns.{size_small, around_there}
use Rattle.smb_info.proofs.Coming.{as_dot_dot, dot_dot_first}
use Rattle.smb_info.proofs.cursor.Cursor.dot_dot.Goals as goal

pub returns-in_err-entry-clause-none : goal.returns-in_err-entry-clause-none
returns-in_err-entry-clause-none g c =
    absurd (around_there (g.T.Tree.content c.args.tree.now) c.args.folder (shown c.in_ok-own.own) c.requires.good (c.in_ok-own.ensures {u = tt}) (c.in_err-entry.ensures {u = tt}))

pub invariant_of-result : goal.invariant_of-result
invariant_of-result g c = record {
  few = size_small (g.T.Tree.content c.args.tree.now) c.in_ok-own.own.parent (shown c.in_ok-entry.entry) c.requires.good (c.in_ok-entry.ensures {u = tt});
  short = omega (arith, ap length c.two_dots.ensures);
}

pub returns-clause-some : goal.returns-clause-some
returns-clause-some g c =
    let rows : List Row = (g.T.Tree.content c.args.tree.now).rows in
    as_dot_dot rows c.args.folder c.args.self.now.at c.args.self.now.after c.args.self.now.given c.requires.dot_dot
    ∙ dot_dot_first (g.T.Tree.content c.args.tree.now) c.args.folder (shown c.in_ok-own.own) (shown c.in_ok-entry.entry) _ c.requires.good c.two_dots.ensures (c.in_ok-own.ensures {u = tt}) (c.in_ok-entry.ensures {u = tt})
    ∙ ap (λ (cs : List Candidate). record { behind = last.DotDot; name = units_of c.two_dots.result; entry = shown c.in_ok-entry.entry } ∷ cs) (sym c.look_up.ensures.all)
