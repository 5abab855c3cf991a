use Rattle.std.proofs.Common.{sym, ◌∙◌}
use Rattle.smb_info.specs.CandidateViews.{candidate}
use Rattle.smb_info.proofs.Found.{match_end}
use Rattle.smb_info.proofs.Seeking.{comes_behind, none_by, some_by}
use Rattle.smb_info.proofs.cursor.Cursor.next_sought.Goals as goal

pub returns-clause-none : goal.returns-clause-none
returns-clause-none g c = none_by c.next.result (λ e. sym c.seek.ensures.same ∙ match_end c.args.pattern.now _ e) c.next.ensures.none

pub returns-clause-behind : goal.returns-clause-behind
returns-clause-behind g c =
    some_by c.next.result
    (λ v e. comes_behind (g.T.Tree.content c.args.tree.now) c.args.folder c.requires.good c.requires.folder c.seek.new.self.at c.seek.new.self.after c.seek.new.self.given (candidate v) _ e)
    c.next.ensures.some
