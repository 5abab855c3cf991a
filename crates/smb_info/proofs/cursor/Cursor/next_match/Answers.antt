use Rattle.std.proofs.Common.{List, ◌∷◌, ◌∙◌, ap, refl}
use Rattle.smb_wire.specs.Units.{units_of}
use Rattle.smb_tree.specs.Content.{Content}
use Rattle.smb_info.specs.Candidates.{Candidate}
use Rattle.smb_info.specs.CandidateViews.{candidate}
use Rattle.smb_info.specs.Cursors.{to_come, matched}
use Rattle.smb_info.specs.Places.{behind_of}
use Rattle.smb_info.proofs.Found.{match_here, match_later}
use Rattle.smb_info.proofs.Seeking.{nothing_past}
use Rattle.smb_info.proofs.cursor.Cursor.next_match.Goals as goal

pub returns-then-matches-clause-some : goal.returns-then-matches-clause-some
returns-then-matches-clause-some g c =
    let rest : List Candidate = to_come (g.T.Tree.content c.args.tree.now).rows c.args.folder c.next_sought.new.self in
    let this : Candidate = candidate c.in-Some.view in
    c.loop-view.invariant.same
    ∙ c.in-Some.ensures.some
    ∙ match_here c.args.pattern.now (this ∷ rest) rest this c.matches.result refl c.matches.ensures c.if-matches.true

pub returns-then-is_past-clause-none : goal.returns-then-is_past-clause-none
returns-then-is_past-clause-none g c =
    let content : Content = g.T.Tree.content c.args.tree.now in
    let rest : List Candidate = to_come content.rows c.args.folder c.next_sought.new.self in
    let this : Candidate = candidate c.in-Some.view in
    c.loop-view.invariant.same
    ∙ c.in-Some.ensures.some
    ∙ match_later c.args.pattern.now (this ∷ rest) rest this c.matches.result refl c.matches.ensures c.if-matches.false
    ∙ ap (matched c.args.pattern.now) c.in-Some.ensures.behind
    ∙ nothing_past content c.args.folder c.requires.good c.requires.folder c.requires.lawful c.args.pattern.now (behind_of c.in-Some.view.listed (units_of c.in-Some.view.name)) (c.is_past.ensures c.if-is_past.true)

pub loop-view-preserved : goal.loop-view-preserved
loop-view-preserved g c =
    let rest : List Candidate = to_come (g.T.Tree.content c.args.tree.now).rows c.args.folder c.next_sought.new.self in
    let this : Candidate = candidate c.in-Some.view in
    record {
      stands = c.in-Some.ensures.stands;
      same = c.loop-view.invariant.same
          ∙ c.in-Some.ensures.some
          ∙ match_later c.args.pattern.now (this ∷ rest) rest this c.matches.result refl c.matches.ensures c.if-matches.false;
    }

pub returns-clause-none : goal.returns-clause-none
returns-clause-none g c = c.loop-view.invariant.same ∙ c.in_default.ensures.none
