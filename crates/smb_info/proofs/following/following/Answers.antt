use Rattle.std.proofs.Common.{List, ◌∷◌, sym, ap, ◌∙◌}
use Rattle.smb_wire.specs.Units.{units_of}
use Rattle.smb_info.specs.Candidates.{Candidate}
use Rattle.smb_info.specs.CandidateViews.{candidate}
use Rattle.smb_info.specs.Parts.{entry_length, sought}
use Rattle.smb_info.specs.Cursors.{to_come}
use Rattle.smb_info.specs.Rests.{one_by_one}
use Rattle.smb_info.proofs.Fronts.{rest_single, rest_many, nothing_fits, none_fits, too_long, not_too_long}
use Rattle.smb_info.proofs.following.following.Goals as goal

pub returns-then-search-clause-none : goal.returns-then-search-clause-none
returns-then-search-clause-none g c =
    ap (λ (cs : List Candidate). one_by_one c.args.class c.args.room cs) (rest_single (sought c.args.search.now) (to_come (g.T.Tree.content c.args.tree.now).rows c.args.search.now.folder c.args.cursor.now) c.if-search.true)
    ∙ nothing_fits c.args.class c.args.room

pub next_match-requires-clause-good : goal.next_match-requires-clause-good
next_match-requires-clause-good g c = c.requires.good

pub next_match-requires-clause-folder : goal.next_match-requires-clause-folder
next_match-requires-clause-folder g c = c.requires.folder

pub next_match-requires-clause-lawful : goal.next_match-requires-clause-lawful
next_match-requires-clause-lawful g c = c.requires.lawful

pub next_match-requires-clause-stands : goal.next_match-requires-clause-stands
next_match-requires-clause-stands g c = c.requires.stands

pub returns-in_default-clause-none : goal.returns-in_default-clause-none
returns-in_default-clause-none g c =
    ap (λ (cs : List Candidate). one_by_one c.args.class c.args.room cs) (rest_many (sought c.args.search.now) (to_come (g.T.Tree.content c.args.tree.now).rows c.args.search.now.folder c.args.cursor.now) c.if-search.false ∙ c.in_default.ensures.none)
    ∙ nothing_fits c.args.class c.args.room

pub returns-then-is_none-clause-none : goal.returns-then-is_none-clause-none
returns-then-is_none-clause-none g c =
    ap (λ (cs : List Candidate). one_by_one c.args.class c.args.room cs) (rest_many (sought c.args.search.now) (to_come (g.T.Tree.content c.args.tree.now).rows c.args.search.now.folder c.args.cursor.now) c.if-search.false ∙ c.in-Some.ensures.some)
    ∙ none_fits c.args.class c.args.room (candidate c.in-Some.next) _ (too_long c.length_within.result c.is_none.result c.args.room (entry_length c.args.class (units_of c.in-Some.next.name)) c.is_none.ensures c.if-is_none.true c.length_within.ensures.none)

pub returns-clause-some : goal.returns-clause-some
returns-clause-some g c =
    rest_many (sought c.args.search.now) (to_come (g.T.Tree.content c.args.tree.now).rows c.args.search.now.folder c.args.cursor.now) c.if-search.false
    ∙ c.in-Some.ensures.some
    ∙ ap (λ (cs : List Candidate). candidate c.in-Some.next ∷ cs) (sym (rest_many (sought c.args.search.now) (to_come (g.T.Tree.content c.args.tree.now).rows c.args.search.now.folder c.next_match.new.self) c.if-search.false))

pub returns-clause-fits : goal.returns-clause-fits
returns-clause-fits g c =
    not_too_long c.length_within.result c.is_none.result c.args.room (entry_length c.args.class (units_of c.in-Some.next.name)) c.is_none.ensures c.if-is_none.false c.length_within.ensures.length c.length_within.ensures.within

pub returns-clause-stands : goal.returns-clause-stands
returns-clause-stands g c = c.in-Some.ensures.stands
