use Rattle.std.proofs.Common.{◌≡◌, List, refl, ◌∙◌, rules, ◌≤◌}
use Rattle.smb_tree.specs.Content.{Row}
use Rattle.smb_info.specs.Asks.{list_asked}
use Rattle.smb_info.specs.CandidateViews.{candidate}
use Rattle.smb_info.specs.Cursors.{to_come}
use Rattle.smb_info.specs.DirectoryInformation.{directory_length}
use Rattle.smb_info.specs.Parts.{Sought, sought_by}
use Rattle.smb_info.specs.Queries.{ListAsked, list_fault}
use Rattle.smb_info.specs.OpenQueries.{IsListRefusal}
use Rattle.smb_info.proofs.Found.{matched_behind}
use Rattle.smb_info.proofs.Refusals.{bad_class, bad_pattern, too_small, same_sought, unmatched_refusal, refused_first, not_refused, bytes_are, scan_is, on_err, same_err}
use Rattle.smb_info.proofs.directory.list_of.Goals as goal

pub returns-in_default-clause-err : goal.returns-in_default-clause-err
returns-in_default-clause-err g c = refl

pub returns-in_default-clause-why : goal.returns-in_default-clause-why
returns-in_default-clause-why g c =
    let rows : List Row = (g.T.Tree.content c.args.tree.now).rows in
    let ask : ListAsked = list_asked c.args.ask.now in
    bad_class rows c.args.folder c.args.scan.now ask (c.in_default.ensures {u = tt})

pub returns-in_default-of-clause-err : goal.returns-in_default-of-clause-err
returns-in_default-of-clause-err g c = refl

pub returns-in_default-of-clause-why : goal.returns-in_default-of-clause-why
returns-in_default-of-clause-why g c =
    let rows : List Row = (g.T.Tree.content c.args.tree.now).rows in
    let ask : ListAsked = list_asked c.args.ask.now in
    bad_pattern rows c.args.folder c.args.scan.now ask c.in-Some.class (c.in-Some.ensures {u = tt}) (c.in_default-of.ensures {u = tt}).some

pub returns-then-ask-fixed_length-clause-err : goal.returns-then-ask-fixed_length-clause-err
returns-then-ask-fixed_length-clause-err g c = refl

pub returns-then-ask-fixed_length-clause-why : goal.returns-then-ask-fixed_length-clause-why
returns-then-ask-fixed_length-clause-why g c =
    let rows : List Row = (g.T.Tree.content c.args.tree.now).rows in
    let ask : ListAsked = list_asked c.args.ask.now in
    too_small rows c.args.folder c.args.scan.now ask c.in-Some.class (c.in-Some.ensures {u = tt}) (c.in-Some-of.ensures {u = tt}).some (rw (← c.fixed_length.ensures) c.if-ask-fixed_length.true)

pub pattern_by-name-requires : goal.pattern_by-name-requires
pattern_by-name-requires g c = (c.in-Some-of.ensures {u = tt}).units

pub scan_by-next-requires : goal.scan_by-next-requires
scan_by-next-requires g c = c.pattern_by-name.ensures

pub next_match-requires-clause-good : goal.next_match-requires-clause-good
next_match-requires-clause-good g c = c.requires.good

pub next_match-requires-clause-folder : goal.next_match-requires-clause-folder
next_match-requires-clause-folder g c = c.requires.folder

pub next_match-requires-clause-lawful : goal.next_match-requires-clause-lawful
next_match-requires-clause-lawful g c = c.requires.lawful

pub next_match-requires-clause-stands : goal.next_match-requires-clause-stands
next_match-requires-clause-stands g c = c.behind-cursor.ensures.stands

pub unmatched-requires : goal.unmatched-requires
unmatched-requires g c = c.scan_by-next.ensures

pub returns-in_default-next_match-clause-err : goal.returns-in_default-next_match-clause-err
returns-in_default-next_match-clause-err g c = refl

pub returns-in_default-next_match-clause-why : goal.returns-in_default-next_match-clause-why
returns-in_default-next_match-clause-why g c =
    let rows : List Row = (g.T.Tree.content c.args.tree.now).rows in
    let ask : ListAsked = list_asked c.args.ask.now in
    let want : Sought = record { folder = c.args.folder; pattern = c.of-pattern.result; last = c.scan_by-next.result.last; single = c.wants_one.result; room = c.args.ask.now.room } in
    let same : want ≡ sought_by c.args.folder c.args.scan.now ask = same_sought c.args.folder c.args.ask.now.room c.args.scan.now ask c.of-pattern.result c.scan_by-next.result c.wants_one.result (c.of-pattern.ensures ∙ c.of_name.ensures ∙ c.pattern_by-name.ensures) c.scan_by-next.ensures c.wants_one.ensures refl in
    let room : directory_length c.in-Some.class ≤ c.args.ask.now.room = rw (← c.fixed_length.ensures) c.if-ask-fixed_length.false in
    unmatched_refusal rows c.args.folder c.args.scan.now ask c.in-Some.class want c.unmatched.result (c.in-Some.ensures {u = tt}) (c.in-Some-of.ensures {u = tt}).some room same (matched_behind rows c.args.folder _ _ _ c.behind-cursor.ensures.all ∙ c.in_default-next_match.ensures.none) c.unmatched.ensures

pub list_from-requires-clause-good : goal.list_from-requires-clause-good
list_from-requires-clause-good g c = c.requires.good

pub list_from-requires-clause-folder : goal.list_from-requires-clause-folder
list_from-requires-clause-folder g c = c.requires.folder

pub list_from-requires-clause-lawful : goal.list_from-requires-clause-lawful
list_from-requires-clause-lawful g c = c.requires.lawful

pub list_from-requires-clause-stands : goal.list_from-requires-clause-stands
list_from-requires-clause-stands g c = c.in-Some-next_match.ensures.stands

pub list_from-requires-clause-first : goal.list_from-requires-clause-first
list_from-requires-clause-first g c = matched_behind (g.T.Tree.content c.args.tree.now).rows c.args.folder _ _ _ c.behind-cursor.ensures.all ∙ c.in-Some-next_match.ensures.some

pub returns-in_err-last-clause-ok : goal.returns-in_err-last-clause-ok
returns-in_err-last-clause-ok g c = search rules

pub returns-in_err-last-clause-scan : goal.returns-in_err-last-clause-scan
returns-in_err-last-clause-scan g c = search rules

pub returns-in_err-last-clause-lawful : goal.returns-in_err-last-clause-lawful
returns-in_err-last-clause-lawful g c = search rules

pub returns-in_err-last-clause-err : goal.returns-in_err-last-clause-err
returns-in_err-last-clause-err g c = on_err c.from_residual.result c.in_err-last.ensures.err

pub returns-in_err-last-clause-why : goal.returns-in_err-last-clause-why
returns-in_err-last-clause-why g c =
    let rows : List Row = (g.T.Tree.content c.args.tree.now).rows in
    let ask : ListAsked = list_asked c.args.ask.now in
    let want : Sought = record { folder = c.args.folder; pattern = c.of-pattern.result; last = c.scan_by-next.result.last; single = c.wants_one.result; room = c.args.ask.now.room } in
    let same : want ≡ sought_by c.args.folder c.args.scan.now ask = same_sought c.args.folder c.args.ask.now.room c.args.scan.now ask c.of-pattern.result c.scan_by-next.result c.wants_one.result (c.of-pattern.ensures ∙ c.of_name.ensures ∙ c.pattern_by-name.ensures) c.scan_by-next.ensures c.wants_one.ensures refl in
    let room : directory_length c.in-Some.class ≤ c.args.ask.now.room = rw (← c.fixed_length.ensures) c.if-ask-fixed_length.false in
    let why : IsListRefusal (list_fault rows c.args.folder c.args.scan.now ask) c.in_err-last.field-0.0 = refused_first rows c.args.folder c.args.scan.now ask c.in-Some.class want (candidate c.in-Some-next_match.first) (to_come rows c.args.folder c.next_match.new.self) c.in_err-last.field-0.0 (c.in-Some.ensures {u = tt}) (c.in-Some-of.ensures {u = tt}).some room same (matched_behind rows c.args.folder _ _ _ c.behind-cursor.ensures.all ∙ c.in-Some-next_match.ensures.some) c.in_err-last.ensures.why in
    same_err c.from_residual.result c.in_err-last.field-0.0 (IsListRefusal (list_fault rows c.args.folder c.args.scan.now ask)) c.from_residual.ensures.1 why

pub returns-clause-ok : goal.returns-clause-ok
returns-clause-ok g c =
    let rows : List Row = (g.T.Tree.content c.args.tree.now).rows in
    let ask : ListAsked = list_asked c.args.ask.now in
    let want : Sought = record { folder = c.args.folder; pattern = c.of-pattern.result; last = c.scan_by-next.result.last; single = c.wants_one.result; room = c.args.ask.now.room } in
    let same : want ≡ sought_by c.args.folder c.args.scan.now ask = same_sought c.args.folder c.args.ask.now.room c.args.scan.now ask c.of-pattern.result c.scan_by-next.result c.wants_one.result (c.of-pattern.ensures ∙ c.of_name.ensures ∙ c.pattern_by-name.ensures) c.scan_by-next.ensures c.wants_one.ensures refl in
    bytes_are rows c.args.folder c.args.scan.now ask c.in-Some.class want c.args.out.now.items c.list_from.new.out.items (c.in-Some.ensures {u = tt}) same c.in_ok-last.ensures.ok

pub returns-clause-scan : goal.returns-clause-scan
returns-clause-scan g c =
    let rows : List Row = (g.T.Tree.content c.args.tree.now).rows in
    let ask : ListAsked = list_asked c.args.ask.now in
    let want : Sought = record { folder = c.args.folder; pattern = c.of-pattern.result; last = c.scan_by-next.result.last; single = c.wants_one.result; room = c.args.ask.now.room } in
    let same : want ≡ sought_by c.args.folder c.args.scan.now ask = same_sought c.args.folder c.args.ask.now.room c.args.scan.now ask c.of-pattern.result c.scan_by-next.result c.wants_one.result (c.of-pattern.ensures ∙ c.of_name.ensures ∙ c.pattern_by-name.ensures) c.scan_by-next.ensures c.wants_one.ensures refl in
    scan_is rows c.args.folder c.args.scan.now ask c.in-Some.class want c.scan_by-next.result c.in_ok-last.last (c.in-Some.ensures {u = tt}) same c.scan_by-next.ensures c.in_ok-last.ensures.last

pub returns-clause-lawful : goal.returns-clause-lawful
returns-clause-lawful g c =
    let rows : List Row = (g.T.Tree.content c.args.tree.now).rows in
    let ask : ListAsked = list_asked c.args.ask.now in
    let want : Sought = record { folder = c.args.folder; pattern = c.of-pattern.result; last = c.scan_by-next.result.last; single = c.wants_one.result; room = c.args.ask.now.room } in
    let same : want ≡ sought_by c.args.folder c.args.scan.now ask = same_sought c.args.folder c.args.ask.now.room c.args.scan.now ask c.of-pattern.result c.scan_by-next.result c.wants_one.result (c.of-pattern.ensures ∙ c.of_name.ensures ∙ c.pattern_by-name.ensures) c.scan_by-next.ensures c.wants_one.ensures refl in
    let room : directory_length c.in-Some.class ≤ c.args.ask.now.room = rw (← c.fixed_length.ensures) c.if-ask-fixed_length.false in
    not_refused rows c.args.folder c.args.scan.now ask c.in-Some.class want (candidate c.in-Some-next_match.first) (to_come rows c.args.folder c.next_match.new.self) (c.in-Some.ensures {u = tt}) (c.in-Some-of.ensures {u = tt}).some room same (matched_behind rows c.args.folder _ _ _ c.behind-cursor.ensures.all ∙ c.in-Some-next_match.ensures.some) c.in_ok-last.ensures.lawful
