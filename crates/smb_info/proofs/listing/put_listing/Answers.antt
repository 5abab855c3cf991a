use Rattle.std.proofs.Common.{List, arith, ◌∙◌, ap, length, rules}
use Rattle.std.proofs.lemmas.List.{take_all}
use Rattle.smb_tree.specs.Content.{Row}
use Rattle.smb_info.specs.Candidates.{Candidate}
use Rattle.smb_info.specs.CandidateViews.{candidate}
use Rattle.smb_info.specs.Parts.{sought}
use Rattle.smb_info.specs.Cursors.{to_come}
use Rattle.smb_info.specs.Rests.{rest_of, one_by_one}
use Rattle.smb_info.proofs.Listings.{put_first, reached_first, put_more, reached_more, put_last, reached_last, kept_by, near_by, some_left}
use Rattle.smb_info.proofs.listing.put_listing.Goals as goal

pub invariant_of-at : goal.invariant_of-at
invariant_of-at g c = record { few = c.args.first.now.few; short = c.args.first.now.short }

pub room_behind-left-requires : goal.room_behind-left-requires
room_behind-left-requires g c = omega (arith, c.requires.fits)

pub loop-next-init : goal.loop-next-init
loop-next-init g c =
    let rows : List Row = (g.T.Tree.content c.args.tree.now).rows in
    let first : Candidate = candidate c.args.first.now in
    let rest : List Candidate = rest_of (sought c.args.search.now) (to_come rows c.args.search.now.folder c.args.cursor.now) in
    record {
      short = omega (arith, c.requires.fits);
      near = near_by c.args.class c.args.search.now.room c.room_behind-left.result first.name (omega arith) c.room_behind-left.ensures;
      small = omega (arith, c.room_behind-left.ensures);
      all = put_first c.args.class c.args.search.now.room c.room_behind-left.result first rest c.args.out.now.items c.requires.fits c.room_behind-left.ensures;
      last = reached_first c.args.class c.args.search.now.room c.room_behind-left.result first rest c.args.search.now.last c.requires.fits c.room_behind-left.ensures;
      stands = c.requires.stands;
      kept = take_all (length c.args.out.now.items) c.args.out.now.items (omega arith);
    }

pub following-requires-clause-good : goal.following-requires-clause-good
following-requires-clause-good g c = c.requires.good

pub following-requires-clause-folder : goal.following-requires-clause-folder
following-requires-clause-folder g c = c.requires.folder

pub following-requires-clause-lawful : goal.following-requires-clause-lawful
following-requires-clause-lawful g c = c.requires.lawful

pub following-requires-clause-stands : goal.following-requires-clause-stands
following-requires-clause-stands g c = c.loop-next.invariant.stands

pub put_followed-requires : goal.put_followed-requires
put_followed-requires g c =
    c.loop-next.invariant.near (some_left c.args.class c.loop-next.left (candidate c.in-Some.next).name c.in-Some.ensures.fits)

pub returns-in_err-put_followed-clause-ok : goal.returns-in_err-put_followed-clause-ok
returns-in_err-put_followed-clause-ok g c = search rules

pub returns-in_err-put_followed-clause-last : goal.returns-in_err-put_followed-clause-last
returns-in_err-put_followed-clause-last g c = search rules

pub returns-in_err-put_followed-clause-kept : goal.returns-in_err-put_followed-clause-kept
returns-in_err-put_followed-clause-kept g c =
    kept_by c.args.out.now.items c.loop-next.out.items c.put_followed.new.out.items c.loop-next.invariant.kept c.put_followed.ensures.kept

pub room_behind-left-requires-in-Some : goal.room_behind-left-requires-in-Some
room_behind-left-requires-in-Some g c = omega (arith, c.in-Some.ensures.fits, c.loop-next.invariant.small)

pub loop-next-smaller : goal.loop-next-smaller
loop-next-smaller g c = let more = ap length c.in-Some.ensures.some in omega (arith, more)

pub loop-next-preserved : goal.loop-next-preserved
loop-next-preserved g c =
    let rows : List Row = (g.T.Tree.content c.args.tree.now).rows in
    let at : Candidate = candidate c.loop-next.at in
    let next : Candidate = candidate c.in-Some.next in
    let rest : List Candidate = rest_of (sought c.args.search.now) (to_come rows c.args.search.now.folder c.loop-next.cursor) in
    let more : List Candidate = rest_of (sought c.args.search.now) (to_come rows c.args.search.now.folder c.following.new.cursor) in
    let fits = c.in-Some.ensures.fits in
    let left = c.room_behind-left-in-Some.ensures in
    record {
      short = omega (arith, fits, c.loop-next.invariant.small);
      near = near_by c.args.class c.loop-next.left c.room_behind-left-in-Some.result next.name c.loop-next.invariant.small left;
      small = omega (arith, left, c.loop-next.invariant.small);
      all = put_more c.args.class c.loop-next.left c.room_behind-left-in-Some.result at next rest more c.loop-next.out.items c.put_followed.new.out.items c.in_ok-put_followed.ensures.ok c.in-Some.ensures.some fits left ∙ c.loop-next.invariant.all;
      last = reached_more c.args.class c.loop-next.left c.room_behind-left-in-Some.result at next rest more c.args.search.now.last c.in-Some.ensures.some fits left ∙ c.loop-next.invariant.last;
      stands = c.in-Some.ensures.stands;
      kept = kept_by c.args.out.now.items c.loop-next.out.items c.put_followed.new.out.items c.loop-next.invariant.kept c.put_followed.ensures.kept;
    }

pub put_last-requires : goal.put_last-requires
put_last-requires g c = c.loop-next.invariant.short

pub returns-in_err-put_last-clause-ok : goal.returns-in_err-put_last-clause-ok
returns-in_err-put_last-clause-ok g c = search rules

pub returns-in_err-put_last-clause-last : goal.returns-in_err-put_last-clause-last
returns-in_err-put_last-clause-last g c = search rules

pub returns-in_err-put_last-clause-kept : goal.returns-in_err-put_last-clause-kept
returns-in_err-put_last-clause-kept g c =
    kept_by c.args.out.now.items c.loop-next.out.items c.put_last.new.out.items c.loop-next.invariant.kept c.put_last.ensures.kept

pub returns-clause-ok : goal.returns-clause-ok
returns-clause-ok g c =
    let rows : List Row = (g.T.Tree.content c.args.tree.now).rows in
    let rest : List Candidate = rest_of (sought c.args.search.now) (to_come rows c.args.search.now.folder c.loop-next.cursor) in
    put_last c.args.class (candidate c.loop-next.at) (one_by_one c.args.class c.loop-next.left rest) c.loop-next.out.items c.put_last.new.out.items c.in_ok-put_last.ensures.ok c.in_default.ensures.none ∙ c.loop-next.invariant.all

pub returns-clause-last : goal.returns-clause-last
returns-clause-last g c =
    let rows : List Row = (g.T.Tree.content c.args.tree.now).rows in
    let rest : List Candidate = rest_of (sought c.args.search.now) (to_come rows c.args.search.now.folder c.loop-next.cursor) in
    c.behind.ensures ∙ reached_last (candidate c.loop-next.at) (one_by_one c.args.class c.loop-next.left rest) c.args.search.now.last c.in_default.ensures.none ∙ c.loop-next.invariant.last

pub returns-clause-kept : goal.returns-clause-kept
returns-clause-kept g c =
    kept_by c.args.out.now.items c.loop-next.out.items c.put_last.new.out.items c.loop-next.invariant.kept c.put_last.ensures.kept
