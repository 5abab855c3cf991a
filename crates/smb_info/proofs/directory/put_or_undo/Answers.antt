use Rattle.std.proofs.Common.{◌≡◌, ℕ, List, ◌++◌, ◌∙◌, ap, length, take, arith}
use Rattle.smb_tree.specs.Content.{Row}
use Rattle.smb_info.specs.Candidates.{Candidate}
use Rattle.smb_info.specs.CandidateViews.{candidate}
use Rattle.smb_info.specs.Cursors.{to_come}
use Rattle.smb_info.specs.DirectoryInformation.{laid}
use Rattle.smb_info.specs.Parts.{reached, sought}
use Rattle.smb_info.proofs.Listings.{is_given}
use Rattle.smb_info.proofs.directory.put_or_undo.Goals as goal

pub put_listing-requires-clause-good : goal.put_listing-requires-clause-good
put_listing-requires-clause-good g c = c.requires.good

pub put_listing-requires-clause-folder : goal.put_listing-requires-clause-folder
put_listing-requires-clause-folder g c = c.requires.folder

pub put_listing-requires-clause-lawful : goal.put_listing-requires-clause-lawful
put_listing-requires-clause-lawful g c = c.requires.lawful

pub put_listing-requires-clause-stands : goal.put_listing-requires-clause-stands
put_listing-requires-clause-stands g c = c.requires.stands

pub put_listing-requires-clause-fits : goal.put_listing-requires-clause-fits
put_listing-requires-clause-fits g c = c.requires.fits

pub returns-in-Ok-clause-ok : goal.returns-in-Ok-clause-ok
returns-in-Ok-clause-ok g c =
    let rows : List Row = (g.T.Tree.content c.args.tree.now).rows in
    c.in-Ok.ensures.ok
    ∙ ap (λ (cs : List Candidate). c.args.out.now.items ++ laid c.args.class cs) (is_given rows c.args.class (sought c.args.search.now) (candidate c.args.first.now) (to_come rows c.args.search.now.folder c.args.cursor.now) c.requires.first)

pub returns-in-Ok-clause-last : goal.returns-in-Ok-clause-last
returns-in-Ok-clause-last g c =
    let rows : List Row = (g.T.Tree.content c.args.tree.now).rows in
    c.in-Ok.ensures.last
    ∙ ap (λ (cs : List Candidate). reached c.args.search.now.last cs) (is_given rows c.args.class (sought c.args.search.now) (candidate c.args.first.now) (to_come rows c.args.search.now.folder c.args.cursor.now) c.requires.first)

pub returns-in-Err-clause-err : goal.returns-in-Err-clause-err
returns-in-Err-clause-err g c =
    let before : c.len-before.result ≡ length c.args.out.now.items = omega (arith, c.len-before.ensures, c.args.out.now.ok.0) in
    c.truncate.ensures.items ∙ ap (λ (n : ℕ). take n c.put_listing.new.out.items) before ∙ c.in-Err.ensures.kept

pub returns-in-Err-clause-why : goal.returns-in-Err-clause-why
returns-in-Err-clause-why g c = c.from.ensures
