use Rattle.std.proofs.Common.{◌≡◌, ◌≤◌, refl}
use Rattle.std.proofs.lemmas.Result.{IfErr-weaker}
use Rattle.smb_wire.specs.Units.{units_of}
use Rattle.smb_info.specs.CandidateViews.{candidate}
use Rattle.smb_info.specs.Parts.{is_too_long, entry_length}
use Rattle.smb_info.specs.OpenQueries.{IsListRefusal}
use Rattle.smb_info.specs.declared.fault.InfoFault.{InfoFault}
use Rattle.smb_info.specs.declared.fault.InfoFault.TheVariants.{NoMemory}
use Rattle.smb_info.proofs.Fronts.{too_long, not_too_long}
use Rattle.smb_info.proofs.Refusals.{too_small_alone, no_memory_alone, fits_alone, on_ok, refusal_of}
use Rattle.smb_info.proofs.directory.list_from.Goals as goal

pub returns-then-is_none-clause-err : goal.returns-then-is_none-clause-err
returns-then-is_none-clause-err g c = refl

pub returns-then-is_none-clause-why : goal.returns-then-is_none-clause-why
returns-then-is_none-clause-why g c =
    too_small_alone c.args.class c.args.search.now.room (candidate c.args.first.now)
    (too_long c.length_within.result c.is_none.result c.args.search.now.room (entry_length c.args.class (units_of c.args.first.now.name)) c.is_none.ensures c.if-is_none.true c.length_within.ensures.none)

pub put_or_undo-requires-clause-good : goal.put_or_undo-requires-clause-good
put_or_undo-requires-clause-good g c = c.requires.good

pub put_or_undo-requires-clause-folder : goal.put_or_undo-requires-clause-folder
put_or_undo-requires-clause-folder g c = c.requires.folder

pub put_or_undo-requires-clause-first : goal.put_or_undo-requires-clause-first
put_or_undo-requires-clause-first g c = c.requires.first

pub put_or_undo-requires-clause-fits : goal.put_or_undo-requires-clause-fits
put_or_undo-requires-clause-fits g c =
    not_too_long c.length_within.result c.is_none.result c.args.search.now.room (entry_length c.args.class (units_of c.args.first.now.name)) c.is_none.ensures c.if-is_none.false c.length_within.ensures.length c.length_within.ensures.within

pub returns-clause-ok : goal.returns-clause-ok
returns-clause-ok g c = c.put_or_undo.ensures.ok

pub returns-clause-last : goal.returns-clause-last
returns-clause-last g c = c.put_or_undo.ensures.last

pub returns-clause-lawful : goal.returns-clause-lawful
returns-clause-lawful g c =
    let fits : entry_length c.args.class (units_of c.args.first.now.name) ≤ c.args.search.now.room =
    not_too_long c.length_within.result c.is_none.result c.args.search.now.room (entry_length c.args.class (units_of c.args.first.now.name)) c.is_none.ensures c.if-is_none.false c.length_within.ensures.length c.length_within.ensures.within in
    on_ok c.put_or_undo.result (fits_alone c.args.class c.args.search.now.room (candidate c.args.first.now) fits)

pub returns-clause-err : goal.returns-clause-err
returns-clause-err g c = c.put_or_undo.ensures.err

pub returns-clause-why : goal.returns-clause-why
returns-clause-why g c =
    let fits : entry_length c.args.class (units_of c.args.first.now.name) ≤ c.args.search.now.room =
    not_too_long c.length_within.result c.is_none.result c.args.search.now.room (entry_length c.args.class (units_of c.args.first.now.name)) c.is_none.ensures c.if-is_none.false c.length_within.ensures.length c.length_within.ensures.within in
    IfErr-weaker c.put_or_undo.result (λ (f : InfoFault). f ≡ NoMemory) (IsListRefusal (refusal_of (is_too_long c.args.class c.args.search.now.room (candidate c.args.first.now))))
    (λ f e. no_memory_alone c.args.class c.args.search.now.room (candidate c.args.first.now) f fits e) c.put_or_undo.ensures.why
