use Rattle.std.proofs.Common.{◌*◌, ◌<◌, ◌^◌, length, arith, rules}
use Rattle.smb_body.specs.Create.{create_asked, name_end}
use Rattle.smb_body.proofs.CreateLemmas.{contexts_place_fits}
use Rattle.smb_body.proofs.create.put_create.Goals as goal

pub returns-clause-fits : goal.returns-clause-fits
returns-clause-fits c =
    let long : 2 * length (create_asked c.args.request).name < 256 ^ 2 = omega arith in
    let place = contexts_place_fits (name_end (create_asked c.args.request)) c.args.request.create_contexts.now (omega arith) in
    let later = c.well_formed.0.1.1.1.1.1.1.1 in
    record { fields = search rules; units = c.in_ok-put_parts.ensures.units }
