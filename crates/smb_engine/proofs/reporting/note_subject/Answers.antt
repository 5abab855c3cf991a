use Rattle.std.proofs.Common.{refl}
use Rattle.smb_engine.proofs.reporting.note_subject.Goals as goal

pub returns-in-Some-file_name-clause-acting : goal.returns-in-Some-file_name-clause-acting
returns-in-Some-file_name-clause-acting g c dialect =
    let e = c.acting_on-open_number.ensures c.args.arrival.connection_id c.args.arrival.moment dialect in
    rw (e.0, e.1) refl

pub returns-in-None-file_name-clause-acting : goal.returns-in-None-file_name-clause-acting
returns-in-None-file_name-clause-acting g c dialect =
    let e = c.acting_on-open_number.ensures c.args.arrival.connection_id c.args.arrival.moment dialect in
    rw (e.0, e.1) refl

pub returns-in-None-clause-acting : goal.returns-in-None-clause-acting
returns-in-None-clause-acting g c dialect =
    let e = c.acting_on-open_number.ensures c.args.arrival.connection_id c.args.arrival.moment dialect in
    rw (e.0, e.1) refl
