use Rattle.std.proofs.Common.{refl}
use Rattle.smb_access.proofs.Above.{skip_all}
use Rattle.smb_access.proofs.Keyed.{skip_to}
use Rattle.smb_access.proofs.plain.place_after.Goals as goal

pub returns-in-Some-clause-entry : goal.returns-in-Some-clause-entry
returns-in-Some-clause-entry c entry = skip_to c.args.rows.now.entries c.args.number c.in-Some.place entry _ c.requires refl c.in-Some.ensures.value c.in-Some.ensures.found

pub returns-in-Some-clause-all : goal.returns-in-Some-clause-all
returns-in-Some-clause-all c = skip_all c.args.rows.now.entries c.args.number c.in-Some.place _ c.requires refl c.in-Some.ensures.value c.in-Some.ensures.found
