use Rattle.smb_wire.proofs.Pairing.{units_read, bytes_kept}
use Rattle.smb_wire.proofs.units.laws_of_units.Goals as goal

pub returns-clause-read : goal.returns-clause-read
returns-clause-read c = units_read

pub returns-clause-kept : goal.returns-clause-kept
returns-clause-kept c = bytes_kept
