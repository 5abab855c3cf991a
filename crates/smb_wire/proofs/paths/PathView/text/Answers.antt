use Rattle.std.proofs.Common.{sym}
use Rattle.smb_wire.proofs.Splits.{joined_components}
use Rattle.smb_wire.specs.Units.{units_of}
use Rattle.smb_wire.proofs.paths.PathView.text.Goals as goal

pub returns-clause-joined : goal.returns-clause-joined
returns-clause-joined c = sym (joined_components (units_of c.args.self.now.text))
