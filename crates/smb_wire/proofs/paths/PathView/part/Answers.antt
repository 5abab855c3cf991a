use Rattle.std.proofs.Common.{arith}
use Rattle.smb_wire.specs.Units.{units_of}
use Rattle.smb_wire.proofs.Parting.{ends_count}
use Rattle.smb_wire.proofs.paths.PathView.part.Goals as goal

pub component-requires-clause-within : goal.component-requires-clause-within
component-requires-clause-within c =
    omega (arith, ends_count (units_of c.args.self.now.text) c.args.self.now.ends.places c.args.self.now.ends.count c.args.self.now.kept.ends)
