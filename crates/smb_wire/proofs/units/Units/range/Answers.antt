use Rattle.smb_wire.proofs.Pairing.{units_range}
use Rattle.smb_wire.proofs.units.Units.range.Goals as goal

pub returns : goal.returns
returns c = units_range c.args.self.pairs.now c.args.from c.args.to
