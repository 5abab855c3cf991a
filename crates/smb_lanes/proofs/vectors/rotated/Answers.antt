use Rattle.smb_lanes.proofs.Fours.{rotates}
use Rattle.smb_lanes.proofs.vectors.rotated.Goals as goal

pub returns : goal.returns
returns c = rotates c.args.count c.requires.0 c.requires.1 c.args.x c.fits-x.0
