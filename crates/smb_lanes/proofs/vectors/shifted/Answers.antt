use Rattle.smb_lanes.proofs.Fours.{shifts}
use Rattle.smb_lanes.proofs.vectors.shifted.Goals as goal

pub returns : goal.returns
returns c = shifts c.args.count c.args.x c.fits-x.0
