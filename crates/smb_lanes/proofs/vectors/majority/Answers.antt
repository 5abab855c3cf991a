use Rattle.std.proofs.Common.{◌∙◌, slice_index}
use Rattle.smb_lanes.proofs.Choice.{majority_is}
use Rattle.smb_lanes.proofs.Fours.{majorities}
use Rattle.smb_lanes.proofs.vectors.majority.Goals as goal

pub returns : goal.returns
returns c j h =
    majorities c.args.x c.fits-x.0 c.args.y c.fits-y.0 c.args.z c.fits-z.0 j h
    ∙ majority_is (slice_index c.args.x j) (slice_index c.args.y j) (slice_index c.args.z j)
