use Rattle.std.proofs.Common.{◌∙◌, slice_index}
use Rattle.smb_lanes.proofs.Choice.{choice_is}
use Rattle.smb_lanes.proofs.Fours.{choices, lane_fits}
use Rattle.smb_lanes.proofs.vectors.choice.Goals as goal

pub returns : goal.returns
returns c j h =
    choices c.args.x c.fits-x.0 c.args.y c.fits-y.0 c.args.z c.fits-z.0 j h
    ∙ choice_is (slice_index c.args.x j) (slice_index c.args.y j) (slice_index c.args.z j) (lane_fits c.args.x c.fits-x j h) (lane_fits c.args.z c.fits-z j h)
