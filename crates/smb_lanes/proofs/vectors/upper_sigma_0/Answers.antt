use Rattle.std.proofs.Common.{arith, slice_index}
use Rattle.smb_lanes.proofs.Rotations.{three_turned}
use Rattle.smb_lanes.proofs.Fours.{lane_fits}
use Rattle.smb_lanes.proofs.vectors.upper_sigma_0.Goals as goal

pub returns : goal.returns
returns c j h =
    rw (c.rotated-3.ensures j h, c.xor-2.ensures j h, c.rotated-2.ensures j h, c.xor.ensures j h, c.rotated.ensures j h)
    (three_turned (slice_index c.args.x j) 2 11 9 (omega arith) (lane_fits c.args.x c.fits-x j h))
