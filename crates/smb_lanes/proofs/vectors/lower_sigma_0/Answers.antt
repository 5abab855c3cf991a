use Rattle.std.proofs.Common.{ℕ, ◌/◌, ◌^◌, bit_xor, ap, arith, slice_index}
use Rattle.smb_lanes.proofs.Rotations.{two_turned}
use Rattle.smb_lanes.proofs.Fours.{lane_fits}
use Rattle.smb_lanes.proofs.vectors.lower_sigma_0.Goals as goal

pub returns : goal.returns
returns c j h =
    rw (c.xor-2.ensures j h, c.rotated-2.ensures j h, c.xor.ensures j h, c.rotated.ensures j h, c.shifted.ensures j h)
    (ap (λ (y : ℕ). bit_xor y (slice_index c.args.x j / 2 ^ 3))
    (two_turned (slice_index c.args.x j) 7 11 (omega arith) (lane_fits c.args.x c.fits-x j h)))
