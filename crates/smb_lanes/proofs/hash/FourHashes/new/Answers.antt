use Rattle.std.proofs.Common.{refl}
use Rattle.smb_lanes.proofs.Fours.{below_four}
use Rattle.smb_lanes.proofs.Runs.{none_held}
use Rattle.smb_lanes.proofs.hash.FourHashes.new.Goals as goal

pub returns : goal.returns
returns c = below_four _ (none_held _ 0 refl refl) (none_held _ 1 refl refl) (none_held _ 2 refl refl) (none_held _ 3 refl refl)
