use Rattle.std.proofs.Common.{◌≡◌, length}
use Rattle.std.specs.Option.{option_map}
use Rattle.smb_body.specs.Smb1.{listed}
use Rattle.smb_body.specs.Readings.{texts_in}
use Rattle.smb_body.proofs.Smb1Lists.{listed_after}
use Rattle.smb_body.proofs.smb1.read_list.Given as goal

abbrev pub invariant-loop-rest : goal.invariant-loop-rest
invariant-loop-rest l = option_map listed (texts_in l.list) ≡ option_map (listed_after l.dialects) (texts_in l.rest)

abbrev pub decreases-loop-rest : goal.decreases-loop-rest
decreases-loop-rest l = length l.rest
