use Rattle.std.proofs.Common.{length}
use Rattle.smb_rows.proofs.steps.+opens.Given as goal

abbrev pub decreases-opens : goal.decreases-opens
decreases-opens l = length l.steps.now
