use Rattle.std.proofs.Common.{length}
use Rattle.smb_rows.proofs.steps.+open_once.Given as goal

abbrev pub decreases-open_once : goal.decreases-open_once
decreases-open_once l = length l.steps.now
