use Rattle.std.proofs.Common.{length}
use Rattle.smb_session.proofs.Runs.{FoundSoFar}
use Rattle.smb_session.proofs.window.has_run.Given as goal

abbrev pub invariant-loop-found : goal.invariant-loop-found
invariant-loop-found l = FoundSoFar l.usable l.rest l.first l.count l.found

abbrev pub decreases-loop-found : goal.decreases-loop-found
decreases-loop-found l = length l.rest
