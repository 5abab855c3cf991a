use Rattle.std.proofs.Common.{length}
use Rattle.smb_recovery.specs.Steps.{ChangesLeft, changes_of}
use Rattle.smb_recovery.proofs.batch.apply_all.Given as goal

abbrev pub invariant-loop-change : goal.invariant-loop-change
invariant-loop-change l = ChangesLeft l.rest l.files l.fn.files (changes_of l.fn.bytes)

abbrev pub decreases-loop-change : goal.decreases-loop-change
decreases-loop-change l = length l.rest
