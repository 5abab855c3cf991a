use Rattle.std.proofs.Common.{◌-◌, ◌^◌, []}
use Rattle.smb_recovery.specs.Steps.{IsReadTo}
use Rattle.smb_recovery.proofs.reading.take_all.Given as goal

abbrev pub invariant-loop-found : goal.invariant-loop-found
invariant-loop-found g l = IsReadTo l.seed (g.S.Source.read l.source) [] l.found

abbrev pub decreases-loop-found : goal.decreases-loop-found
decreases-loop-found g l = 2 ^ 64 - l.found.whole
