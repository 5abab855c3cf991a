use Rattle.std.proofs.Common.{◌-◌, ◌^◌}
use Rattle.smb_recovery.specs.Steps.{AreZeros}
use Rattle.smb_recovery.proofs.rest.take_zeros.Given as goal

abbrev pub invariant-loop-buffer : goal.invariant-loop-buffer
invariant-loop-buffer g l =
    AreZeros l.count (g.S.Source.read l.fn.source) (g.S.Source.read l.source) (g.S.Source.ended l.fn.source) (g.S.Source.ended l.source)

abbrev pub decreases-loop-buffer : goal.decreases-loop-buffer
decreases-loop-buffer g l = 2 ^ 64 - l.count
