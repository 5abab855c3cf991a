use Rattle.std.proofs.Common.{◌≡◌}
use Rattle.smb_session.specs.Window.{upward}
use Rattle.smb_engine.specs.Parts.{missing}
use Rattle.smb_engine.proofs.ending.missing_in.Given as goal

abbrev pub invariant-loop-left : goal.invariant-loop-left
invariant-loop-left l = missing l.window (upward l.number l.left) ≡ missing l.window (upward l.first l.count)

abbrev pub decreases-loop-left : goal.decreases-loop-left
decreases-loop-left l = l.left
