use Rattle.std.proofs.Common.{◌≡◌, length}
use Rattle.smb_session.specs.Window.{numbers_of}
use Rattle.smb_engine.specs.Parts.{missing}
use Rattle.smb_engine.proofs.ending.missing_of.Given as goal

abbrev pub invariant-loop-rest : goal.invariant-loop-rest
invariant-loop-rest l = missing l.window (numbers_of l.rest) ≡ missing l.window (numbers_of l.runs)

abbrev pub decreases-loop-rest : goal.decreases-loop-rest
decreases-loop-rest l = length l.rest
