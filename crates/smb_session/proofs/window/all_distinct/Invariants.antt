use Rattle.std.proofs.Common.{◌≡◌, length}
use Rattle.smb_session.specs.Window.{are_distinct, numbers_of}
use Rattle.smb_session.proofs.window.all_distinct.Given as goal

abbrev pub invariant-loop-rest : goal.invariant-loop-rest
invariant-loop-rest l = are_distinct (numbers_of l.rest) ≡ are_distinct (numbers_of l.runs)

abbrev pub decreases-loop-rest : goal.decreases-loop-rest
decreases-loop-rest l = length l.rest
