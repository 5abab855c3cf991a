use Rattle.std.proofs.Common.{◌≡◌, length}
use Rattle.std.specs.List.{list_all}
use Rattle.smb_session.specs.Window.{contains, numbers_of}
use Rattle.smb_session.proofs.window.has_all.Given as goal

abbrev pub invariant-loop-rest : goal.invariant-loop-rest
invariant-loop-rest l = list_all (contains l.usable) (numbers_of l.rest) ≡ list_all (contains l.usable) (numbers_of l.runs)

abbrev pub decreases-loop-rest : goal.decreases-loop-rest
decreases-loop-rest l = length l.rest
