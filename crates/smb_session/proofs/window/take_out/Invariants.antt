use Rattle.std.proofs.Common.{◌≤◌, drop, length}
use Rattle.smb_session.proofs.Taken.{LeftToTake}
use Rattle.smb_session.proofs.window.take_out.Given as goal

abbrev pub invariant-loop-rest : goal.invariant-loop-rest
invariant-loop-rest l = record {
  left : LeftToTake l.runs l.rest (drop l.used l.fn.numbers.items) (drop l.front l.numbers.items);
  within : l.front ≤ length l.numbers.items;
}

abbrev pub decreases-loop-rest : goal.decreases-loop-rest
decreases-loop-rest l = length l.rest
