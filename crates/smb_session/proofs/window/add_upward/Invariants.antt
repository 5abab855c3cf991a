use Rattle.std.proofs.Common.{◌≡◌, ◌+◌, ◌++◌, length}
use Rattle.smb_session.specs.Window.{upward}
use Rattle.smb_session.proofs.window.add_upward.Given as goal

abbrev pub invariant-loop-i : goal.invariant-loop-i
invariant-loop-i l = record {
  items : l.numbers.items ≡ l.fn.numbers.items ++ upward l.first l.i;
  len : length l.numbers.items ≡ length l.fn.numbers.items + l.i;
}
