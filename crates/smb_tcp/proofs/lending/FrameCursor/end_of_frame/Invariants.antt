use Rattle.std.proofs.Common.{◌≤◌}
use Rattle.smb_tcp.proofs.lending.FrameCursor.end_of_frame.Given as goal

abbrev pub invariant-loop-byte : goal.invariant-loop-byte
invariant-loop-byte l = l.at ≤ l.byte-index
