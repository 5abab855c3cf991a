use Rattle.std.proofs.Common.{◌≡◌, ◌+◌, ◌-◌, ◌++◌, length, drop}
use Rattle.std.specs.Prelude.{string_bytes}
use Rattle.smb_replay.specs.Show.{request_lines}
use Rattle.smb_replay.proofs.show.put_chain.Given as goal

abbrev pub invariant-loop-header : goal.invariant-loop-header
invariant-loop-header l = string_bytes l.text ++ request_lines l.frame (l.place + 1) (drop l.place l.chain) ≡ string_bytes l.fn.text ++ request_lines l.frame 1 l.chain

abbrev pub decreases-loop-header : goal.decreases-loop-header
decreases-loop-header l = length l.chain - l.place
