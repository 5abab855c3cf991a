use Rattle.std.proofs.Common.{◌+◌, ◌<◌, length}
use Rattle.std.specs.Prelude.{IfSome}
use Rattle.std.specs.Option.{option_map_or}
use Rattle.smb_replay.proofs.replay.read_events.Given as goal

abbrev pub invariant-loop-left : goal.invariant-loop-left
invariant-loop-left l = IfSome l.left (λ left. left.number + length left.text.now < 18446744073709551616)

abbrev pub decreases-loop-left : goal.decreases-loop-left
decreases-loop-left l = option_map_or (λ left. length left.text.now + 1) l.left 0
