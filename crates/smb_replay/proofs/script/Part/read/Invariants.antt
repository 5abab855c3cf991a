use Rattle.std.proofs.Common.{◌≡◌, None, ◌+◌, ◌≤◌, length}
use Rattle.smb_replay.specs.Script.{lines_of, script_from}
use Rattle.smb_replay.specs.Reading.{behind, left_script}
use Rattle.smb_replay.proofs.script.Part.read.Given as goal

abbrev pub invariant-loop-alloc : goal.invariant-loop-alloc
invariant-loop-alloc l = record {
  left : behind l.script (script_from l.number (lines_of l.rest)) ≡ left_script l.unread;
  readable : l.script.unreadable_at ≡ None;
  count : l.number + length l.rest ≤ l.unread.number + length l.unread.text.now;
  spent : length l.script.events.items + length l.rest ≤ length l.unread.text.now;
  few : length l.script.events.items ≤ 64;
}

abbrev pub decreases-loop-alloc : goal.decreases-loop-alloc
decreases-loop-alloc l = length l.rest
