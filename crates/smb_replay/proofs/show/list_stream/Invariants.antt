use Rattle.std.proofs.Common.{◌≡◌, ◌+◌, ◌≤◌, length}
use Rattle.std.specs.Prelude.{string_bytes}
use Rattle.smb_wire.specs.Limits.{longest_payload}
use Rattle.smb_replay.specs.Show.{then_lines, good_lines, show_of}
use Rattle.smb_replay.proofs.Shows.{lines_of_held}
use Rattle.smb_replay.proofs.show.list_stream.Given as goal

abbrev pub invariant-loop-payload : goal.invariant-loop-payload
invariant-loop-payload l = record {
  left : then_lines (good_lines (string_bytes l.text)) (lines_of_held l.frame l.buffer.bytes) ≡ show_of l.stream;
  limit : l.buffer.limit ≡ longest_payload;
  count : l.frame + length l.buffer.bytes ≤ length l.stream + 1;
}

abbrev pub decreases-loop-payload : goal.decreases-loop-payload
decreases-loop-payload l = length l.buffer.bytes
