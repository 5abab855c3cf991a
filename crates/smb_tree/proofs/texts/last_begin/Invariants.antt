use Rattle.std.proofs.Common.{◌≡◌, ◌≤◌, length, drop, false}
use Rattle.std.specs.List.{list_any}
use Rattle.smb_wire.specs.Paths.{is_separator}
use Rattle.smb_wire.specs.Units.{units_of}
use Rattle.smb_tree.proofs.texts.last_begin.Given as goal

abbrev pub invariant-loop-begin : goal.invariant-loop-begin
invariant-loop-begin l = record {
  within : l.begin ≤ length (units_of l.text);
  none : list_any is_separator (drop l.begin (units_of l.text)) ≡ false;
}

abbrev pub decreases-loop-begin : goal.decreases-loop-begin
decreases-loop-begin l = l.begin
