use Rattle.std.proofs.Common.{◌≡◌, drop}
use Rattle.smb_wire.specs.Units.{units_of}
use Rattle.smb_patterns.specs.Patterns.{has_dot}
use Rattle.smb_patterns.specs.Bits.{has}
use Rattle.smb_patterns.proofs.HeldRows.{HeldRow}
use Rattle.smb_patterns.proofs.matcher.Matcher.matches.Given as goal

abbrev pub invariant-loop-at : goal.invariant-loop-at
invariant-loop-at l = record {
  dots : l.has_dot ≡ has_dot (drop l.at (units_of l.name));
  row : HeldRow l.self-inside.pattern (drop l.at (units_of l.name)) (has l.row);
}
