use Rattle.std.proofs.Common.{◌≡◌, ◌≤◌, ◌++◌, length, take, drop}
use Rattle.smb_wire.specs.PathEnds.{ends_from}
use Rattle.smb_wire.specs.Units.{units_of}
use Rattle.smb_wire.proofs.parts.ends_of.Given as goal

abbrev pub invariant-loop-i : goal.invariant-loop-i
invariant-loop-i l = record {
  room : length l.places ≡ 32;
  few : l.count ≤ 32;
  ends : take l.count l.places ++ ends_from l.i (drop l.i (units_of l.text)) ≡ ends_from 0 (units_of l.text);
}
