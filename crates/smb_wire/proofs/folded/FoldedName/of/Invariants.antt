use Rattle.std.proofs.Common.{◌≡◌, ◌-◌, take, drop, length, replicate}
use Rattle.smb_wire.specs.Names.{folded}
use Rattle.smb_wire.specs.Units.{units_of}
use Rattle.smb_wire.proofs.folded.FoldedName.of.Given as goal

abbrev pub invariant-loop-i : goal.invariant-loop-i
invariant-loop-i l = record {
  room : length l.units ≡ 255;
  front : take l.i l.units ≡ folded (take l.i (units_of l.text));
  back : drop l.i l.units ≡ replicate (255 - l.i) 0;
}
