use Rattle.std.proofs.Common.{◌≡◌, drop}
use Rattle.std.specs.List.{list_all}
use Rattle.smb_wire.specs.Paths.{is_lawful_unit}
use Rattle.smb_wire.specs.Units.{units_of}
use Rattle.smb_wire.proofs.parts.is_lawful_component.Given as goal

abbrev pub invariant-loop-i : goal.invariant-loop-i
invariant-loop-i l = list_all is_lawful_unit (drop l.i (units_of l.part)) ≡ list_all is_lawful_unit (units_of l.part)
