use Rattle.std.proofs.Common.{◌≡◌, drop}
use Rattle.std.specs.List.{list_all}
use Rattle.smb_wire.specs.Paths.{components, is_lawful_component}
use Rattle.smb_wire.specs.Units.{units_of}
use Rattle.smb_wire.proofs.parts.are_lawful.Given as goal

abbrev pub invariant-loop-i : goal.invariant-loop-i
invariant-loop-i l = list_all is_lawful_component (drop l.i (components (units_of l.text))) ≡ list_all is_lawful_component (components (units_of l.text))
