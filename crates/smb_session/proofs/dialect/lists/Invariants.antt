use Rattle.std.proofs.Common.{◌≡◌, ◌==◌, drop}
use Rattle.std.specs.List.{list_any}
use Rattle.smb_wire.specs.Units.{units_of}
use Rattle.smb_wire.specs.Dialects.{revision_of}
use Rattle.smb_session.proofs.dialect.lists.Given as goal

abbrev pub invariant-loop-i : goal.invariant-loop-i
invariant-loop-i l = list_any (λ d. d == revision_of l.dialect) (drop l.i (units_of l.dialects)) ≡ list_any (λ d. d == revision_of l.dialect) (units_of l.dialects)
