use Rattle.std.proofs.Common.{◌≡◌, ◌+◌, drop}
use Rattle.std.specs.List.{position_or_len}
use Rattle.smb_wire.specs.Units.{units_of}
use Rattle.smb_wire.specs.Paths.{is_separator}
use Rattle.smb_session.proofs.path.separator_from.Given as goal

abbrev pub invariant-loop-i : goal.invariant-loop-i
invariant-loop-i l = l.from + position_or_len is_separator (drop l.from (units_of l.text)) ≡ l.i + position_or_len is_separator (drop l.i (units_of l.text))
