-- Borrowed text as a list of units.
use Rattle.std.specs.Prelude.{ℕ, List, map}
use Rattle.smb_wire.specs.Number.{number}
use Rattle.smb_wire.specs.declared.units.Units.{Units}

-- the units of a text
abbrev pub units_of : Units → List ℕ
units_of text = map number text.pairs.now
