-- A list of dialects, two bytes each ([MS-SMB2] 2.2.3).
use Rattle.std.specs.Prelude.{ℕ, List}
use Rattle.smb_wire.specs.Units.{units_of}
use Rattle.smb_body.specs.declared.dialects.Dialects.{Dialects}

-- the dialects of a list
abbrev pub dialects_of : Dialects → List ℕ
dialects_of dialects = units_of dialects.numbers
