-- How a call is refused: by a row of its table, or for want of memory.
use Rattle.std.specs.Prelude.{◌≡◌, Option, Some, None}
use Rattle.smb_refusals.specs.declared.refused_by.RefusedBy.{RefusedBy}
use Rattle.smb_refusals.specs.declared.refused_by.RefusedBy.TheVariants.{Row, NoMemory}

-- a call is refused by the row that the definition gives; out of memory comes only where it gives none
abbrev pub IsRefusedBy : {R : Type 0} → Option R → RefusedBy R → Type 0
IsRefusedBy refusal (Row row) = refusal ≡ Some row
IsRefusedBy refusal NoMemory = refusal ≡ None

-- a refusal under another name
abbrev pub refused_as : {R Q : Type 0} → (R → Q) → RefusedBy R → RefusedBy Q
refused_as name (Row row) = Row (name row)
refused_as name NoMemory = NoMemory
