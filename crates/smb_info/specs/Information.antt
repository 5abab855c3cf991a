-- What an information class says: a table of fields, and for some a name behind it ([MS-FSCC] 2.4, 2.5).
use Rattle.std.specs.Prelude.{ℕ, List, [], ◌++◌, length, take, nat_le, nat_lt, if◌then◌else◌, Option, None, Some}
use Rattle.smb_wire.specs.Fields.{Field, joined, width_of, AllStand}
use Rattle.smb_info.specs.declared.written.Truncation.{Truncation}
use Rattle.smb_info.specs.declared.written.Truncation.TheVariants.{Whole, Cut}
use Rattle.smb_info.specs.declared.fault.InfoFault.{InfoFault}
use Rattle.smb_info.specs.declared.fault.InfoFault.TheVariants.{BadClass, TooSmall}

-- the fields of the fixed part, and the bytes of the name behind them
pub record Information : Type 0 where
  pub fields : List Field
  pub name : List ℕ

-- why nothing is answered: no class that can be asked for has the number, or there is no room for the fixed part
abbrev pub info_fault : Option Information → ℕ → Option InfoFault
info_fault None room = Some BadClass
info_fault (Some info) room = if nat_lt room (width_of info.fields) then Some TooSmall else None

-- what is answered: the first bytes of the fields and the name, as many as there is room for
abbrev pub told : Option Information → ℕ → List ℕ
told None room = []
told (Some info) room = take room (joined info.fields ++ info.name)

-- whether that is all
abbrev pub information_written : Option Information → ℕ → Truncation
information_written None room = Whole
information_written (Some info) room = if nat_le (length (joined info.fields ++ info.name)) room then Whole else Cut

-- each field of the fixed part is read at its offset of these bytes
abbrev pub FieldsStand : Option Information → List ℕ → Type 0
FieldsStand None bytes = Unit {0}
FieldsStand (Some info) bytes = AllStand bytes info.fields
