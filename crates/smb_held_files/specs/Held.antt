-- The entries that are held in memory, as those of the definitions; and which numbers come after one.
use Rattle.std.specs.Prelude.{ℕ, Bool, true, nat_lt, Option}
use Rattle.std.specs.Option.{option_map_or}
use Rattle.smb_wire.specs.Pairs.{units_in}
use Rattle.smb_files.specs.Files.{FileEntry}
use Rattle.smb_held_files.specs.declared.file.HeldFile.{HeldFile}

-- the entry that a held one is: its spelling in units
abbrev pub file_shown : HeldFile → FileEntry
file_shown file = record {
  parent = file.parent;
  about = record { kind = file.kind; spelling = units_in file.spelling.items; basic = file.basic; mark = file.mark };
  bytes = file.bytes;
}

-- whether a number comes after another one, or after none
abbrev pub is_after : Option ℕ → ℕ → Bool
is_after after number = option_map_or (λ other. nat_lt other number) after true
