-- Which changes are refused.
use Rattle.std.specs.Prelude.{◌+◌, ◌==◌, nat_le, length, Option, None, Some, if◌then◌else◌}
use Rattle.smb_wire.specs.Greatest.{greatest_file_bytes}
use Rattle.smb_files.specs.Files.{Change, sets, writes, resizes, removes, counts}
use Rattle.smb_held_files.specs.declared.fault.HoldFault.{HoldFault}
use Rattle.smb_held_files.specs.declared.fault.HoldFault.TheVariants.{BadNumber, TooLong}

-- why a change is refused for what it says, if it is
abbrev pub change_fault : Change → Option HoldFault
change_fault (sets number parent about) = if number == 18446744073709551615 then Some BadNumber else None
change_fault (writes number offset buffer) =
    if nat_le (offset + length buffer) greatest_file_bytes then None else Some TooLong
change_fault (resizes number size) = if nat_le size greatest_file_bytes then None else Some TooLong
change_fault (removes number) = None
change_fault (counts next) = None
