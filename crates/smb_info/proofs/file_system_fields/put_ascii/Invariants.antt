use Rattle.std.proofs.Common.{◌≡◌, ◌++◌, take}
use Rattle.smb_wire.specs.Pairs.{unit_bytes}
use Rattle.smb_info.proofs.file_system_fields.put_ascii.Given as goal

abbrev pub invariant-loop-character : goal.invariant-loop-character
invariant-loop-character l = l.out.items ≡ l.fn.out.items ++ unit_bytes (take l.character-index l.text)
