use Rattle.std.proofs.Common.{◌≡◌, ◌++◌, drop}
use Rattle.smb_wire.specs.Pairs.{unit_bytes}
use Rattle.smb_request.proofs.server.wide.Given as goal

abbrev pub invariant-loop-character : goal.invariant-loop-character
invariant-loop-character l = l.bytes.items ++ unit_bytes (drop l.character-index l.characters) ≡ unit_bytes l.characters
