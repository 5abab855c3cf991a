-- Sessions' numbers.
use Rattle.std.proofs.Common.{◌≡◌, ℕ, arith}
use Rattle.std.proofs.lemmas.Grind.{common_steps}
use Rattle.std.specs.Int.{to_le_bytes, w64}
use Rattle.smb_wire.specs.Number.{spelling}

-- the bytes of a session's number are its spelling
pub le_spelling : (n : ℕ) → to_le_bytes w64 n ≡ spelling 8 n
unfolding spelling
le_spelling n = grind (arith, common_steps)
