-- For the proofs; nothing here need be believed.
-- The bytes of numbers of several widths.
use Rattle.std.specs.Prelude.{ℕ, List}
use Rattle.smb_wire.specs.Number.{spelling}
use Rattle.smb_body.specs.declared.numbers.Number.{Number}
use Rattle.smb_body.specs.declared.numbers.Number.TheVariants.{U8, U16, U32, U64}

-- the bytes of a number
abbrev pub number_bytes : Number → List ℕ
number_bytes (U8 n) = spelling 1 n
number_bytes (U16 n) = spelling 2 n
number_bytes (U32 n) = spelling 4 n
number_bytes (U64 n) = spelling 8 n
