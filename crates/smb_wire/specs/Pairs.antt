-- UTF-16 units as pairs of bytes, the lower byte first ([MS-SMB2] 2.2).
use Rattle.std.specs.Prelude.{◌≡◌, ℕ, ◌<◌, ◌%◌, ◌^◌, List, [], ◌∷◌, ◌++◌, length, slice_index, slice_index_or}
use Rattle.smb_wire.specs.Number.{IsBytes, number, spelling}

-- the units that bytes spell, two bytes each; a last odd byte spells none
abbrev pub units_in : List ℕ → List ℕ
units_in [] = []
units_in (low ∷ []) = []
units_in (low ∷ high ∷ bytes) = number (low ∷ high ∷ []) ∷ units_in bytes

-- the bytes of units
abbrev pub unit_bytes : List ℕ → List ℕ
unit_bytes [] = []
unit_bytes (unit ∷ units) = spelling 2 unit ++ unit_bytes units

-- each item fits 16 bits
abbrev pub AreUnits : List ℕ → Type 0
AreUnits units = (i : ℕ) → slice_index units i < 2 ^ 16

-- each item is two bytes
pub record AllPairs (pairs : List (List ℕ)) : Type 0 where
  pub each : (i : ℕ) → i < length pairs → (length (slice_index_or pairs i []) ≡ 2) × IsBytes (slice_index_or pairs i [])

-- the bytes of units are read as these units
abbrev pub UnitsAreRead : Type 0
UnitsAreRead = (units : List ℕ) → AreUnits units → units_in (unit_bytes units) ≡ units

-- units that were read have the bytes from which they were read
abbrev pub BytesAreKept : Type 0
BytesAreKept = (bytes : List ℕ) → IsBytes bytes → length bytes % 2 ≡ 0 → unit_bytes (units_in bytes) ≡ bytes
