-- Numbers on the wire: unsigned, the lowest byte first ([MS-SMB2] 2.2).
use Rattle.std.specs.Prelude.{◌≡◌, ℕ, zero, suc, ◌+◌, ◌*◌, ◌/◌, ◌%◌, ◌^◌, ◌<◌, List, [], ◌∷◌, ◌++◌, length, take, drop, slice_index, Option, Some, None, nat_le, if◌then◌else◌}

-- every item is a byte
abbrev pub IsBytes : List ℕ → Type 0
IsBytes bytes = (i : ℕ) → slice_index bytes i < 256

-- the number that bytes spell: the sum of byte i times 256 ^ i
abbrev pub number : List ℕ → ℕ
number [] = 0
number (byte ∷ bytes) = byte + 256 * number bytes

-- these are w bytes, and they spell n
pub record Spells (w n : ℕ) (bytes : List ℕ) : Type 0 where
  pub width : length bytes ≡ w
  pub each : IsBytes bytes
  pub sum : number bytes ≡ n

-- the lowest w bytes of a number, the lowest first
unfoldable pub spelling : ℕ → ℕ → List ℕ
spelling zero n = []
spelling (suc w) n = (n % 256) ∷ spelling w (n / 256)

-- the w bytes at a place; none where they pass the end
abbrev pub field_at : ℕ → List ℕ → ℕ → Option (List ℕ)
field_at w bytes place = if nat_le (place + w) (length bytes) then Some (take w (drop place bytes)) else None

-- the number that the w bytes at a place spell; none where they pass the end
abbrev pub number_spelled : ℕ → List ℕ → ℕ → Option ℕ
number_spelled w bytes place = if nat_le (place + w) (length bytes) then Some (number (take w (drop place bytes))) else None

-- each number below 256 ^ w has a spelling of w bytes and no other one, and w bytes spell no other number
abbrev pub EachNumberHasOneSpelling : Type 0
EachNumberHasOneSpelling =
    (w n : ℕ) →
    (n < 256 ^ w → Spells w n (spelling w n))
    × ((bytes : List ℕ) → Spells w n bytes → (n < 256 ^ w) × (bytes ≡ spelling w n))

-- what was put between any bytes is read there
abbrev pub WhatIsPutIsRead : Type 0
WhatIsPutIsRead =
    (front rest : List ℕ) (w n : ℕ) → n < 256 ^ w → number_spelled w (front ++ spelling w n ++ rest) (length front) ≡ Some n
