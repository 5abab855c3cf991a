-- A format as a table of fields, one row a field, as the standard prints it ([MS-SMB2] 2.2).
use Rattle.std.specs.Prelude.{◌≡◌, ℕ, ◌+◌, ◌^◌, ◌<◌, ◌≤◌, List, [], ◌∷◌, ◌++◌, length, take, drop}
use Rattle.smb_wire.specs.Number.{number, spelling}

-- a field: its offset, its width, and the number or the bytes that it says
pub data Field : Type 0 where
  num : ℕ → ℕ → ℕ → Field
  raw : ℕ → ℕ → List ℕ → Field

-- the number that the w bytes at a place spell
abbrev pub number_in : ℕ → ℕ → List ℕ → ℕ
number_in w place bytes = number (take w (drop place bytes))

-- the bytes have each field of the table at its place: they are read so
abbrev pub AllStand : List ℕ → List Field → Type 0
AllStand bytes [] = Unit {0}
AllStand bytes (num place w n ∷ fields) =
    ((place + w ≤ length bytes) × (number_in w place bytes ≡ n)) × AllStand bytes fields
AllStand bytes (raw place w text ∷ fields) =
    ((place + w ≤ length bytes) × (take w (drop place bytes) ≡ text)) × AllStand bytes fields

-- the bytes of a field
abbrev pub spelled : Field → List ℕ
spelled (num place w n) = spelling w n
spelled (raw place w text) = text

-- the fields one after the other: they are written so
abbrev pub joined : List Field → List ℕ
joined [] = []
joined (field ∷ fields) = spelled field ++ joined fields

-- fields put behind a front, one after the other, as `front ++ joined fields` is (for the proofs)
abbrev pub appended : List ℕ → List Field → List ℕ
appended front [] = front
appended front (field ∷ fields) = appended (front ++ spelled field) fields

-- how many bytes fields take
abbrev pub width_of : List Field → ℕ
width_of [] = 0
width_of (num place w n ∷ fields) = w + width_of fields
width_of (raw place w text ∷ fields) = w + width_of fields

-- each field begins where the one before it ends, the first at this place
abbrev pub InOrder : ℕ → List Field → Type 0
InOrder place [] = Unit {0}
InOrder place (num p w n ∷ fields) = (p ≡ place) × InOrder (place + w) fields
InOrder place (raw p w text ∷ fields) = (p ≡ place) × InOrder (place + w) fields

-- each number fits its field, and each text fills it
abbrev pub AllFit : List Field → Type 0
AllFit [] = Unit {0}
AllFit (num p w n ∷ fields) = (n < 256 ^ w) × AllFit fields
AllFit (raw p w text ∷ fields) = (length text ≡ w) × AllFit fields

-- fields in order that fit are read where they were written, behind any front and before any rest: their places count
-- from the table's first byte
abbrev pub WhatIsJoinedStands : Type 0
WhatIsJoinedStands =
    (front : List ℕ) (fields : List Field) (rest : List ℕ) → InOrder 0 fields → AllFit fields →
    AllStand (drop (length front) (front ++ (joined fields ++ rest))) fields

-- fields that fit take the sum of their widths
abbrev pub JoinedIsAsWide : Type 0
JoinedIsAsWide = (fields : List Field) → AllFit fields → length (joined fields) ≡ width_of fields
