-- Elements of a LOCK, 24 bytes each ([MS-SMB2] 2.2.26.1).
use Rattle.std.specs.Prelude.{◌≡◌, ℕ, ◌<◌, List, [], ◌∷◌, ◌++◌, length, take, drop, slice_index_or}
use Rattle.smb_wire.specs.Number.{IsBytes}
use Rattle.smb_wire.specs.Fields.{Field, num, AllStand, AllFit, joined}
use Rattle.smb_body.specs.declared.lock_element.LockElement.{LockElement}

-- an element
abbrev pub lock_fields : LockElement → List Field
lock_fields e =
    num 0 8 e.offset  -- Offset
    ∷ num 8 8 e.length  -- Length
    ∷ num 16 4 e.flags.0  -- Flags
    ∷ num 20 4 e.reserved  -- Reserved
    ∷ []

-- the bytes say these elements, one after the other, each in its own 24 bytes, and nothing more
abbrev pub SaysElements : List ℕ → List LockElement → Type 0
SaysElements bytes [] = bytes ≡ []
SaysElements bytes (e ∷ es) = AllStand (take 24 bytes) (lock_fields e) × SaysElements (drop 24 bytes) es

-- the bytes of elements
abbrev pub lock_bytes : List LockElement → List ℕ
lock_bytes [] = []
lock_bytes (e ∷ es) = joined (lock_fields e) ++ lock_bytes es

-- each number of each element fits its field
abbrev pub AllLocksFit : List LockElement → Type 0
AllLocksFit [] = Unit {0}
AllLocksFit (e ∷ es) = AllFit (lock_fields e) × AllLocksFit es

-- each item is 24 bytes
pub record AllElements (elements : List (List ℕ)) : Type 0 where
  pub each : (i : ℕ) → i < length elements → (length (slice_index_or elements i []) ≡ 24) × IsBytes (slice_index_or elements i [])
