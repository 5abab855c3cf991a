-- Bodies of requests: where their fields count from, and the buffers that they name ([MS-SMB2] 2.2).
use Rattle.std.specs.Prelude.{◌≡◌, ℕ, ◌+◌, ◌*◌, List, length, take, drop, Bool, true, nat_eq, nat_le, ◌&&◌, ◌||◌}
use Rattle.smb_wire.specs.Fields.{number_in}
use Rattle.smb_wire.specs.Pairs.{units_in}
use Rattle.smb_wire.specs.declared.file_id.FileId.{FileId}

-- the body of a request, which stands behind the 64 bytes of its header ([MS-SMB2] 2.2.1)
abbrev pub body : List ℕ → List ℕ
body request = drop 64 request

-- the body has its fixed part, with the StructureSize of its command
abbrev pub has_fixed_part : ℕ → ℕ → List ℕ → Bool
has_fixed_part size structure_size request =
    nat_le size (length (body request)) && nat_eq (number_in 2 0 (body request)) structure_size

-- the FileId at a place ([MS-SMB2] 2.2.14.1)
abbrev pub file_id_at : ℕ → List ℕ → FileId
file_id_at place bytes = record { persistent = number_in 8 place bytes; volatile = number_in 8 (place + 8) bytes }

-- a checked buffer, if it has bytes, begins at `start` or later and ends within the request. Offsets count from the
-- header's first byte, and a fixed part of n bytes ends at 64 + n
abbrev pub is_within : ℕ → ℕ → ℕ → List ℕ → Bool
is_within start offset size request = nat_eq size 0 || (nat_le start offset && nat_le (offset + size) (length request))

-- these bytes are a checked buffer of the request
pub record Holds (start offset : ℕ) (request bytes : List ℕ) : Type 0 where
  pub within : is_within start offset (length bytes) request ≡ true
  pub bytes_at : take (length bytes) (drop offset request) ≡ bytes

-- these units are the text of a checked buffer of the request, two bytes a unit
pub record HoldsText (start offset : ℕ) (request units : List ℕ) : Type 0 where
  pub within : is_within start offset (2 * length units) request ≡ true
  pub units_at : units_in (take (2 * length units) (drop offset request)) ≡ units
