-- A stream of bytes as frames ([MS-SMB2] 2.1).
use Rattle.std.specs.Prelude.{◌≡◌, ◌≢◌, ℕ, ◌^◌, ◌<◌, ◌≤◌, List, [], ◌∷◌, ◌++◌, length, reverse, Option, None, Some}
use Rattle.std.specs.List.{flat_map, AllByRecursion}
use Rattle.smb_wire.specs.Number.{spelling}
use Rattle.smb_frame.specs.declared.fault.FrameFault.{FrameFault}
use Rattle.smb_frame.specs.declared.fault.FrameFault.TheVariants.{FirstByte, TooLong}

-- the frame of a payload: a zero byte, the payload's length in 3 bytes, the highest first, the payload
abbrev pub frame : List ℕ → List ℕ
frame payload = 0 ∷ (reverse (spelling 3 (length payload)) ++ payload)

-- the first byte is not 0
pub record BreaksFirstByte (rest : List ℕ) : Type 0 where
  pub byte : ℕ
  pub more : List ℕ
  pub whole : rest ≡ byte ∷ more
  pub wrong : byte ≢ 0

-- it begins with a zero byte and a length over the limit
pub record BreaksLimit (limit : ℕ) (rest : List ℕ) : Type 0 where
  pub size : ℕ
  pub more : List ℕ
  pub whole : rest ≡ 0 ∷ (reverse (spelling 3 size) ++ more)
  pub fits : size < 2 ^ 24
  pub over : limit < size

-- the beginning of some frame, with something of it still to come, and nothing wrong as far as it goes
pub record IsOpen (limit : ℕ) (rest : List ℕ) : Type 0 where
  pub payload : List ℕ
  pub still : List ℕ
  pub fits : length payload < 2 ^ 24
  pub whole : rest ++ still ≡ frame payload
  pub missing : still ≢ []
  pub zero_first : BreaksFirstByte rest → ⊥
  pub within : BreaksLimit limit rest → ⊥

-- a rest by its fault: without one it is open; else its first byte is wrong, or its length is over the limit
abbrev pub IsRest : ℕ → List ℕ → Option FrameFault → Type 0
IsRest limit rest None = IsOpen limit rest
IsRest limit rest (Some FirstByte) = BreaksFirstByte rest
IsRest limit rest (Some TooLong) = BreaksLimit limit rest
IsRest limit rest (Some fault) = ⊥

-- a payload that a frame can say the length of, within the limit
pub record IsPayload (limit : ℕ) (payload : List ℕ) : Type 0 where
  pub fits : length payload < 2 ^ 24
  pub within : length payload ≤ limit

-- the stream is the frames of these payloads, followed by a rest with this fault
pub record Framed (limit : ℕ) (stream : List ℕ) (payloads : List (List ℕ)) (rest : List ℕ) (fault : Option FrameFault) : Type 0 where
  pub whole : stream ≡ flat_map frame payloads ++ rest
  pub each : AllByRecursion (IsPayload limit) payloads
  pub ends : IsRest limit rest fault
