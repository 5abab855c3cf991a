-- The signature of a message in dialects 2.0.2 and 2.1 ([MS-SMB2] 3.1.4.1).
use Rattle.std.specs.Prelude.{ℕ, ◌-◌, List, ◌++◌, length, map, replicate, take, drop, bit_xor, nat_le, if◌then◌else◌}
use Rattle.sha2.specs.Sha256.{sha256}

-- a key filled up with zeros to a block of 64 bytes, and one byte xored to each (RFC 2104, 2)
abbrev pub padded_key : List ℕ → ℕ → List ℕ
padded_key key byte = map (bit_xor byte) (key ++ replicate (64 - length key) 0)

-- HMAC of a message over a digest, by a key of at most 64 bytes: ipad is 0x36, opad 0x5C (RFC 2104, 2)
abbrev pub hmac : (List ℕ → List ℕ) → List ℕ → List ℕ → List ℕ
hmac digest key message = digest (padded_key key 0x5C ++ digest (padded_key key 0x36 ++ message))

-- the signature of a message: the first 16 bytes of its HMAC-SHA256, with zeros where its header has the signature,
-- bytes 48 to 63 ([MS-SMB2] 3.1.4.1, 2.2.1.2)
unfoldable pub signature : List ℕ → List ℕ → List ℕ
signature key message = take 16 (hmac sha256 key (take 48 message ++ replicate 16 0 ++ drop 64 message))

-- a message with its signature in its header; what is shorter than a header, of 64 bytes, stays as it is (3.1.4.1)
abbrev pub signed : List ℕ → List ℕ → List ℕ
signed key message =
    if nat_le 64 (length message) then take 48 message ++ signature key message ++ drop 64 message else message
