-- HMAC (RFC 2104) over MD5 (RFC 1321).
use Rattle.std.specs.Prelude.{ℕ, ◌-◌, List, ◌++◌, length, map, replicate, bit_xor}
use Rattle.md5.specs.Md5.{md5}

-- a key filled up with zeros to a block of 64 bytes, and one byte xored to each
abbrev pub padded : List ℕ → ℕ → List ℕ
padded key byte = map (bit_xor byte) (key ++ replicate (64 - length key) 0)

-- HMAC-MD5 of a message, by a key of at most 64 bytes: ipad is 0x36, opad 0x5C (2)
unfoldable pub hmac : List ℕ → List ℕ → List ℕ
hmac key message = md5 (padded key 0x5C ++ md5 (padded key 0x36 ++ message))
