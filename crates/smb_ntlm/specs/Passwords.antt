-- The NT hash of a password ([MS-NLMP] 3.3.1, NTOWFv1).
use Rattle.std.specs.Prelude.{ℕ, List}
use Rattle.std.specs.List.{flat_map}
use Rattle.std.specs.Str.{chars}
use Rattle.std.specs.Char.Escape.{encode_utf16}
use Rattle.smb_wire.specs.Pairs.{unit_bytes}
use Rattle.smb_ntlm.specs.Md4.{md4}

-- a text in UTF-16LE
unfoldable pub utf16_bytes : List ℕ → List ℕ
utf16_bytes text = unit_bytes (flat_map encode_utf16 (chars text))

-- MD4 of the password in UTF-16LE
abbrev pub nt_hash : List ℕ → List ℕ
nt_hash password = md4 (utf16_bytes password)
