use Rattle.std.proofs.Common.{◌≡◌, ◌++◌}
use Rattle.std.specs.Str.{IsUtf8}
use Rattle.std.specs.Str.Iter.{chars_rest}
use Rattle.smb_ntlm.specs.Passwords.{utf16_bytes}
use Rattle.smb_ntlm.proofs.password.utf16_bytes_of.Given as goal

-- what is put, and what is left
abbrev pub invariant-loop-character : goal.invariant-loop-character
invariant-loop-character l = record {
  text : IsUtf8 (chars_rest l.character-iterator);
  all : l.bytes.items ++ utf16_bytes (chars_rest l.character-iterator) ≡ utf16_bytes l.fn.text;
}
