use Rattle.std.specs.Str.Iter.{chars_rest}
use Rattle.std.proofs.lemmas.Str.{IsUtf8-past_char}
use Rattle.smb_ntlm.proofs.Texts.{character_more, characters_last}
use Rattle.smb_ntlm.proofs.password.utf16_bytes_of.Goals as goal

pub loop-character-preserved : goal.loop-character-preserved
loop-character-preserved c = record {
  text = IsUtf8-past_char (chars_rest c.loop-character.character-iterator) (chars_rest c.next.new.self) c.in-Some.character c.loop-character.invariant.text c.in-Some.ensures.steps.0;
  all = character_more c.loop-character.bytes.items c.put_character.new.bytes.items (chars_rest c.loop-character.character-iterator) (chars_rest c.next.new.self) _ c.in-Some.character
      c.loop-character.invariant.text c.in-Some.ensures.steps.0 c.in_ok-put_character.ensures c.loop-character.invariant.all;
}

pub returns : goal.returns
returns c =
    characters_last c.loop-character.bytes.items (chars_rest c.loop-character.character-iterator) _ c.in-None.ensures.steps.0.0 c.loop-character.invariant.all
