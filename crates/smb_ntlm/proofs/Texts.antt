-- Texts in UTF-16LE.
use Rattle.std.proofs.Common.{◌≡◌, ℕ, ◌+◌, ◌<◌, ◌≤◌, List, [], ◌∷◌, ◌++◌, length, take, get_or, sym, ap, ◌∙◌, append_assoc}
use Rattle.std.proofs.lemmas.List.{take_more, take_all, append-nil, nil_from_length}
use Rattle.std.proofs.lemmas.List.Concat.{flat_map-cons}
use Rattle.std.proofs.lemmas.Str.{chars_past_char, chars-nil}
use Rattle.std.specs.List.{flat_map}
use Rattle.std.specs.Str.{chars, IsUtf8}
use Rattle.std.specs.Prelude.{encode_utf8}
use Rattle.std.specs.Char.Escape.{encode_utf16}
use Rattle.smb_wire.specs.Number.{spelling}
use Rattle.smb_wire.specs.Pairs.{unit_bytes}
use Rattle.smb_ntlm.specs.Passwords.{utf16_bytes}
use Rattle.smb_ntlm.proofs.CapitalUnits.{unit_bytes-append, one_unit}

-- one more unit is put
pub unit_more : (units bytes old new : List ℕ) (i : ℕ) → i < length units → bytes ≡ old ++ unit_bytes (take i units) → new ≡ bytes ++ spelling 2 (get_or units i 0) →
    new ≡ old ++ unit_bytes (take (i + 1) units)
unit_more units bytes old new i h b n =
    n
    ∙ ap (λ (xs : List ℕ). xs ++ spelling 2 (get_or units i 0)) b
    ∙ append_assoc old (unit_bytes (take i units)) (spelling 2 (get_or units i 0))
    ∙ ap (λ (xs : List ℕ). old ++ (unit_bytes (take i units) ++ xs)) (sym (one_unit (get_or units i 0)))
    ∙ ap (λ (xs : List ℕ). old ++ xs) (sym (unit_bytes-append (take i units) (get_or units i 0 ∷ [])))
    ∙ ap (λ (xs : List ℕ). old ++ unit_bytes xs) (sym (take_more units i 0 h))

pub units_last : (units bytes old written : List ℕ) (i : ℕ) → length units ≤ i → bytes ≡ old ++ unit_bytes (take i units) → units ≡ written → bytes ≡ old ++ unit_bytes written
units_last units bytes old written i h b w = b ∙ ap (λ (xs : List ℕ). old ++ unit_bytes xs) (take_all i units h ∙ w)

character_first : (rest later : List ℕ) (character : ℕ) → IsUtf8 rest → rest ≡ encode_utf8 character ++ later → utf16_bytes rest ≡ unit_bytes (encode_utf16 character) ++ utf16_bytes later
unfolding utf16_bytes
character_first rest later character text is =
    ap (λ (xs : List ℕ). unit_bytes (flat_map encode_utf16 xs)) (chars_past_char rest later character text is)
    ∙ ap unit_bytes (flat_map-cons encode_utf16 character (chars later))
    ∙ unit_bytes-append (encode_utf16 character) (flat_map encode_utf16 (chars later))

-- one more character is put
pub character_more : (bytes new rest later all : List ℕ) (character : ℕ) → IsUtf8 rest → rest ≡ encode_utf8 character ++ later → new ≡ bytes ++ unit_bytes (encode_utf16 character) →
    bytes ++ utf16_bytes rest ≡ all → new ++ utf16_bytes later ≡ all
character_more bytes new rest later all character text is n h =
    ap (λ (xs : List ℕ). xs ++ utf16_bytes later) n
    ∙ append_assoc bytes (unit_bytes (encode_utf16 character)) (utf16_bytes later)
    ∙ ap (λ (xs : List ℕ). bytes ++ xs) (sym (character_first rest later character text is))
    ∙ h

no_character : utf16_bytes [] ≡ []
unfolding utf16_bytes
no_character = ap (λ (xs : List ℕ). unit_bytes (flat_map encode_utf16 xs)) chars-nil

pub characters_last : (bytes rest all : List ℕ) → length rest ≡ 0 → bytes ++ utf16_bytes rest ≡ all → bytes ≡ all
characters_last bytes rest all z h =
    sym (append-nil bytes) ∙ sym (ap (λ (xs : List ℕ). bytes ++ xs) (ap utf16_bytes (nil_from_length rest z) ∙ no_character)) ∙ h
