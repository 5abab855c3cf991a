-- SMB_COM_NEGOTIATE, by which a client of several protocols begins ([MS-SMB2] 3.3.5.3.1, [MS-CIFS] 2.2.4.52.1).
use Rattle.std.specs.Prelude.{◌≡◌, ℕ, ◌+◌, ◌<◌, ◌≤◌, ◌≢◌, List, [], ◌∷◌, ◌++◌, length, take, drop, slice_index, nat_eq, nat_le, ◌&&◌, Option, Some, None, if◌then◌else◌, codes, ◌↔◌}
use Rattle.std.specs.Option.{option_map}
use Rattle.std.specs.List.{list_any, onto_first}
use Rattle.std.specs.Cmp.Lexicographic.{pointwise}
use Rattle.smb_wire.specs.Fields.{number_in}
use Rattle.smb_body.specs.declared.smb1.Smb1Dialects.{Smb1Dialects}

-- a list of dialects: of each 0x02, its text and a zero byte
abbrev pub dialect_list : List (List ℕ) → List ℕ
dialect_list [] = []
dialect_list (text ∷ texts) = 2 ∷ (text ++ (0 ∷ dialect_list texts))

-- a text has no zero byte
abbrev pub IsText : List ℕ → Type 0
IsText text = (i : ℕ) → i < length text → slice_index text i ≢ 0

-- none of some texts has one
abbrev pub AreTexts : List (List ℕ) → Type 0
AreTexts [] = Unit {0}
AreTexts (text ∷ texts) = IsText text × AreTexts texts

-- a payload is an SMB_COM_NEGOTIATE with these dialects: 0xFF, the letters SMB and the command 0x72 stand first,
-- WordCount at 32 is 0, and as many bytes as ByteCount at 33 says are the list behind it; all other bytes are free
pub record SaysSmb1 (payload : List ℕ) (texts : List (List ℕ)) : Type 0 where
  pub head : take 5 payload ≡ 255 ∷ 83 ∷ 77 ∷ 66 ∷ 114 ∷ []
  pub word_count : number_in 1 32 payload ≡ 0
  pub room : 35 + number_in 2 33 payload ≤ length payload
  pub list : take (number_in 2 33 payload) (drop 35 payload) ≡ dialect_list texts
  pub each : AreTexts texts

-- whether the two dialects that count are among some
abbrev pub listed : List (List ℕ) → Smb1Dialects
listed texts = record {
  smb_2_wildcard = list_any (pointwise nat_eq (codes "SMB 2.???")) texts;
  smb_2_002 = list_any (pointwise nat_eq (codes "SMB 2.002")) texts;
}

-- what bytes are: as a list, its texts; and as the rest of a list from within a text, that rest and the texts
abbrev pub texts_of : List ℕ → Option (List (List ℕ)) × Option (List (List ℕ))
texts_of [] = (Some [], None)
texts_of (byte ∷ bytes) =
    let after = texts_of bytes in (
      (if nat_eq byte 2 then after.1 else None),
      (if nat_eq byte 0 then option_map (λ texts. [] ∷ texts) after.0 else option_map (onto_first byte) after.1),
    )

-- which of the two dialects an SMB_COM_NEGOTIATE lists, and None where a payload is not one: 0xFF, the letters SMB and
-- the command 0x72 stand first, WordCount at 32 is 0, and as many bytes as ByteCount at 33 says are a list of texts
unfoldable pub smb1_of : List ℕ → Option Smb1Dialects
smb1_of payload =
    if nat_le 35 (length payload)
    && pointwise nat_eq (take 5 payload) (255 ∷ 83 ∷ 77 ∷ 66 ∷ 114 ∷ [])
    && nat_eq (number_in 1 32 payload) 0
    && nat_le (35 + number_in 2 33 payload) (length payload)
    then option_map listed (texts_of (take (number_in 2 33 payload) (drop 35 payload))).0
    else None

-- a payload says some dialects exactly where `smb1_of` tells which of the two are among them
abbrev pub Smb1IsTold : Type 0
Smb1IsTold =
    (payload : List ℕ) (dialects : Smb1Dialects) →
    ((texts : List (List ℕ)) × (SaysSmb1 payload texts × (dialects ≡ listed texts))) ↔ (smb1_of payload ≡ Some dialects)

-- and it says one list of texts at most
abbrev pub Smb1SaysOneList : Type 0
Smb1SaysOneList = (payload : List ℕ) (some other : List (List ℕ)) → SaysSmb1 payload some → SaysSmb1 payload other → some ≡ other
