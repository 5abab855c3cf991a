-- SPNEGO (RFC 4178): the two tokens that a client sends, and the mechanism token within.
use Rattle.std.specs.Prelude.{ℕ, nat_eq, Bool, false, if◌then◌else◌, List, [], ◌∷◌, length, drop, slice_index, Option, Some, None, ◌==◌}
use Rattle.std.specs.Option.{option_map_or}
use Rattle.std.specs.List.{list_any, starts_with}
use Rattle.std.specs.Str.{bytes_eq}
use Rattle.smb_ntlm.specs.Der.{Parted, and_then, element, whole, behind, elements}

-- OBJECT IDENTIFIER 1.3.6.1.5.5.2, SPNEGO, as an element (RFC 4178, 3.2)
abbrev pub spnego_oid : List ℕ
spnego_oid = 0x06 ∷ 0x06 ∷ 0x2b ∷ 0x06 ∷ 0x01 ∷ 0x05 ∷ 0x05 ∷ 0x02 ∷ []

-- the contents of OBJECT IDENTIFIER 1.3.6.1.4.1.311.2.2.10, NTLM ([MS-SPNG] 1.9)
abbrev pub ntlm_oid : List ℕ
ntlm_oid = 0x2b ∷ 0x06 ∷ 0x01 ∷ 0x04 ∷ 0x01 ∷ 0x82 ∷ 0x37 ∷ 0x02 ∷ 0x02 ∷ 0x0a ∷ []

-- NTLM is among the mechanisms, which are all object identifiers
unfoldable pub lists_ntlm : List ℕ → Bool
lists_ntlm mechanisms =
    option_map_or (list_any (bytes_eq ntlm_oid)) (elements (length mechanisms) 0x06 mechanisms) false

-- what follows the identifier of SPNEGO
unfoldable pub behind_spnego : List ℕ → Option (List ℕ)
behind_spnego frame = if starts_with nat_eq frame spnego_oid then Some (drop 8 frame) else None

-- the OCTET STRING in an optional [2]; no bytes where it is left out
unfoldable pub token_field : List ℕ → Option (List ℕ)
token_field fields =
    if slice_index fields 0 == 0xA2 then and_then (element 0xA2 fields) (λ e. whole 0x04 e.contents) else Some []

-- nothing is left
abbrev pub if_at_end : List ℕ → List ℕ → Option (List ℕ)
if_at_end token rest = if length rest == 0 then Some token else None

-- the last fields of either token: mechToken or responseToken [2], which is given, and mechListMIC [3], both optional
unfoldable pub last_fields : List ℕ → Option (List ℕ)
last_fields fields =
    and_then (token_field fields) λ token.
    and_then (behind 0xA2 fields) λ rest.
    and_then (behind 0xA3 rest) (if_at_end token)

-- the fields of a NegTokenInit behind its mechTypes, where NTLM is among these: reqFlags [1], and the last ones
abbrev pub behind_types : Parted → Option (List ℕ)
behind_types types =
    and_then (whole 0x30 types.contents) λ mechanisms.
    if lists_ntlm mechanisms then and_then (behind 0xA1 types.rest) last_fields else None

-- the mechToken of a NegTokenInit (4.2.1) that offers NTLM, in the frame of RFC 2743, 3.1; no bytes where it is left
-- out
unfoldable pub init_token : List ℕ → Option (List ℕ)
init_token token =
    and_then (whole 0x60 token) λ frame.
    and_then (behind_spnego frame) λ choice.
    and_then (whole 0xA0 choice) λ sequence.
    and_then (whole 0x30 sequence) λ fields.
    and_then (element 0xA0 fields) behind_types

-- the responseToken of a NegTokenResp (4.2.2): its fields are negState [0], supportedMech [1] and the last ones, all
-- optional
unfoldable pub response_token : List ℕ → Option (List ℕ)
response_token token =
    and_then (whole 0xA1 token) λ sequence.
    and_then (whole 0x30 sequence) λ fields.
    and_then (behind 0xA0 fields) λ rest.
    and_then (behind 0xA1 rest) last_fields
