-- The messages of NTLM ([MS-NLMP] 2.2.1). A number has its lowest byte first; places count from the first byte.
use Rattle.std.specs.Prelude.{ℕ, ◌+◌, nat_eq, nat_le, nat_lt, ◌==◌, ◌&&◌, ◌||◌, not, if◌then◌else◌, Bool, List, [], ◌∷◌, ◌++◌, length, Option, Some, None, codes, bit_and, bit_or}
use Rattle.std.specs.List.{starts_with}
use Rattle.smb_wire.specs.Number.{field_at}
use Rattle.smb_wire.specs.Fields.{Field, num, raw, number_in, joined}
use Rattle.smb_ntlm.specs.Der.{and_then}
use Rattle.smb_ntlm.specs.SigningModes.{is_on}
use Rattle.smb_ntlm.specs.declared.signing.SigningMode.{SigningMode}
use Rattle.smb_ntlm.specs.declared.messages.Login.{Login}

-- Signature: "NTLMSSP" and a zero byte
abbrev pub signature : List ℕ
signature = codes "NTLMSSP" ++ 0 ∷ []

-- the bytes begin as a message does
abbrev pub has_signature : List ℕ → Bool
has_signature bytes = starts_with nat_eq bytes signature

-- NTLMSSP_NEGOTIATE_UNICODE (2.2.2.5)
abbrev pub has_unicode : ℕ → Bool
has_unicode flags = not (bit_and flags 1 == 0)

-- MessageType: 1 NEGOTIATE, 2 CHALLENGE, 3 AUTHENTICATE
abbrev pub message_type : List ℕ → ℕ
message_type message = number_in 4 8 message

-- NegotiateFlags of a NEGOTIATE (2.2.1.1)
abbrev pub asked_flags : List ℕ → ℕ
asked_flags message = number_in 4 12 message

-- a message that a client sends: 16 bytes or more, the signature, and type 1 or 3
abbrev pub is_message : List ℕ → Bool
is_message bytes =
    has_signature bytes && (nat_le 16 (length bytes) && (message_type bytes == 1 || message_type bytes == 3))

-- what an AUTHENTICATE says: NtChallengeResponse, DomainName and UserName
pub record LoginAsked : Type 0 where
  pub response : List ℕ
  pub domain : List ℕ
  pub user : List ℕ

-- a login's value, without where its parts lie in memory
abbrev pub login_asked : Login → LoginAsked
login_asked l = record { response = l.response.now; domain = l.domain.now; user = l.user.now }

-- what a field at a place names by its length (2 bytes), a room (2) and its offset (4): no bytes where the length is 0,
-- and none where they pass the end
unfoldable pub payload : ℕ → List ℕ → Option (List ℕ)
payload place message =
    if number_in 2 place message == 0 then Some []
    else field_at (number_in 2 place message) message (number_in 4 (place + 4) message)

-- NtChallengeResponseFields stand at 20, DomainNameFields at 28, UserNameFields at 36, NegotiateFlags at 60 (2.2.1.3)
unfoldable pub login_in : List ℕ → Option LoginAsked
login_in message =
    if nat_lt (length message) 64 || not (has_unicode (number_in 4 60 message)) then None
    else and_then (payload 20 message) λ response.
    and_then (payload 28 message) λ domain.
    and_then (payload 36 message) λ user.
    Some (record { response = response; domain = domain; user = user })

-- the flags of a CHALLENGE (2.2.2.5). Of those asked for it repeats 56, 128, EXTENDED_SESSIONSECURITY, ALWAYS_SIGN,
-- SEAL, SIGN, REQUEST_TARGET and UNICODE, and KEY_EXCH, 0x40000000, unless signing is on; it always has TARGET_INFO,
-- TARGET_TYPE_SERVER, NTLM and UNICODE
abbrev pub answered_flags : SigningMode → ℕ → ℕ
answered_flags mode asked = bit_or (bit_and asked (if is_on mode then 0xA0088035 else 0xE0088035)) 0x00820201

-- the server's name, "SMBSHARE" in UTF-16LE
abbrev pub target_name : List ℕ
target_name = 83 ∷ 0 ∷ 77 ∷ 0 ∷ 66 ∷ 0 ∷ 83 ∷ 0 ∷ 72 ∷ 0 ∷ 65 ∷ 0 ∷ 82 ∷ 0 ∷ 69 ∷ 0 ∷ []

-- a CHALLENGE (2.2.1.2) with these flags and this challenge, up to where its payload begins
abbrev pub head_fields : ℕ → List ℕ → List Field
head_fields flags challenge =
    raw 0 8 signature  -- Signature
    ∷ num 8 4 2  -- MessageType
    ∷ num 12 2 16  -- TargetNameFields: Len
    ∷ num 14 2 16  -- MaxLen
    ∷ num 16 4 56  -- BufferOffset
    ∷ num 20 4 flags  -- NegotiateFlags
    ∷ raw 24 8 challenge  -- ServerChallenge
    ∷ num 32 8 0  -- Reserved
    ∷ num 40 2 44  -- TargetInfoFields: Len
    ∷ num 42 2 44  -- MaxLen
    ∷ num 44 4 72  -- BufferOffset
    ∷ num 48 8 0  -- Version
    ∷ []

-- its payload: the server's name, and the same as that of a domain and of a computer
abbrev pub target_fields : List Field
target_fields =
    raw 56 16 target_name  -- TargetName
    ∷ num 72 2 2  -- TargetInfo (2.2.2.1): MsvAvNbDomainName
    ∷ num 74 2 16  -- AvLen
    ∷ raw 76 16 target_name  -- Value
    ∷ num 92 2 1  -- MsvAvNbComputerName
    ∷ num 94 2 16  -- AvLen
    ∷ raw 96 16 target_name  -- Value
    ∷ num 112 4 0  -- MsvAvEOL
    ∷ []

-- the bytes of that CHALLENGE
unfoldable pub challenge_message : ℕ → List ℕ → List ℕ
challenge_message flags challenge = joined (head_fields flags challenge ++ target_fields)
