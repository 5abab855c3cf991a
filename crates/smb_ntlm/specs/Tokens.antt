-- Tokens: messages of NTLM as they come and go, by themselves or in SPNEGO (RFC 4178, 4.2).
use Rattle.std.specs.Prelude.{ℕ, nat_lt, ◌==◌, not, ◌&&◌, if◌then◌else◌, Bool, true, false, List, [], ◌∷◌, ◌++◌, length, slice_index, Option, Some}
use Rattle.std.specs.Option.{option_map}
use Rattle.smb_ntlm.specs.Spnego.{spnego_oid, ntlm_oid, init_token, response_token}
use Rattle.smb_ntlm.specs.Messages.{has_signature}
use Rattle.smb_ntlm.specs.declared.token.Wrapping.{Wrapping}
use Rattle.smb_ntlm.specs.declared.token.Wrapping.TheVariants.{Raw, Init, Response}
use Rattle.smb_ntlm.specs.declared.token.Token.{Token}

-- a message, and what it is wrapped in
pub record Wrapped : Type 0 where
  pub wrapping : Wrapping
  pub message : List ℕ

-- a token's value, without where its message lies in memory
abbrev pub wrapped : Token → Wrapped
wrapped token = record { wrapping = token.wrapping; message = token.message.now }

-- a message by itself, or within a NegTokenInit, which begins with 60, or else a NegTokenResp
unfoldable pub wrapped_in : List ℕ → Option Wrapped
wrapped_in token =
    if has_signature token then Some (record { wrapping = Raw; message = token })
    else if slice_index token 0 == 0x60
    then option_map (λ message. record { wrapping = Init; message = message }) (init_token token)
    else option_map (λ message. record { wrapping = Response; message = message }) (response_token token)

-- a token is a NegTokenInit
abbrev pub is_init : Wrapping → Bool
is_init Raw = false
is_init Init = true
is_init Response = false

-- a NegTokenInit that lists NTLM, but has no token, or that of another mechanism, which stands first (RFC 4178, 3.2)
abbrev pub prefers_another : Wrapped → Bool
prefers_another token = is_init token.wrapping && not (has_signature token.message)

-- an element as it is written, in the shortest form (ITU-T X.690, 10.1): its tag, its length, here below 256, and its
-- contents
unfoldable pub element_of : ℕ → List ℕ → List ℕ
element_of tag contents =
    if nat_lt (length contents) 0x80 then tag ∷ length contents ∷ contents else tag ∷ 0x81 ∷ length contents ∷ contents

-- a NegTokenResp with these fields
abbrev pub neg_token_resp : List ℕ → List ℕ
neg_token_resp fields = element_of 0xA1 (element_of 0x30 fields)

-- negState [0]: 0 accept-completed, 1 accept-incomplete
abbrev pub neg_state : ℕ → List ℕ
neg_state state = element_of 0xA0 (element_of 0x0A (state ∷ []))

-- supportedMech [1]: NTLM
abbrev pub supported_mech : List ℕ
supported_mech = element_of 0xA1 (element_of 0x06 ntlm_oid)

-- responseToken [2]
abbrev pub response_field : List ℕ → List ℕ
response_field message = element_of 0xA2 (element_of 0x04 message)

-- the token offered first: a NegTokenInit (RFC 4178, 4.2.1; RFC 2743, 3.1) that lists NTLM alone
unfoldable pub hello_token : List ℕ
hello_token =
    element_of 0x60
    (spnego_oid ++ element_of 0xA0 (element_of 0x30 (element_of 0xA0 (element_of 0x30 (element_of 0x06 ntlm_oid)))))

-- NTLM is asked for
unfoldable pub ask_token : List ℕ
ask_token = neg_token_resp (neg_state 1 ++ supported_mech)

-- a message, wrapped as the token was that it answers: the first answer in SPNEGO names the mechanism
unfoldable pub answer_token : Wrapping → List ℕ → List ℕ
answer_token Raw message = message
answer_token Init message = neg_token_resp (neg_state 1 ++ supported_mech ++ response_field message)
answer_token Response message = neg_token_resp (neg_state 1 ++ response_field message)

-- the last token: none where messages come by themselves
unfoldable pub last_token : Wrapping → List ℕ
last_token Raw = []
last_token Init = neg_token_resp (neg_state 0)
last_token Response = neg_token_resp (neg_state 0)
