-- The bytes of tokens.
use Rattle.std.proofs.Common.{◌≡◌, ℕ, nat_lt, cond, List, ◌∷◌, ◌++◌, length, refl, sym, ap, ◌∙◌, arith, length-append}
use Rattle.smb_wire.specs.Number.{spelling}
use Rattle.smb_ntlm.specs.declared.token.Wrapping.TheVariants.{Raw, Init, Response}
use Rattle.smb_ntlm.specs.Messages.{challenge_message}
use Rattle.smb_ntlm.specs.Tokens.{element_of, answer_token, neg_token_resp, neg_state, supported_mech, response_field}

-- an element by the length of its contents
element_at : (tag : ℕ) (contents : List ℕ) (n : ℕ) → length contents ≡ n → element_of tag contents ≡ cond (nat_lt n 0x80) (tag ∷ n ∷ contents) (tag ∷ 0x81 ∷ n ∷ contents)
unfolding element_of
element_at tag contents n e = rw e refl

-- a responseToken of 116 bytes
field_at : (message : List ℕ) → length message ≡ 116 → response_field message ≡ 0xA2 ∷ 0x76 ∷ 0x04 ∷ 0x74 ∷ message
field_at message e =
    ap (element_of 0xA2) (element_at 0x04 message 116 e) ∙ element_at 0xA2 (0x04 ∷ 0x74 ∷ message) 118 (omega (arith, e))

first_fields : (message : List ℕ) → neg_state 1 ++ supported_mech ++ (0xA2 ∷ 0x76 ∷ 0x04 ∷ 0x74 ∷ message) ≡ 0xA0 ∷ 0x03 ∷ 0x0A ∷ 0x01 ∷ 0x01 ∷ 0xA1 ∷ 0x0C ∷ 0x06 ∷ 0x0A ∷ 0x2B ∷ 0x06 ∷ 0x01 ∷ 0x04 ∷ 0x01 ∷ 0x82 ∷ 0x37 ∷ 0x02 ∷ 0x02 ∷ 0x0A ∷ 0xA2 ∷ 0x76 ∷ 0x04 ∷ 0x74 ∷ message
unfolding element_of
first_fields message = refl

later_fields : (message : List ℕ) → neg_state 1 ++ (0xA2 ∷ 0x76 ∷ 0x04 ∷ 0x74 ∷ message) ≡ 0xA0 ∷ 0x03 ∷ 0x0A ∷ 0x01 ∷ 0x01 ∷ 0xA2 ∷ 0x76 ∷ 0x04 ∷ 0x74 ∷ message
unfolding element_of
later_fields message = refl

pub front_raw : (message : List ℕ) → message ≡ answer_token Raw message
unfolding answer_token
front_raw message = refl

pub front_first : (message : List ℕ) → length message ≡ 116 →
    0xA1 ∷ 0x81 ∷ 0x8E ∷ 0x30 ∷ 0x81 ∷ 0x8B ∷ 0xA0 ∷ 0x03 ∷ 0x0A ∷ 0x01 ∷ 0x01 ∷ 0xA1 ∷ 0x0C ∷ 0x06 ∷ 0x0A ∷ 0x2B ∷ 0x06 ∷ 0x01 ∷ 0x04 ∷ 0x01 ∷ 0x82 ∷ 0x37 ∷ 0x02 ∷ 0x02 ∷ 0x0A ∷ 0xA2 ∷ 0x76 ∷ 0x04 ∷ 0x74 ∷ message
    ≡ answer_token Init message
unfolding answer_token
front_first message e =
    let fields : List ℕ = 0xA0 ∷ 0x03 ∷ 0x0A ∷ 0x01 ∷ 0x01 ∷ 0xA1 ∷ 0x0C ∷ 0x06 ∷ 0x0A ∷ 0x2B ∷ 0x06 ∷ 0x01 ∷ 0x04 ∷ 0x01 ∷ 0x82 ∷ 0x37 ∷ 0x02 ∷ 0x02 ∷ 0x0A ∷ 0xA2 ∷ 0x76 ∷ 0x04 ∷ 0x74 ∷ message in
    sym (
    ap (λ (field : List ℕ). neg_token_resp (neg_state 1 ++ supported_mech ++ field)) (field_at message e)
    ∙ ap neg_token_resp (first_fields message)
    ∙ ap (element_of 0xA1) (element_at 0x30 fields 139 (omega (arith, e)))
    ∙ element_at 0xA1 (0x30 ∷ 0x81 ∷ 0x8B ∷ fields) 142 (omega (arith, e))
    )

pub front_later : (message : List ℕ) → length message ≡ 116 →
    0xA1 ∷ 0x7F ∷ 0x30 ∷ 0x7D ∷ 0xA0 ∷ 0x03 ∷ 0x0A ∷ 0x01 ∷ 0x01 ∷ 0xA2 ∷ 0x76 ∷ 0x04 ∷ 0x74 ∷ message ≡ answer_token Response message
unfolding answer_token
front_later message e =
    let fields : List ℕ = 0xA0 ∷ 0x03 ∷ 0x0A ∷ 0x01 ∷ 0x01 ∷ 0xA2 ∷ 0x76 ∷ 0x04 ∷ 0x74 ∷ message in
    sym (
    ap (λ (field : List ℕ). neg_token_resp (neg_state 1 ++ field)) (field_at message e)
    ∙ ap neg_token_resp (later_fields message)
    ∙ ap (element_of 0xA1) (element_at 0x30 fields 125 (omega (arith, e)))
    ∙ element_at 0xA1 (0x30 ∷ 0x7D ∷ fields) 127 (omega (arith, e))
    )

-- a CHALLENGE has 116 bytes
pub length-challenge_message : (asked : ℕ) (challenge : List ℕ) → length challenge ≡ 8 → length (challenge_message asked challenge) ≡ 116
unfolding challenge_message spelling
length-challenge_message asked challenge e = simp (length-append, e) refl
