-- Bytes in which some messages are still to be signed, and what they are once these are signed ([MS-SMB2] 3.3.4.1.1).
use Rattle.std.specs.Prelude.{◌≡◌, ℕ, ◌-◌, ◌≤◌, List, [], ◌∷◌, ◌++◌, take, drop}
use Rattle.smb_signing.specs.Signature.{signature, signed}
use Rattle.smb_head.specs.declared.unsigned.UnsignedMessage.{UnsignedMessage}

-- a message of some bytes
abbrev pub message_of : UnsignedMessage → List ℕ → List ℕ
message_of message bytes = take (message.end - message.begin) (drop message.begin bytes)

-- some bytes once one message of them is signed
abbrev pub signed_at : UnsignedMessage → List ℕ → List ℕ
signed_at message bytes =
    take message.begin bytes ++ (signed message.key.bytes (message_of message bytes) ++ drop message.end bytes)

-- some bytes once all these messages of them are signed
unfoldable pub sealed : List UnsignedMessage → List ℕ → List ℕ
sealed [] bytes = bytes
sealed (message ∷ messages) bytes = sealed messages (signed_at message bytes)

-- messages lie behind one another, from one place up to another
abbrev pub AreApart : ℕ → List UnsignedMessage → ℕ → Type 0
AreApart from [] end = from ≤ end
AreApart from (message ∷ messages) end = (from ≤ message.begin) × (message.begin ≤ message.end) × AreApart message.end messages end

-- the first of some signatures are those of these messages
abbrev pub AreSignaturesOf : List UnsignedMessage → List (List ℕ) → List ℕ → Type 0
AreSignaturesOf [] signatures bytes = Unit {0}
AreSignaturesOf (message ∷ messages) [] bytes = ⊥
AreSignaturesOf (message ∷ messages) (own ∷ signatures) bytes =
    (own ≡ signature message.key.bytes (message_of message bytes)) × AreSignaturesOf messages signatures bytes
