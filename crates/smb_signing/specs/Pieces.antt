-- For the proofs; nothing here need be believed.
-- The pieces in which a message is hashed.
use Rattle.std.specs.Prelude.{◌≡◌, ℕ, List, ◌++◌, take, drop, replicate}
use Rattle.sha2.specs.Sha256.{sha256}
use Rattle.smb_signing.specs.declared.four.Message.{Message}
use Rattle.smb_signing.specs.declared.four.Pieces.{Pieces}
use Rattle.smb_signing.specs.Signature.{hmac, signature}

-- the pieces of a message with a whole header
abbrev pub ArePiecesOf : Message → Pieces → Type 0
ArePiecesOf m p = (p.key ≡ m.key.bytes) × (p.first ≡ take 48 m.bytes.now ++ replicate 16 0) × (p.rest.now ≡ drop 64 m.bytes.now)

-- the HMAC-SHA256 of what the pieces are of
abbrev pub of_pieces : Pieces → List ℕ
of_pieces p = hmac sha256 p.key (p.first ++ p.rest.now)

-- these bytes are a message's signature
abbrev pub IsSignatureOf : List ℕ → Message → Type 0
IsSignatureOf bytes m = bytes ≡ signature m.key.bytes m.bytes.now
