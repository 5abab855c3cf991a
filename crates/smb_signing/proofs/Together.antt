-- Signatures by the pieces of messages.
use Rattle.std.proofs.Common.{◌≡◌, ℕ, Option, None, Some, List, ◌++◌, ◌≤◌, IfSome, length, take, ap, ap₂, ◌∙◌, append_assoc}
use Rattle.sha2.specs.Sha256.{sha256}
use Rattle.smb_signing.specs.declared.four.Message.{Message}
use Rattle.smb_signing.specs.declared.four.Pieces.{Pieces}
use Rattle.smb_signing.specs.Pieces.{ArePiecesOf, IsSignatureOf, of_pieces}
use Rattle.smb_signing.specs.Signature.{hmac, padded_key, signature}

-- two hashes, each from its key's block on, are an HMAC
pub hmac_is : (p : Pieces) (inner outer first rest digest result : List ℕ) → inner ≡ padded_key p.key 0x36 → outer ≡ padded_key p.key 0x5C
    → first ≡ p.first → rest ≡ p.rest.now → digest ≡ sha256 ((inner ++ first) ++ rest) → result ≡ sha256 (outer ++ digest)
    → result ≡ of_pieces p
hmac_is p inner outer first rest digest result ei eo ef er ed e =
    e ∙ ap sha256 (ap₂ (λ a b. a ++ b) eo (ed ∙ ap sha256 (append_assoc inner first rest ∙ ap₂ (λ a b. a ++ b) ei (ap₂ (λ a b. a ++ b) ef er))))

-- the first bytes of it are a signature, where the pieces are a message's
pub signature_is : (o : Option Message) (p : Pieces) (digest short : List ℕ) → IfSome o (λ m. 64 ≤ length m.bytes.now → ArePiecesOf m p)
    → digest ≡ of_pieces p → short ≡ take 16 digest → IfSome o (λ m. 64 ≤ length m.bytes.now → IsSignatureOf short m)
unfolding signature
signature_is None p digest short are e es = tt {0}
signature_is (Some m) p digest short are e es = λ long.
    let parts = are long in
    es ∙ ap (take 16) (e ∙ ap₂ (hmac sha256) parts.0 (ap₂ (λ a b. a ++ b) parts.1 parts.2))
