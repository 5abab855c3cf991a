-- Messages with their signature in place.
use Rattle.std.proofs.Common.{◌≡◌, ℕ, ◌≤◌, List, ◌++◌, length, take, drop, true, nat_le, refl, sym, ap, ◌∙◌, arith, append_assoc}
use Rattle.std.proofs.lemmas.Bool.{le-leb}
use Rattle.std.proofs.lemmas.List.{length-take-le, take_at, drop_at, drop-drop}
use Rattle.sha2.proofs.Facts256.{length-sha256}
use Rattle.smb_signing.specs.Signature.{signature, signed}

-- a signature has 16 bytes
pub length-signature : (key message : List ℕ) → length (signature key message) ≡ 16
unfolding signature
length-signature key message = length-take-le 16 _ (rw (length-sha256) (omega arith))

-- messages with the same bytes before and behind the signature have the same
signature_of_same : (key left right : List ℕ) → take 48 left ≡ take 48 right → drop 64 left ≡ drop 64 right → signature key left ≡ signature key right
unfolding signature
signature_of_same key left right front rest = rw (front, rest) refl

-- what is written over a message's signature makes it the signed one
pub put_is_signed : (key message own : List ℕ) → 64 ≤ length message → own ≡ signature key message →
    take 48 message ++ (own ++ drop 16 (drop 48 message)) ≡ signed key message
put_is_signed key message own long e =
    let full : nat_le 64 (length message) ≡ true = le-leb 64 (length message) long in
    rw (full, e, drop-drop 16 48 message) (sym (append_assoc (take 48 message) (signature key message) (drop 64 message)))

-- the signature in a signed message is its own
pub signed_is_accepted : (key message new : List ℕ) → 64 ≤ length message → new ≡ signed key message → take 16 (drop 48 new) ≡ signature key new
signed_is_accepted key message new long e =
    let full : nat_le 64 (length message) ≡ true = le-leb 64 (length message) long in
    let front : List ℕ = take 48 message in
    let own : List ℕ = signature key message in
    let rest : List ℕ = drop 64 message in
    let front_long : length front ≡ 48 = length-take-le 48 message (omega arith) in
    let parts : new ≡ front ++ (own ++ rest) = rw full at e ∙ append_assoc front own rest in
    let behind : drop 48 new ≡ own ++ rest = ap (drop 48) parts ∙ drop_at front (own ++ rest) 48 front_long in
    ap (take 16) behind ∙ take_at own rest 16 (length-signature key message)
    ∙ signature_of_same key message new
    (sym (ap (take 48) parts ∙ take_at front (own ++ rest) 48 front_long))
    (sym (sym (drop-drop 16 48 new) ∙ ap (drop 16) behind ∙ drop_at own rest 16 (length-signature key message)))
