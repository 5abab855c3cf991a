-- Signatures that are computed before they are asked for.
use Rattle.std.proofs.Common.{◌≡◌, ℕ, zero, suc, ◌+◌, ◌-◌, List, [], ◌∷◌, ◌++◌, length, take, drop, Option, None, Some, Bor, slice_get, refl, ap, ◌∙◌, arith, append-nil}
use Rattle.std.specs.Prelude.{IfSome}
use Rattle.std.specs.Option.{option_map}
use Rattle.std.proofs.lemmas.List.{drop-drop}
use Rattle.smb_wire.specs.Limits.{longest_payload}
use Rattle.smb_frame.specs.Reading.{first, payloads}
use Rattle.smb_frame.proofs.Streams.{payloads-some}
use Rattle.smb_head.specs.Chains.{chain_of}
use Rattle.smb_head.proofs.Chaining.{chain_is}
use Rattle.smb_signing.specs.declared.four.Message.{Message}
use Rattle.smb_signing.specs.declared.known.KnownSignature.{KnownSignature}
use Rattle.smb_engine.specs.Ahead.{IsKnownOf, AreKnownOf, followed}
use Rattle.smb_engine.proofs.SoFar.{tail_is}

pub none_known : (payloads : List (List ℕ)) → AreKnownOf payloads []
none_known [] = tt
none_known (payload ∷ payloads) = tt

skip_one : (payloads : List (List ℕ)) (known : List (Option KnownSignature)) → ((others : List (List ℕ)) → AreKnownOf others known) → AreKnownOf payloads (None ∷ known)
skip_one [] known h = tt
skip_one (payload ∷ payloads) known h = (tt, h payloads)

pub four_unknown : (payloads : List (List ℕ)) → AreKnownOf payloads (None ∷ None ∷ None ∷ None ∷ [])
four_unknown payloads = skip_one payloads (None ∷ None ∷ None ∷ []) (λ p. skip_one p (None ∷ None ∷ []) (λ q. skip_one q (None ∷ []) (λ r. skip_one r [] none_known)))

-- of one payload that was found, and of those behind it
known_more : (payloads others : List (List ℕ)) (found : Option (List ℕ)) (own : Option KnownSignature) (known : List (Option KnownSignature)) → payloads ≡ followed found others →
    IfSome found (λ payload. IsKnownOf payload own) → AreKnownOf others known → AreKnownOf payloads (own ∷ known)
known_more payloads others None own known e k h = rw e tt
known_more payloads others (Some payload) own known e k h = rw e (k, h)

pub four_known : (p q r s t : List (List ℕ)) (a b c d : Option (List ℕ)) (w x y z : Option KnownSignature) → p ≡ followed a q → q ≡ followed b r → r ≡ followed c s → s ≡ followed d t →
    IfSome a (λ payload. IsKnownOf payload w) → IfSome b (λ payload. IsKnownOf payload x) → IfSome c (λ payload. IsKnownOf payload y) → IfSome d (λ payload. IsKnownOf payload z) →
    AreKnownOf p (w ∷ x ∷ y ∷ z ∷ [])
four_known p q r s t a b c d w x y z e f g h i j k l =
    known_more p q a w (x ∷ y ∷ z ∷ []) e i (known_more q r b x (y ∷ z ∷ []) f j (known_more r s c y (z ∷ []) g k (known_more s t d z [] h l (none_known t))))

-- what is known of a message that was made of a payload
pub known_is : (payload : Option (Bor (List ℕ))) (message : Option Message) (own : Option KnownSignature) →
    IfSome message (λ message. IfSome payload (λ payload. message.bytes.now ≡ payload.now)) → IfSome message (λ message. IsKnownOf message.bytes.now own) → (message ≡ None → own ≡ None) →
    IfSome (option_map (λ payload. payload.now) payload) (λ payload. IsKnownOf payload own)
known_is None message own same known none = tt
known_is (Some payload) None own same known none = rw (none refl) tt
known_is (Some payload) (Some message) own same known none = rw (← same) known

-- one of four was taken
more_unknown : (payloads : List (List ℕ)) (known : List (Option KnownSignature)) → AreKnownOf payloads known → AreKnownOf payloads (known ++ None ∷ [])
more_unknown [] [] h = tt
more_unknown [] (own ∷ known) h = tt
more_unknown (payload ∷ payloads) [] h = (tt, none_known payloads)
more_unknown (payload ∷ payloads) (own ∷ known) h = (h.0, more_unknown payloads known h.1)

pub one_taken : (payload : List ℕ) (others : List (List ℕ)) (w x y z : Option KnownSignature) → AreKnownOf (payload ∷ others) (w ∷ x ∷ y ∷ z ∷ []) → AreKnownOf others (x ∷ y ∷ z ∷ None ∷ [])
one_taken payload others w x y z h = more_unknown others (x ∷ y ∷ z ∷ []) h.1

-- the payloads of a stream from one that was found on
pub payloads_from : (bytes : List ℕ) (used next : ℕ) (payload : List ℕ) → first longest_payload (drop used bytes) ≡ Some payload → next ≡ used + (length payload + 4) →
    payloads longest_payload (take (length bytes - used) (drop used bytes)) ≡ payload ∷ payloads longest_payload (drop next bytes)
payloads_from bytes used next payload f n =
    ap (payloads longest_payload) (tail_is bytes used) ∙ payloads-some longest_payload (drop used bytes) payload f
    ∙ ap (λ (l : List ℕ). payload ∷ payloads longest_payload l) (drop-drop (length payload + 4) used bytes ∙ ap (λ (k : ℕ). drop k bytes) (omega (arith, n)))

-- a chain of one request is that request
pub one_whole : (payload request : List ℕ) (requests : List (List ℕ)) (i : ℕ) → chain_of payload ≡ Some requests → length requests ≡ 1 → slice_get requests i ≡ Some request → payload ≡ request
one_whole payload request [] i h one at = absurd (omega (arith, one))
one_whole payload request (first ∷ []) zero h one at =
    let same : first ≡ request = cc in
    (chain_is payload (first ∷ []) h).whole ∙ append-nil first ∙ same
one_whole payload request (first ∷ []) (suc i) h one at = absurd (cc)
one_whole payload request (first ∷ next ∷ requests) i h one at = absurd (omega (arith, one))
