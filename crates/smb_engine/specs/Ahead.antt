-- For the proofs; nothing here need be believed.
-- Signatures of payloads that are computed before they are asked for.
use Rattle.std.specs.Prelude.{◌≡◌, ℕ, List, [], ◌∷◌, Option, None, Some, IfSome}
use Rattle.smb_signing.specs.declared.known.KnownSignature.{KnownSignature}
use Rattle.smb_signing.specs.Signature.{signature}

-- a signature that is known is this message's, by its key
abbrev pub IsKnownOf : List ℕ → Option KnownSignature → Type 0
IsKnownOf message known = IfSome known (λ known. known.own ≡ signature known.key.bytes message)

-- what is known of the first of some payloads, in order
abbrev pub AreKnownOf : List (List ℕ) → List (Option KnownSignature) → Type 0
AreKnownOf [] known = Unit {0}
AreKnownOf (payload ∷ payloads) [] = Unit {0}
AreKnownOf (payload ∷ payloads) (own ∷ known) = IsKnownOf payload own × AreKnownOf payloads known

-- the payload that was found, if it was, before others
abbrev pub followed : Option (List ℕ) → List (List ℕ) → List (List ℕ)
followed None payloads = []
followed (Some payload) payloads = payload ∷ payloads
