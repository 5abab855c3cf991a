-- What a place for outputs holds.
use Rattle.std.proofs.Common.{◌≡◌, ℕ, List, [], ◌∷◌, ◌++◌, length, take, map, refl, sym, ap, ◌∙◌}
use Rattle.std.proofs.lemmas.List.{take-map, length-map}
use Rattle.std.specs.List.{flat_map}
use Rattle.std.proofs.lemmas.Grind.{flat_map-append}
use Rattle.smb_engine.specs.Output.{Output, output_bytes}
use Rattle.smb_engine.specs.Sink.{Heard, whole, byte, hears_whole, hears_bytes}

output_heard : Heard → List Output
output_heard (whole output) = output ∷ []
output_heard (byte n) = []

bytes_heard : Heard → List ℕ
bytes_heard (whole output) = []
bytes_heard (byte n) = n ∷ []

heard-whole : (outputs : List Output) → flat_map output_heard (map whole outputs) ≡ outputs
unfolding output_heard
heard-whole [] = refl
heard-whole (o ∷ outputs) = ap (λ t. o ∷ t) (heard-whole outputs)

whole-hears : (outputs : List Output) → flat_map hears_whole outputs ≡ map whole outputs
whole-hears [] = refl
whole-hears (o ∷ outputs) = ap (λ t. whole o ∷ t) (whole-hears outputs)

heard-byte : (bytes : List ℕ) → flat_map bytes_heard (map byte bytes) ≡ bytes
unfolding bytes_heard
heard-byte [] = refl
heard-byte (x ∷ bytes) = ap (λ t. x ∷ t) (heard-byte bytes)

bytes-hears : (outputs : List Output) → flat_map bytes_heard (flat_map hears_bytes outputs) ≡ flat_map output_bytes outputs
bytes-hears [] = refl
bytes-hears (o ∷ outputs) =
    flat_map-append bytes_heard (hears_bytes o) (flat_map hears_bytes outputs)
    ∙ ap (λ t. t ++ flat_map bytes_heard (flat_map hears_bytes outputs)) (heard-byte (output_bytes o))
    ∙ ap (λ t. output_bytes o ++ t) (bytes-hears outputs)

pub same_outputs : (a b : List Output) → map whole a ≡ map whole b → a ≡ b
same_outputs a b h = sym (heard-whole a) ∙ ap (flat_map output_heard) h ∙ heard-whole b

pub same_bytes : (a b : List ℕ) → map byte a ≡ map byte b → a ≡ b
same_bytes a b h = sym (heard-byte a) ∙ ap (flat_map bytes_heard) h ∙ heard-byte b

pub outputs_more : (a b outputs : List Output) → map whole a ≡ map whole b ++ flat_map hears_whole outputs → a ≡ b ++ outputs
outputs_more a b outputs h =
    sym (heard-whole a) ∙ ap (flat_map output_heard) h ∙ flat_map-append output_heard (map whole b) (flat_map hears_whole outputs)
    ∙ ap (λ t. t ++ flat_map output_heard (flat_map hears_whole outputs)) (heard-whole b)
    ∙ ap (λ t. b ++ t) (ap (flat_map output_heard) (whole-hears outputs) ∙ heard-whole outputs)

pub bytes_more : (a b : List ℕ) (outputs : List Output) → map byte a ≡ map byte b ++ flat_map hears_bytes outputs → a ≡ b ++ flat_map output_bytes outputs
bytes_more a b outputs h =
    sym (heard-byte a) ∙ ap (flat_map bytes_heard) h ∙ flat_map-append bytes_heard (map byte b) (flat_map hears_bytes outputs)
    ∙ ap (λ t. t ++ flat_map bytes_heard (flat_map hears_bytes outputs)) (heard-byte b)
    ∙ ap (λ t. b ++ t) (bytes-hears outputs)

pub kept-map : {X Y : Type 0} (f : X → Y) (a b : List X) → take (length a) b ≡ a → take (length (map f a)) (map f b) ≡ map f a
kept-map f a b h = ap (λ n. take n (map f b)) (length-map a f) ∙ take-map f (length a) b ∙ ap (map f) h
