-- A key in its block.
use Rattle.std.proofs.Common.{◌≡◌, ℕ, zero, suc, ◌+◌, ◌-◌, ◌<◌, List, [], ◌∷◌, ◌++◌, length, set, get_or, take, drop, map, replicate, bit_xor, refl, sym, ap, ◌∙◌, arith}
use Rattle.std.proofs.lemmas.List.{take_more_set, drop-replicate, take_more, drop-set-lt, drop-drop, map-append, take-append-drop, take_all}
use Rattle.smb_signing.specs.Signature.{padded_key}
use lib.Bits.{xor_zero_r}

-- one more byte is xored
pub front_more : (block key : List ℕ) (i byte : ℕ) → i < length block → i < length key → take i block ≡ map (bit_xor byte) (take i key) →
    take (i + 1) (set block i (bit_xor byte (get_or key i 0))) ≡ map (bit_xor byte) (take (i + 1) key)
front_more block key i byte h k e =
    take_more_set block i (bit_xor byte (get_or key i 0)) h
    ∙ ap (λ (xs : List ℕ). xs ++ bit_xor byte (get_or key i 0) ∷ []) e
    ∙ sym (map-append (bit_xor byte) (take i key) (get_or key i 0 ∷ []))
    ∙ sym (ap (map (bit_xor byte)) (take_more key i 0 k))

-- the bytes behind it are still the byte alone
pub back_more : (block : List ℕ) (i byte u : ℕ) → drop i block ≡ replicate (64 - i) byte → drop (i + 1) (set block i u) ≡ replicate (64 - (i + 1)) byte
back_more block i byte u e =
    drop-set-lt (i + 1) block i u (omega arith)
    ∙ sym (drop-drop 1 i block)
    ∙ ap (λ (xs : List ℕ). drop 1 xs) e
    ∙ drop-replicate 1 (64 - i) byte
    ∙ ap (λ (n : ℕ). replicate n byte) (omega arith)

map_zeros : (n byte : ℕ) → map (bit_xor byte) (replicate n 0) ≡ replicate n byte
map_zeros zero byte = refl
map_zeros (suc n) byte = rw (xor_zero_r byte, map_zeros n byte) refl

-- the block, once each byte of the key is xored
pub all_padded : (block key : List ℕ) (byte : ℕ) → take (length key) block ≡ map (bit_xor byte) (take (length key) key) →
    drop (length key) block ≡ replicate (64 - length key) byte → block ≡ padded_key key byte
all_padded block key byte front back =
    sym (take-append-drop (length key) block)
    ∙ ap (λ (xs : List ℕ). xs ++ drop (length key) block) (front ∙ ap (map (bit_xor byte)) (take_all (length key) key (omega arith)))
    ∙ ap (λ (xs : List ℕ). map (bit_xor byte) key ++ xs) (back ∙ sym (map_zeros (64 - length key) byte))
    ∙ sym (map-append (bit_xor byte) key (replicate (64 - length key) 0))
