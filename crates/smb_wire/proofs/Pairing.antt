-- Pairs of bytes and the units that they spell.
use Rattle.std.proofs.Common.{◌≡◌, ℕ, zero, suc, ◌+◌, ◌-◌, ◌*◌, ◌/◌, ◌%◌, ◌^◌, ◌<◌, ◌≤◌, List, [], ◌∷◌, length, get_or, take, drop, map, refl, sym, ap, ◌∙◌, arith, length-drop}
use Rattle.std.proofs.lemmas.List.{length-take-le, get_or-drop, take-map, drop-map}
use Rattle.std.specs.Simd.{first_chunks}
use Rattle.std.specs.List.{flat_map, slice_range}
use Rattle.smb_wire.specs.Number.{IsBytes, number, spelling}
use Rattle.smb_wire.specs.Pairs.{AllPairs, AreUnits, unit_bytes, units_in}
use Rattle.smb_wire.proofs.Numbers.{spelling_of_number}

-- two bytes
abbrev pub IsPair : List ℕ → Type 0
IsPair pair = (length pair ≡ 2) × IsBytes pair

pub pair_bytes : (pair : List ℕ) → IsPair pair → spelling 2 (number pair) ≡ pair
pair_bytes pair p = let e = spelling_of_number pair p.1 in rw p.0 at e

tail_pairs : (p : List ℕ) (ps : List (List ℕ)) → AllPairs (p ∷ ps) → AllPairs ps
tail_pairs p ps h = record { each = λ i k. h.each (suc i) (omega arith) }

head_pair : (p : List ℕ) (ps : List (List ℕ)) → AllPairs (p ∷ ps) → IsPair p
head_pair p ps h = h.each 0 (omega arith)

cons_pairs : (p : List ℕ) (ps : List (List ℕ)) → IsPair p → AllPairs ps → AllPairs (p ∷ ps)
cons_pairs p ps h t = record { each = cases }
  where
    cases : (i : ℕ) → i < length (p ∷ ps) → IsPair (get_or (p ∷ ps) i [])
    cases zero k = h
    cases (suc i) k = t.each i (omega arith)

-- the bytes of the units that pairs spell are the pairs, one after the other
pub all_bytes : (pairs : List (List ℕ)) → AllPairs pairs → unit_bytes (map number pairs) ≡ flat_map (λ x. x) pairs
all_bytes [] h = refl
all_bytes (p ∷ ps) h = rw (pair_bytes p (head_pair p ps h), all_bytes ps (tail_pairs p ps h)) refl

pub pair_fits : (pair : List ℕ) → IsPair pair → number pair < 2 ^ 16
pair_fits [] p = absurd (omega (arith, p.0))
pair_fits (a ∷ []) p = absurd (omega (arith, p.0))
pair_fits (a ∷ b ∷ []) p = omega (arith, p.1 0, p.1 1)
pair_fits (a ∷ b ∷ c ∷ cs) p = absurd (omega (arith, p.0))

-- the units that pairs spell fit
pub all_fit : (pairs : List (List ℕ)) (i : ℕ) → AllPairs pairs → get_or (map number pairs) i 0 < 2 ^ 16
all_fit [] i h = omega arith
all_fit (p ∷ ps) zero h = pair_fits p (head_pair p ps h)
all_fit (p ∷ ps) (suc i) h = all_fit ps i (tail_pairs p ps h)

-- a range of the units is the units of a range
pub units_range : (pairs : List (List ℕ)) (from to : ℕ) → map number (slice_range pairs from to) ≡ slice_range (map number pairs) from to
units_range pairs from to = sym (ap (λ us. take (to - from) us) (drop-map number from pairs) ∙ take-map number (to - from) (drop from pairs))

take_fits : (n : ℕ) (xs : List ℕ) → IsBytes xs → IsBytes (take n xs)
take_fits zero xs h i = omega arith
take_fits (suc n) [] h i = omega arith
take_fits (suc n) (x ∷ xs) h zero = h 0
take_fits (suc n) (x ∷ xs) h (suc i) = take_fits n xs (λ j. h (suc j)) i

-- the pairs that bytes are cut into are pairs
pub chunks_pairs : (k : ℕ) (bytes : List ℕ) → 2 * k ≤ length bytes → IsBytes bytes → AllPairs (first_chunks 2 k bytes)
chunks_pairs zero bytes e h = record { each = λ i k. absurd (omega arith) }
chunks_pairs (suc k) bytes e h =
    cons_pairs (take 2 bytes) (first_chunks 2 k (drop 2 bytes))
    (length-take-le 2 bytes (omega arith), take_fits 2 bytes h)
    (chunks_pairs k (drop 2 bytes) (omega (arith, length-drop 2 bytes)) (λ i. rw get_or-drop (h (2 + i))))

-- the units that the pairs of bytes spell are those that the bytes spell
pub chunks_units : (bytes : List ℕ) (k : ℕ) → k ≡ length bytes / 2 → map number (first_chunks 2 k bytes) ≡ units_in bytes
chunks_units [] zero e = refl
chunks_units [] (suc k) e = absurd (omega arith)
chunks_units (a ∷ []) zero e = refl
chunks_units (a ∷ []) (suc k) e = absurd (omega arith)
chunks_units (a ∷ b ∷ bytes) zero e = absurd (omega arith)
chunks_units (a ∷ b ∷ bytes) (suc k) e = let ih = chunks_units bytes k (omega arith) in rw ih refl

pub length-units_in : (bytes : List ℕ) → length (units_in bytes) ≡ length bytes / 2
length-units_in [] = refl
length-units_in (a ∷ []) = refl
length-units_in (a ∷ b ∷ bytes) = omega (arith, length-units_in bytes)

pub length-unit_bytes : (units : List ℕ) → length (unit_bytes units) ≡ 2 * length units
unfolding spelling
length-unit_bytes [] = refl
length-unit_bytes (unit ∷ units) = omega (arith, length-unit_bytes units)

pub units_read : (units : List ℕ) → AreUnits units → units_in (unit_bytes units) ≡ units
unfolding spelling
units_read [] h = refl
units_read (unit ∷ units) h =
    let one : number (unit % 256 ∷ unit / 256 % 256 ∷ []) ≡ unit = omega (arith, h 0) in
    let ih = units_read units (λ i. h (suc i)) in
    rw (one, ih) refl

pub bytes_kept : (bytes : List ℕ) → IsBytes bytes → length bytes % 2 ≡ 0 → unit_bytes (units_in bytes) ≡ bytes
bytes_kept [] h e = refl
bytes_kept (a ∷ []) h e = absurd (omega arith)
bytes_kept (a ∷ b ∷ bytes) h e =
    let one = spelling_of_number (a ∷ b ∷ []) (cases h) in
    let ih = bytes_kept bytes (λ i. h (suc (suc i))) (omega arith) in
    rw (one, ih) refl
  where
    cases : IsBytes (a ∷ b ∷ bytes) → (i : ℕ) → get_or (a ∷ b ∷ []) i 0 < 256
    cases h zero = h 0
    cases h (suc zero) = h 1
    cases h (suc (suc i)) = omega arith
