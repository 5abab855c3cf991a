-- Numbers and their spellings.
use Rattle.std.proofs.Common.{◌≡◌, ℕ, zero, suc, ◌+◌, ◌*◌, ◌/◌, ◌%◌, ◌^◌, ◌<◌, List, [], ◌∷◌, ◌++◌, length, Some, refl, sym, ◌∙◌, append_assoc, arith, length-append}
use Rattle.std.proofs.Math.Nat.{pow-succ'}
use Rattle.std.proofs.lemmas.List.{take_at, drop_at}
use Rattle.std.proofs.lemmas.Bool.{le-leb}
use Rattle.smb_wire.specs.Number.{IsBytes, number, Spells, spelling, number_spelled}

pub length-spelling : (w n : ℕ) → length (spelling w n) ≡ w
unfolding spelling
length-spelling zero n = refl
length-spelling (suc w) n = let h = length-spelling w (n / 256) in rw h refl

-- what is below one byte more, less its lowest byte
div_below : (w n : ℕ) → n < 256 ^ suc w → n / 256 < 256 ^ w
div_below w n h = let e = pow-succ' 256 w in omega (arith, rw e at h)

pub number-spelling : (w n : ℕ) → n < 256 ^ w → number (spelling w n) ≡ n
unfolding spelling
number-spelling zero n h = omega arith
number-spelling (suc w) n h = let ih = number-spelling w (n / 256) (div_below w n h) in rw ih (omega arith)

pub spelling-each : (w n : ℕ) → IsBytes (spelling w n)
unfolding spelling
spelling-each zero n i = omega arith
spelling-each (suc w) n zero = omega arith
spelling-each (suc w) n (suc i) = spelling-each w (n / 256) i

-- bytes are the spelling of the number that they spell
pub spelling_of_number : (bytes : List ℕ) → IsBytes bytes → spelling (length bytes) (number bytes) ≡ bytes
unfolding spelling
spelling_of_number [] h = refl
spelling_of_number (byte ∷ bytes) h =
    let ih = spelling_of_number bytes (λ i. h (suc i)) in
    let low : (byte + 256 * number bytes) % 256 ≡ byte = omega (arith, h 0) in
    let high : (byte + 256 * number bytes) / 256 ≡ number bytes = omega (arith, h 0) in
    rw (low, high, ih) refl

pub number_below : (bytes : List ℕ) → IsBytes bytes → number bytes < 256 ^ length bytes
number_below [] h = omega arith
number_below (byte ∷ bytes) h =
    let ih = number_below bytes (λ i. h (suc i)) in
    let e = pow-succ' 256 (length bytes) in
    rw e (omega (arith, h 0))

pub spells_only : (w n : ℕ) (bytes : List ℕ) → Spells w n bytes → bytes ≡ spelling w n
spells_only w n bytes s = sym (spelling_of_number bytes s.each) ∙ rw (s.width, s.sum) refl

pub spells_below : (w n : ℕ) (bytes : List ℕ) → Spells w n bytes → n < 256 ^ w
spells_below w n bytes s = rw (← s.sum, ← s.width) (number_below bytes s.each)

pub put_is_read : (front rest : List ℕ) (w n : ℕ) → n < 256 ^ w → number_spelled w (front ++ spelling w n ++ rest) (length front) ≡ Some n
put_is_read front rest w n h =
    let long = length-spelling w n in
    let fits = le-leb (length front + w) (length (front ++ spelling w n ++ rest)) (omega (arith, long, length-append (front ++ spelling w n) rest, length-append front (spelling w n))) in
    rw (fits, append_assoc front (spelling w n) rest, drop_at front (spelling w n ++ rest) (length front) refl, take_at (spelling w n) rest w long, number-spelling w n h) refl
