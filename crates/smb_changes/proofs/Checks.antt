-- The check of bytes, as the code makes it, and what it tells.
use Rattle.std.proofs.Common.{◌≡◌, ℕ, zero, suc, ◌+◌, ◌-◌, ◌*◌, ◌/◌, ◌%◌, ◌^◌, ◌<◌, ◌≤◌, List, [], ◌∷◌, ◌++◌, length, take, drop, replicate, bit_or, bit_xor, refl, sym, ◌∙◌, ap, arith, length-drop, length-take}
use Rattle.std.proofs.Math.Nat.{pow-le-pow_right}
use Rattle.std.proofs.lemmas.List.{drop-drop, drop-replicate, get_or-drop, take_all}
use Rattle.std.proofs.lemmas.List.Sums.{fold-append}
use Rattle.std.proofs.lemmas.Nat.{mod-mul-add, mul-mod_first, or_shifted, xor_lt}
use Rattle.std.specs.Int.Bits.{xor_self, xor_assoc, xor_zero_r}
use Rattle.std.specs.List.{fold}
use Rattle.std.specs.Simd.{first_chunks}
use Rattle.smb_wire.specs.Number.{IsBytes, number}
use Rattle.smb_wire.specs.Fields.{number_in}
use Rattle.smb_wire.proofs.Numbers.{number_below}
use Rattle.smb_changes.specs.Batches.{stirred, check}

-- a rotation by 32 exchanges the halves
pub halves : (n : ℕ) → n < 2 ^ 64 → bit_or (n * 2 ^ 32 % 2 ^ 64) (n / 2 ^ 32) ≡ n / 2 ^ 32 + n % 2 ^ 32 * 2 ^ 32
halves n h =
    let low : n * 2 ^ 32 % 2 ^ 64 ≡ n % 2 ^ 32 * 2 ^ 32 = omega arith in
    let e = or_shifted (n % 2 ^ 32) 32 (n / 2 ^ 32) (omega arith) in
    ap (λ (m : ℕ). bit_or m (n / 2 ^ 32)) low ∙ e ∙ omega arith

-- sums and products that wrap at each step are those that wrap at the end
pub wraps : (a b c d : ℕ) →
    ((a + ((b * 14029467366897019727 % 2 ^ 64 + c * 1609587929392839161 % 2 ^ 64) % 2 ^ 64 + d * 9650029242287828579 % 2 ^ 64) % 2 ^ 64) % 2 ^ 64) * 11400714785074694791 % 2 ^ 64
    ≡ (a + (b * 14029467366897019727 + c * 1609587929392839161 + d * 9650029242287828579)) * 11400714785074694791 % 2 ^ 64
wraps a b c d = omega arith

zeros_spell : (w n : ℕ) → number (take w (replicate n 0)) ≡ 0
zeros_spell zero n = refl
zeros_spell (suc w) zero = refl
zeros_spell (suc w) (suc n) = let ih = zeros_spell w n in rw ih refl

-- zeros behind bytes change no number in them
zeros_behind : (w place : ℕ) (xs : List ℕ) (n : ℕ) → number_in w place (xs ++ replicate n 0) ≡ number_in w place xs
zeros_behind zero place xs n = refl
zeros_behind (suc w) zero [] n = zeros_spell (suc w) n
zeros_behind (suc w) (suc place) [] n = rw (drop-replicate {X = ℕ} (suc place) n 0) (zeros_spell (suc w) (n - suc place))
zeros_behind (suc w) zero (x ∷ xs) n = let ih = zeros_behind w zero xs n in rw ih refl
zeros_behind (suc w) (suc place) (x ∷ xs) n = zeros_behind (suc w) place xs n

pub stirred-zeros : (s : ℕ) (xs : List ℕ) (n : ℕ) → stirred s (xs ++ replicate n 0) ≡ stirred s xs
stirred-zeros s xs n = rw (zeros_behind 8 0 xs n, zeros_behind 8 8 xs n, zeros_behind 8 16 xs n, zeros_behind 8 24 xs n) refl

-- one piece more
one_more : (k : ℕ) (xs : List ℕ) → first_chunks 32 (suc k) xs ≡ first_chunks 32 k xs ++ take 32 (drop (k * 32) xs) ∷ []
one_more zero xs = refl
one_more (suc k) xs =
    let place : k * 32 + 32 ≡ suc k * 32 = omega arith in
    let ih = one_more k (drop 32 xs) in
    let moved : drop (k * 32) (drop 32 xs) ≡ drop (suc k * 32) xs = drop-drop (k * 32) 32 xs ∙ ap (λ (i : ℕ). drop i xs) (omega arith) in
    rw ih (rw moved refl)

-- nothing is left to stir in
pub all_stirred : (s : ℕ) (ps : List (List ℕ)) (i : ℕ) → length ps ≤ i → fold stirred s (drop i ps) ≡ s
all_stirred s [] zero h = refl
all_stirred s [] (suc i) h = refl
all_stirred s (p ∷ ps) zero h = absurd (omega arith)
all_stirred s (p ∷ ps) (suc i) h = all_stirred s ps i (omega arith)

-- bytes that are whole pieces
pub check_whole : (s : ℕ) (xs : List ℕ) → length xs % 32 ≡ 0 → check s xs ≡ fold stirred s (first_chunks 32 (length xs / 32) xs)
unfolding check
check_whole s xs h = let e : (length xs + 31) / 32 ≡ length xs / 32 = omega arith in rw e refl

-- bytes with a short piece behind the whole ones
pub check_more : (s : ℕ) (xs : List ℕ) → 0 < length xs % 32 →
    check s xs ≡ stirred (fold stirred s (first_chunks 32 (length xs / 32) xs)) (drop (length xs / 32 * 32) xs)
unfolding check
check_more s xs h =
    let k = length xs / 32 in
    let rest = drop (k * 32) xs in
    let e : (length xs + 31) / 32 ≡ suc k = omega arith in
    let all : take 32 rest ≡ rest = take_all 32 rest (omega (arith, length-drop (k * 32) xs)) in
    rw (e, one_more k xs, all) (fold-append stirred s (first_chunks 32 k xs) (rest ∷ []))

-- the halves exchanged twice
abbrev swapped : ℕ → ℕ
swapped n = n / 2 ^ 32 + n % 2 ^ 32 * 2 ^ 32

swapped-swapped : (n : ℕ) → n < 2 ^ 64 → swapped (swapped n) ≡ n
swapped-swapped n h = omega arith

swapped_fits : (n : ℕ) → n < 2 ^ 64 → swapped n < 2 ^ 64
swapped_fits n h = omega arith

pub stirred_fits : (s : ℕ) (piece : List ℕ) → stirred s piece < 2 ^ 64
stirred_fits s piece = swapped_fits _ (omega arith)

fold_fits : (s : ℕ) (ps : List (List ℕ)) → s < 2 ^ 64 → fold stirred s ps < 2 ^ 64
fold_fits s [] h = h
fold_fits s (p ∷ ps) h = fold_fits (stirred s p) ps (stirred_fits s p)

-- a check fits 8 bytes where the seed does
pub check_fits : (s : ℕ) (bytes : List ℕ) → s < 2 ^ 64 → check s bytes < 2 ^ 64
unfolding check
check_fits s bytes h = fold_fits s (first_chunks 32 ((length bytes + 31) / 32) bytes) h

abbrev factor : ℕ
factor = 11400714785074694791

abbrev inverse : ℕ
inverse = 614540362697595703

-- a factor is undone by its inverse
undone : (x : ℕ) → x < 2 ^ 64 → (x * factor % 2 ^ 64 * inverse) % 2 ^ 64 ≡ x
undone x h =
    let e : x * factor * inverse ≡ (x * 379806830464837242) * 2 ^ 64 + x = omega arith in
    mul-mod_first (x * factor) inverse (2 ^ 64) ∙ ap (λ (n : ℕ). n % 2 ^ 64) e ∙ mod-mul-add (x * 379806830464837242) (2 ^ 64) x h

xor_undone : (a b : ℕ) → bit_xor (bit_xor a b) b ≡ a
xor_undone a b = xor_assoc a b b ∙ ap (bit_xor a) (xor_self b) ∙ xor_zero_r a

-- sums that wrap to the same are of the same where one addend is the same
sums_tell : (x y others : ℕ) → x < 2 ^ 64 → y < 2 ^ 64 → (x + others) % 2 ^ 64 ≡ (y + others) % 2 ^ 64 → x ≡ y
sums_tell x y others h k e = omega (arith, e)

wrapped_first : (n : ℕ) → n * factor % 2 ^ 64 ≡ (n % 2 ^ 64) * factor % 2 ^ 64
wrapped_first n = omega arith

products_tell : (x y others : ℕ) → x < 2 ^ 64 → y < 2 ^ 64 → (x + others) * factor % 2 ^ 64 ≡ (y + others) * factor % 2 ^ 64 → x ≡ y
products_tell x y others h k e =
    sums_tell x y others h k
    (sym (undone ((x + others) % 2 ^ 64) (omega arith))
    ∙ ap (λ (n : ℕ). (n * inverse) % 2 ^ 64) (sym (wrapped_first (x + others)) ∙ e ∙ wrapped_first (y + others))
    ∙ undone ((y + others) % 2 ^ 64) (omega arith))

stirred_tells : (s t : ℕ) (piece : List ℕ) → s < 2 ^ 64 → t < 2 ^ 64 → number_in 8 0 piece < 2 ^ 64 → stirred s piece ≡ stirred t piece → s ≡ t
stirred_tells s t piece h k first e =
    let others : ℕ = number_in 8 8 piece * 14029467366897019727 + number_in 8 16 piece * 1609587929392839161 + number_in 8 24 piece * 9650029242287828579 in
    let w : ℕ = number_in 8 0 piece in
    let a : ℕ = (bit_xor s w + others) * factor % 2 ^ 64 in
    let b : ℕ = (bit_xor t w + others) * factor % 2 ^ 64 in
    let product : a ≡ b = sym (swapped-swapped a (omega arith)) ∙ ap swapped e ∙ swapped-swapped b (omega arith) in
    let same : bit_xor s w ≡ bit_xor t w = products_tell (bit_xor s w) (bit_xor t w) others (xor_lt 64 s w h first) (xor_lt 64 t w k first) product in
    sym (xor_undone s w) ∙ ap (λ (n : ℕ). bit_xor n w) same ∙ xor_undone t w

take_bytes : (n : ℕ) (xs : List ℕ) → IsBytes xs → IsBytes (take n xs)
take_bytes zero xs h i = omega arith
take_bytes (suc n) [] h i = omega arith
take_bytes (suc n) (x ∷ xs) h zero = h 0
take_bytes (suc n) (x ∷ xs) h (suc i) = take_bytes n xs (λ j. h (suc j)) i

first_fits : (xs : List ℕ) → IsBytes xs → number (take 8 xs) < 2 ^ 64
first_fits xs h =
    let below = number_below (take 8 xs) (take_bytes 8 xs h) in
    let few : length (take 8 xs) ≤ 8 = omega (arith, length-take 8 xs) in
    let wide : 256 ^ length (take 8 xs) ≤ 256 ^ 8 = pow-le-pow_right {n = 256} (omega arith) few in
    omega (arith, below, wide)

pieces_tell : (k s t : ℕ) (xs : List ℕ) → IsBytes xs → s < 2 ^ 64 → t < 2 ^ 64 →
    fold stirred s (first_chunks 32 k xs) ≡ fold stirred t (first_chunks 32 k xs) → s ≡ t
pieces_tell zero s t xs each h k e = e
pieces_tell (suc n) s t xs each h k e =
    let piece = take 32 xs in
    stirred_tells s t piece h k (first_fits piece (take_bytes 32 xs each))
    (pieces_tell n (stirred s piece) (stirred t piece) (drop 32 xs) (λ i. rw get_or-drop (each (32 + i))) (stirred_fits s piece) (stirred_fits t piece) e)

-- checks of the same bytes are the same only where they are begun with the same seed
pub check_tells : (s t : ℕ) (bytes : List ℕ) → IsBytes bytes → s < 2 ^ 64 → t < 2 ^ 64 → check s bytes ≡ check t bytes → s ≡ t
unfolding check
check_tells s t bytes each h k e = pieces_tell ((length bytes + 31) / 32) s t bytes each h k e
