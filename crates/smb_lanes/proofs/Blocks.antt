-- The blocks of what is left of a message, and its padding.
use Rattle.std.proofs.Common.{◌≡◌, ℕ, suc, ◌+◌, ◌-◌, ◌*◌, ◌/◌, ◌%◌, ◌<◌, ◌≤◌, List, [], ◌∷◌, ◌++◌, length, take, drop, replicate, slice_set, refl, sym, ap, ap₂, ◌^◌, ◌∙◌, arith, length-append, length-drop}
use Rattle.std.proofs.lemmas.List.{append_assoc, take-append-drop, take-append-le, drop-append-le, take-take, drop_at, drop-drop, drop-take, set_at, length-take-le, length-replicate, take-replicate, drop-replicate}
use Rattle.std.proofs.lemmas.Slice.{take-put_mid}
use Rattle.std.specs.Int.{w64, to_be_bytes}
use Rattle.sha2.specs.Sha256.{padding}
use borrow.Rule.Slice.PartMut.{put_mid}

-- a front that takes all of the first list
take_past : (xs ys : List ℕ) (n k : ℕ) → length xs + k ≡ n → take n (xs ++ ys) ≡ xs ++ take k ys
take_past [] ys n k e = ap (λ (i : ℕ). take i ys) (omega arith)
take_past (x ∷ xs) ys n k e =
    let m : n ≡ suc (n - 1) = omega arith in
    rw m (ap (λ (r : List ℕ). x ∷ r) (take_past xs ys (n - 1) k (omega arith)))

-- the bytes left, a bit, zeros and the length, as they are written over 128 zeros
pub last_blocks_are : (left be : List ℕ) (k end : ℕ) → length left < 64 → end ≡ (length left + 72) / 64 * 64 → length be ≡ 8
    → take end (put_mid (end - 8) k (slice_set (left ++ drop (length left) (replicate 128 0)) (length left) 128) be)
    ≡ left ++ (128 ∷ replicate ((119 - length left) % 64) 0 ++ be)
last_blocks_are left be k end short e len =
    let used : ℕ = length left in
    let gap : ℕ = (119 - used) % 64 in
    let size : end ≡ end - 8 + length be = omega arith in
    let fits : used + suc gap ≡ end - 8 = omega arith in
    let few : gap ≤ 127 - used = omega arith in
    let rest : 128 - used ≡ suc (127 - used) = omega arith in
    let back : List ℕ = replicate (127 - used) 0 in
    let room : end - 8 ≤ length (left ++ (128 ∷ back)) =
    omega (arith, length-append left (128 ∷ back), length-replicate {A = ℕ} (127 - used) 0) in
    let over : List ℕ = drop used (replicate 128 0) in
    let over_is : over ≡ 0 ∷ back = drop-replicate used 128 0 ∙ ap (λ (i : ℕ). replicate i 0) rest in
    let bit : slice_set (left ++ over) used 128 ≡ left ++ (128 ∷ back) = rw over_is (set_at left 0 back 128 used refl) in
    let zeros : List ℕ = replicate gap 0 in
    let fewer : take gap back ≡ zeros = take-replicate gap (127 - used) 0 few in
    let front : take (suc gap) (128 ∷ back) ≡ 128 ∷ zeros = ap (λ (r : List ℕ). 128 ∷ r) fewer in
    let cut : take (end - 8) (left ++ (128 ∷ back)) ≡ left ++ (128 ∷ zeros) =
    take_past left (128 ∷ back) (end - 8) (suc gap) fits ∙ ap (λ (r : List ℕ). left ++ r) front in
    rw bit (take-put_mid (end - 8) k (left ++ (128 ∷ back)) be end size room ∙ rw cut (append_assoc left (128 ∷ zeros) be))

-- a block among the whole ones, and those of the tail
pub block_of_whole : (w x q : List ℕ) (at a n : ℕ) → q ≡ w ++ x → a ≡ at * 64 → n ≡ 64 → at * 64 + 64 ≤ length w
    → take n (drop a w) ≡ take 64 (drop (at * 64) q)
block_of_whole w x q at a n e ea en fits =
    rw (e, ea, en, drop-append-le (at * 64) w x (omega arith))
    (sym (take-append-le 64 (drop (at * 64) w) x (omega (arith, length-drop (at * 64) w))))

pub block_of_tail : (w tail q : List ℕ) (at m : ℕ) → q ≡ w ++ take m tail → length w ≡ at * 64 → 64 ≤ m
    → take 64 tail ≡ take 64 (drop (at * 64) q)
block_of_tail w tail q at m e len more =
    rw (e, drop_at w (take m tail) (at * 64) len) (sym (take-take 64 m tail more))

pub block_of_tail_2 : (w tail q : List ℕ) (at m : ℕ) → q ≡ w ++ take m tail → length w + 64 ≡ at * 64 → m ≡ 128
    → take 64 (drop 64 tail) ≡ take 64 (drop (at * 64) q)
block_of_tail_2 w tail q at m e len more =
    let behind : drop (at * 64) (w ++ take m tail) ≡ drop 64 (take m tail) =
    ap (λ (i : ℕ). drop i (w ++ take m tail)) (sym len) ∙ sym (drop-drop 64 (length w) (w ++ take m tail)) ∙ ap (drop 64) (drop_at w (take m tail) (length w) refl) in
    rw (e, behind, more, drop-take 64 64 tail) (sym (take-take 64 64 (drop 64 tail) (omega arith)))

-- a source gives what is left of a message and its padding
pub supplied : (rest whole left tail : List ℕ) (before total n count : ℕ) → before % 64 ≡ 0
    → n ≡ length rest - length rest % 64 → whole ≡ take n rest → left ≡ drop n rest → total ≡ (before + length rest) % 2 ^ 64
    → take ((length left + 72) / 64 * 64) tail ≡ left ++ (128 ∷ replicate ((119 - length left) % 64) 0 ++ to_be_bytes w64 (total * 8 % 2 ^ 64))
    → count ≡ length whole / 64 + (length rest % 64 + 72) / 64
    → let q : List ℕ = rest ++ padding (before + length rest) in
    (length whole % 64 ≡ 0) × (length q ≡ 64 * count) × (length whole < length q) × (length q ≤ length whole + 128)
    × (q ≡ whole ++ take (length q - length whole) tail)
supplied rest whole left tail before total n count edge en ew el et tail_is ec =
    let pad : List ℕ = padding (before + length rest) in
    let q : List ℕ = rest ++ pad in
    let z : ℕ = (119 - (before + length rest) % 64) % 64 in
    let be : List ℕ = to_be_bytes w64 ((before + length rest) * 8 % 2 ^ 64) in
    let whole_len : length whole ≡ n = ap length ew ∙ length-take-le n rest (omega arith) in
    let left_len : length left ≡ length rest - n = ap length el ∙ length-drop n rest in
    let at : length left ≡ (before + length rest) % 64 = omega arith in
    let bits : total * 8 % 2 ^ 64 ≡ (before + length rest) * 8 % 2 ^ 64 = omega arith in
    let be_len : length be ≡ 8 = refl in
    let pad_len : length pad ≡ 1 + z + 8 =
    length-append (128 ∷ replicate z 0) be ∙ omega (arith, length-replicate {A = ℕ} z 0, be_len) in
    let q_len : length q ≡ length rest + (1 + z + 8) = length-append rest pad ∙ ap (λ (i : ℕ). length rest + i) pad_len in
    let m : (length left + 72) / 64 * 64 ≡ length q - length whole = omega arith in
    let same : 128 ∷ replicate ((119 - length left) % 64) 0 ++ to_be_bytes w64 (total * 8 % 2 ^ 64) ≡ pad = rw (at, bits) refl in
    let tail_q : take (length q - length whole) tail ≡ left ++ pad =
    ap (λ (i : ℕ). take i tail) (sym m) ∙ tail_is ∙ ap (λ (r : List ℕ). left ++ r) same in
    let whole_q : q ≡ whole ++ take (length q - length whole) tail =
    ap (λ (r : List ℕ). r ++ pad) (sym (take-append-drop n rest)) ∙ append_assoc (take n rest) (drop n rest) pad
    ∙ ap₂ (λ (a b : List ℕ). a ++ b) (sym ew) (ap (λ (r : List ℕ). r ++ pad) (sym el) ∙ sym tail_q) in
    (omega arith, omega arith, omega arith, omega arith, whole_q)
