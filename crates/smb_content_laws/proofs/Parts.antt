-- Parts of bytes.
use Rattle.std.proofs.Common.{◌≡◌, ◌⊎◌, inl, inr, ℕ, ◌+◌, ◌-◌, ◌<◌, ◌≤◌, min, List, ◌++◌, length, take, drop, replicate, get_or, Some, refl, sym, ap, ◌∙◌, arith, length-take, length-drop}
use Rattle.std.specs.Prelude.{slice_get}
use Rattle.std.proofs.lemmas.List.{take-take, take_all, drop_at, drop-drop, drop-take, take-replicate, drop-replicate, length-replicate, get_or-take, get_or-drop, get_or_append_left, ext_get_or}
use Rattle.std.proofs.lemmas.Option.{slice_get-get_or}
use Rattle.smb_tree.specs.Content.{resized, written}
use Rattle.smb_tree.specs.Parts.{part}
use Rattle.smb_tree.proofs.Parts.{length-resized, length-written, part-written, gap_written, stays_written}

-- a part of a part that is known
pub part_within : (bytes given : List ℕ) (a n i count : ℕ) → part a n bytes ≡ given → i + count ≤ n → part (a + i) count bytes ≡ part i count given
part_within bytes given a n i count h le =
    let rest : List ℕ = drop a bytes in
    let long : i + (n - i) ≡ n = omega arith in
    let cut : drop i (take n rest) ≡ take (n - i) (drop i rest) = ap (λ (k : ℕ). drop i (take k rest)) (sym long) ∙ drop-take i (n - i) rest in
    ap (take count) (sym (drop-drop i a bytes))
    ∙ sym (take-take count (n - i) (drop i rest) (omega arith))
    ∙ ap (take count) (sym cut)
    ∙ ap (λ (xs : List ℕ). take count (drop i xs)) h

pub part-zeros : (i count n : ℕ) → i + count ≤ n → part i count (replicate n 0) ≡ replicate count 0
part-zeros i count n le = ap (take count) (drop-replicate i n 0) ∙ take-replicate count (n - i) 0 (omega arith)

-- a part of what was written
pub written_part : (offset place count : ℕ) (buffer bytes : List ℕ) → place + count ≤ length buffer → part (offset + place) count (written offset buffer bytes) ≡ part place count buffer
written_part offset place count buffer bytes le = part_within (written offset buffer bytes) buffer offset (length buffer) place count (part-written offset buffer bytes) le

-- a part of the gap before it
from_end : (bytes : List ℕ) (long end place count : ℕ) → part long (end - long) bytes ≡ replicate (end - long) 0 → long ≤ place → place + count ≤ end → part place count bytes ≡ replicate count 0
from_end bytes long end place count h front back =
    let there : long + (place - long) ≡ place = omega arith in
    ap (λ (n : ℕ). part n count bytes) (sym there)
    ∙ part_within bytes (replicate (end - long) 0) long (end - long) (place - long) count h (omega arith)
    ∙ part-zeros (place - long) count (end - long) (omega arith)

pub gap_part : (offset place count : ℕ) (buffer bytes : List ℕ) → length bytes ≤ place → place + count ≤ offset → part place count (written offset buffer bytes) ≡ replicate count 0
gap_part offset place count buffer bytes front back =
    from_end (written offset buffer bytes) (length bytes) offset place count (gap_written offset buffer bytes) front back

-- a part of what a longer size adds
pub longer_part : (size place count : ℕ) (bytes : List ℕ) → length bytes ≤ place → place + count ≤ size → part place count (resized size bytes) ≡ replicate count 0
longer_part size place count bytes front back =
    let more : ℕ = size - length bytes in
    let zeros : part (length bytes) more (resized size bytes) ≡ replicate more 0 =
    ap (λ (xs : List ℕ). take more (drop (length bytes) (xs ++ replicate more 0))) (take_all size bytes (omega arith))
    ∙ ap (take more) (drop_at bytes (replicate more 0) (length bytes) refl)
    ∙ take_all more (replicate more 0) (omega (arith, length-replicate {A = ℕ} more 0)) in
    from_end (resized size bytes) (length bytes) size place count zeros front back

-- each byte of a part is in its place
pub length-part : (bytes : List ℕ) (offset count : ℕ) → length (part offset count bytes) ≡ min count (length bytes - offset)
length-part bytes offset count = omega (arith, length-take count (drop offset bytes), length-drop offset bytes)

pub part_each : (bytes : List ℕ) (offset count k : ℕ) → k < length (part offset count bytes) → slice_get (part offset count bytes) k ≡ slice_get bytes (offset + k)
part_each bytes offset count k h =
    let long = length-part bytes offset count in
    slice_get-get_or (part offset count bytes) k 0 h
    ∙ ap (λ (b : ℕ). Some b) (get_or-take count (drop offset bytes) k 0 (omega arith) ∙ get_or-drop offset bytes k 0)
    ∙ sym (slice_get-get_or bytes (offset + k) 0 (omega arith))

-- two lists of bytes that agree over a part
pub same_part : (place count : ℕ) (xs ys : List ℕ) → place + count ≤ length xs → place + count ≤ length ys → ((i : ℕ) → place ≤ i → i < place + count → get_or xs i 0 ≡ get_or ys i 0) → part place count xs ≡ part place count ys
same_part place count xs ys long other same =
    let one = length-part xs place count in
    let two = length-part ys place count in
    ext_get_or 0 (part place count xs) (part place count ys) (omega (arith, one, two)) (λ i below. (
    let within : i < count = omega (arith, one, below) in
    get_or-take count (drop place xs) i 0 within
    ∙ get_or-drop place xs i 0
    ∙ same (place + i) (omega arith) (omega (arith, within))
    ∙ sym (get_or-take count (drop place ys) i 0 within ∙ get_or-drop place ys i 0)
    ))

-- what a write does not cover
pub rest_part : (offset place count : ℕ) (buffer bytes : List ℕ) → place + count ≤ length bytes → (place + count ≤ offset) ⊎ (offset + length buffer ≤ place) → part place count (written offset buffer bytes) ≡ part place count bytes
rest_part offset place count buffer bytes within apart =
    same_part place count (written offset buffer bytes) bytes (omega (arith, length-written offset buffer bytes, within)) within
    (λ i front back. stays_written offset buffer bytes i (omega (arith, within, back)) (beside apart i front back))
  where
    beside : (place + count ≤ offset) ⊎ (offset + length buffer ≤ place) → (i : ℕ) → place ≤ i → i < place + count → (i < offset) ⊎ (offset + length buffer ≤ i)
    beside (inl h) i front back = inl (omega (arith, h, back))
    beside (inr h) i front back = inr (omega (arith, h, front))

-- what another size leaves
pub front_part : (size place count : ℕ) (bytes : List ℕ) → place + count ≤ size → place + count ≤ length bytes → part place count (resized size bytes) ≡ part place count bytes
front_part size place count bytes short within =
    same_part place count (resized size bytes) bytes (omega (arith, length-resized size bytes, short)) within
    (λ i front back. (
    let inside : i < length (take size bytes) = omega (arith, length-take size bytes, short, within, back) in
    get_or_append_left (take size bytes) (replicate (size - length bytes) 0) 0 i inside
    ∙ get_or-take size bytes i 0 (omega (arith, short, back))
    ))
