-- Bytes by their places: what is resized, written, or read as a part.
use Rattle.std.proofs.Common.{◌≡◌, ℕ, ◌+◌, ◌-◌, ◌<◌, ◌≤◌, min, List, ◌++◌, length, take, drop, replicate, map, get_or, refl, sym, ap, ◌∙◌, arith, inl, inr, length-append}
use Rattle.std.specs.List.{range_with_len}
use Rattle.std.proofs.lemmas.Bool.{cases_lt}
use Rattle.std.proofs.lemmas.List.{length-take, length-drop, length-replicate, get_or-replicate, get_or_append_left, get_or-append_right, get_or-take, get_or-drop, get_or_past, ext_get_or}
use Rattle.std.proofs.lemmas.List.FromFn.{length-map-range_with_len, get_or-map-range_with_len}
use Rattle.smb_tree.specs.Content.{resized, written}
use Rattle.smb_tree.specs.Parts.{part}
use Rattle.smb_tree.proofs.Parts.{length-resized}

zeros : (n i z : ℕ) → z ≡ 0 → get_or (replicate n z) i 0 ≡ 0
zeros n i z e =
    elim (cases_lt i n) [
      | inl h ↦ get_or-replicate n i z 0 h ∙ e
      | inr h ↦ get_or_past (replicate n z) i 0 (omega (arith, length-replicate {A = ℕ} n z))
    ]

pub get_or-resized : (n : ℕ) (xs : List ℕ) (i : ℕ) → i < n → get_or (resized n xs) i 0 ≡ get_or xs i 0
get_or-resized n xs i h =
    elim (cases_lt i (length xs)) [
      | inl k ↦ (
          let front : i < length (take n xs) = omega (arith, length-take n xs) in
          get_or_append_left (take n xs) (replicate (n - length xs) 0) 0 i front ∙ get_or-take n xs i 0 h
          )
      | inr k ↦ (
          let long : length (take n xs) ≡ length xs = omega (arith, length-take n xs) in
          get_or-append_right (take n xs) (replicate (n - length xs) 0) (length xs) i 0 long k ∙ zeros (n - length xs) (i - length xs) 0 refl ∙ sym (get_or_past xs i 0 k)
          )
    ]

-- the bytes that a write leaves: before what it puts, these, and behind them
pub front_written : (offset i : ℕ) (buffer bytes : List ℕ) → i < offset → get_or (written offset buffer bytes) i 0 ≡ get_or bytes i 0
front_written offset i buffer bytes h =
    let long : i < length (resized offset bytes) = omega (arith, length-resized offset bytes) in
    let longer : i < length (resized offset bytes ++ buffer) = omega (arith, length-append (resized offset bytes) buffer) in
    get_or_append_left (resized offset bytes ++ buffer) (drop (offset + length buffer) bytes) 0 i longer
    ∙ get_or_append_left (resized offset bytes) buffer 0 i long
    ∙ get_or-resized offset bytes i h

pub here_written : (offset i : ℕ) (buffer bytes : List ℕ) → offset ≤ i → i < offset + length buffer → get_or (written offset buffer bytes) i 0 ≡ get_or buffer (i - offset) 0
here_written offset i buffer bytes h k =
    let longer : i < length (resized offset bytes ++ buffer) = omega (arith, length-append (resized offset bytes) buffer, length-resized offset bytes) in
    get_or_append_left (resized offset bytes ++ buffer) (drop (offset + length buffer) bytes) 0 i longer
    ∙ get_or-append_right (resized offset bytes) buffer offset i 0 (length-resized offset bytes) h

pub behind_written : (offset i : ℕ) (buffer bytes : List ℕ) → offset + length buffer ≤ i → get_or (written offset buffer bytes) i 0 ≡ get_or bytes i 0
behind_written offset i buffer bytes h =
    let end : ℕ = offset + length buffer in
    let long : length (resized offset bytes ++ buffer) ≡ end = omega (arith, length-append (resized offset bytes) buffer, length-resized offset bytes) in
    let there : end + (i - end) ≡ i = omega arith in
    get_or-append_right (resized offset bytes ++ buffer) (drop end bytes) end i 0 long h
    ∙ get_or-drop end bytes (i - end) 0
    ∙ ap (λ (n : ℕ). get_or bytes n 0) there

-- bytes by a function of their places, one part behind the other
pub range-append : (f : ℕ → ℕ) (a n m : ℕ) → map f (range_with_len a n) ++ map f (range_with_len (a + n) m) ≡ map f (range_with_len a (n + m))
range-append f a n m =
    let front : List ℕ = map f (range_with_len a n) in
    let rest : List ℕ = map f (range_with_len (a + n) m) in
    let front_long : length front ≡ n = length-map-range_with_len f a n in
    let rest_long : length rest ≡ m = length-map-range_with_len f (a + n) m in
    let both_long : length (front ++ rest) ≡ n + m = omega (arith, length-append front rest) in
    let same : length (front ++ rest) ≡ length (map f (range_with_len a (n + m))) = both_long ∙ sym (length-map-range_with_len f a (n + m)) in
    ext_get_or 0 (front ++ rest) (map f (range_with_len a (n + m))) same (λ i h.
    elim (cases_lt i n) [
      | inl k ↦ get_or_append_left front rest 0 i (omega arith) ∙ get_or-map-range_with_len f a n i (a + i) 0 k refl ∙ sym (get_or-map-range_with_len f a (n + m) i (a + i) 0 (omega arith) refl)
      | inr k ↦ get_or-append_right front rest n i 0 front_long k ∙ get_or-map-range_with_len f (a + n) m (i - n) (a + i) 0 (omega arith) (omega arith) ∙ sym (get_or-map-range_with_len f a (n + m) i (a + i) 0 (omega arith) refl)
    ])

-- a part of such bytes
pub length-part : (bytes : List ℕ) (offset count begin taken : ℕ) → begin ≡ min offset (length bytes) → taken ≡ min count (length bytes - begin) → length (part offset count bytes) ≡ taken
length-part bytes offset count begin taken h k =
    omega (arith, length-take count (drop offset bytes), length-drop offset bytes)

pub part-range : (f : ℕ → ℕ) (size offset count begin taken : ℕ) → begin ≡ min offset size → taken ≡ min count (size - begin) → map f (range_with_len begin taken) ≡ part offset count (map f (range_with_len 0 size))
part-range f size offset count begin taken h k =
    let bytes : List ℕ = map f (range_with_len 0 size) in
    let size_long : length bytes ≡ size = length-map-range_with_len f 0 size in
    let part_long : length (part offset count bytes) ≡ taken = omega (arith, length-take count (drop offset bytes), length-drop offset bytes) in
    let taken_long : length (map f (range_with_len begin taken)) ≡ taken = length-map-range_with_len f begin taken in
    ext_get_or 0 (map f (range_with_len begin taken)) (part offset count bytes) (taken_long ∙ sym part_long) (λ i within.
    let same : begin ≡ offset = omega arith in
    get_or-map-range_with_len f begin taken i (offset + i) 0 (omega arith) (omega arith)
    ∙ sym (get_or-take count (drop offset bytes) i 0 (omega arith) ∙ get_or-drop offset bytes i 0 ∙ get_or-map-range_with_len f 0 size (offset + i) (offset + i) 0 (omega arith) (omega arith)))
