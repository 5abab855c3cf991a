-- Parts of a file's bytes, and what a write leaves.
use Rattle.std.proofs.Common.{◌≡◌, ℕ, ◌+◌, ◌-◌, ◌<◌, ◌≤◌, ◌⊎◌, min, max, List, ◌++◌, length, take, drop, replicate, get_or, refl, sym, ap, ◌∙◌, arith, rules, inl, inr, append_assoc, length-append}
use Rattle.std.proofs.lemmas.Bool.{cases_lt}
use Rattle.std.proofs.lemmas.List.{length-take, length-drop, length-replicate, append-nil, take_all, take_at, drop_at, drop_all, take_min, drop_min, get_or_append_left, get_or-append_right, get_or-take, get_or-drop, places, same_lists}
use Rattle.smb_tree.specs.Content.{resized, written}
use Rattle.smb_tree.specs.Parts.{part}

pub length-resized : (size : ℕ) (bytes : List ℕ) → length (resized size bytes) ≡ size
length-resized size bytes =
    omega (arith, length-append (take size bytes) (replicate (size - length bytes) 0), length-take size bytes, length-replicate {A = ℕ} (size - length bytes) 0)

pub length-written : (offset : ℕ) (buffer bytes : List ℕ) → length (written offset buffer bytes) ≡ max (length bytes) (offset + length buffer)
length-written offset buffer bytes =
    omega (arith, length-append (resized offset bytes ++ buffer) (drop (offset + length buffer) bytes), length-append (resized offset bytes) buffer, length-resized offset bytes, length-drop (offset + length buffer) bytes)

-- what was put at an offset is there
pub part-written : (offset : ℕ) (buffer bytes : List ℕ) → part offset (length buffer) (written offset buffer bytes) ≡ buffer
part-written offset buffer bytes =
    let rest : List ℕ = drop (offset + length buffer) bytes in
    ap (λ (xs : List ℕ). take (length buffer) (drop offset xs)) (append_assoc (resized offset bytes) buffer rest)
    ∙ ap (λ (xs : List ℕ). take (length buffer) xs) (drop_at (resized offset bytes) (buffer ++ rest) offset (length-resized offset bytes))
    ∙ take_at buffer rest (length buffer) refl

-- what was not written stays
before_written : (offset i : ℕ) (buffer bytes : List ℕ) → i < length bytes → i < offset → get_or (written offset buffer bytes) i 0 ≡ get_or bytes i 0
before_written offset i buffer bytes h k =
    let front : i < length (take offset bytes) = omega (arith, length-take offset bytes) in
    let long : i < length (resized offset bytes) = omega (arith, length-resized offset bytes) in
    let longer : i < length (resized offset bytes ++ buffer) = omega (arith, length-append (resized offset bytes) buffer) in
    get_or_append_left (resized offset bytes ++ buffer) (drop (offset + length buffer) bytes) 0 i longer
    ∙ get_or_append_left (resized offset bytes) buffer 0 i long
    ∙ get_or_append_left (take offset bytes) (replicate (offset - length bytes) 0) 0 i front
    ∙ get_or-take offset bytes i 0 k

behind_written : (offset i : ℕ) (buffer bytes : List ℕ) → offset + length buffer ≤ i → get_or (written offset buffer bytes) i 0 ≡ get_or bytes i 0
behind_written offset i buffer bytes h =
    let end : ℕ = offset + length buffer in
    let long : length (resized offset bytes ++ buffer) ≡ end = omega (arith, length-append (resized offset bytes) buffer, length-resized offset bytes) in
    let there : end + (i - end) ≡ i = omega arith in
    get_or-append_right (resized offset bytes ++ buffer) (drop end bytes) end i 0 long h
    ∙ get_or-drop end bytes (i - end) 0
    ∙ ap (λ (n : ℕ). get_or bytes n 0) there

pub stays_written : (offset : ℕ) (buffer bytes : List ℕ) (i : ℕ) → i < length bytes → (i < offset) ⊎ (offset + length buffer ≤ i) → get_or (written offset buffer bytes) i 0 ≡ get_or bytes i 0
stays_written offset buffer bytes i h (inl k) = before_written offset i buffer bytes h k
stays_written offset buffer bytes i h (inr k) = behind_written offset i buffer bytes k

-- a gap is zeros
gap_of : (offset : ℕ) (buffer bytes : List ℕ) → length bytes ≤ offset → part (length bytes) (offset - length bytes) (written offset buffer bytes) ≡ replicate (offset - length bytes) 0
gap_of offset buffer bytes h =
    let rest : List ℕ = drop (offset + length buffer) bytes in
    let zeros : List ℕ = replicate (offset - length bytes) 0 in
    let gap : ℕ = offset - length bytes in
    let front : written offset buffer bytes ≡ bytes ++ (zeros ++ (buffer ++ rest)) =
    ap (λ (xs : List ℕ). (xs ++ zeros) ++ buffer ++ rest) (take_all offset bytes h) ∙ append_assoc (bytes ++ zeros) buffer rest ∙ append_assoc bytes zeros (buffer ++ rest) in
    ap (λ (xs : List ℕ). take gap (drop (length bytes) xs)) front
    ∙ ap (λ (xs : List ℕ). take gap xs) (drop_at bytes (zeros ++ (buffer ++ rest)) (length bytes) refl)
    ∙ take_at zeros (buffer ++ rest) gap (length-replicate {A = ℕ} gap 0)

pub gap_written : (offset : ℕ) (buffer bytes : List ℕ) → part (length bytes) (offset - length bytes) (written offset buffer bytes) ≡ replicate (offset - length bytes) 0
gap_written offset buffer bytes =
    elim (cases_lt offset (length bytes)) [
      | inl k ↦ (let none : offset - length bytes ≡ 0 = omega arith in rw none refl)
      | inr k ↦ gap_of offset buffer bytes k
    ]

-- a part is cut where the bytes end
pub part_is : (bytes : List ℕ) (offset count begin end : ℕ) → begin ≡ min offset (length bytes) → end ≡ min count (length (drop begin bytes)) → take end (drop begin bytes) ≡ part offset count bytes
part_is bytes offset count begin end h k =
    ap (λ (n : ℕ). take n (drop begin bytes)) k ∙ take_min count (drop begin bytes) ∙ ap (λ (n : ℕ). take count (drop n bytes)) h ∙ ap (λ (xs : List ℕ). take count xs) (drop_min offset bytes)

-- bytes that were made long enough, in front of an offset and behind the end
take-resized : (offset size : ℕ) (bytes : List ℕ) → offset ≤ size → take offset (resized size bytes) ≡ resized offset bytes
take-resized offset size bytes h =
    same_lists (take offset (resized size bytes)) (resized offset bytes) (search (rules, places)) (λ k d h. grind (arith, places))

pub resized_itself : (bytes : List ℕ) → resized (length bytes) bytes ≡ bytes
resized_itself bytes =
    let none : length bytes - length bytes ≡ 0 = omega arith in
    ap (λ (n : ℕ). take (length bytes) bytes ++ replicate n 0) none ∙ append-nil (take (length bytes) bytes) ∙ take_all (length bytes) bytes (omega arith)

-- bytes that are long enough, or get zeros behind them up to an end
pub lengthened : (end : ℕ) (bytes : List ℕ) → end ≤ length bytes → bytes ≡ resized (max (length bytes) end) bytes
lengthened end bytes h =
    let same : length bytes ≡ max (length bytes) end = omega arith in
    sym (resized_itself bytes) ∙ ap (λ (n : ℕ). resized n bytes) same

drop-lengthened : (end : ℕ) (bytes : List ℕ) → drop end (resized (max (length bytes) end) bytes) ≡ drop end bytes
drop-lengthened end bytes =
    elim (cases_lt end (length bytes)) [
      | inl h ↦ ap (λ (xs : List ℕ). drop end xs) (sym (lengthened end bytes (omega arith)))
      | inr h ↦ (
          let short : length (resized (max (length bytes) end) bytes) ≤ end = omega (arith, length-resized (max (length bytes) end) bytes) in
          drop_all end (resized (max (length bytes) end) bytes) short ∙ sym (drop_all end bytes h)
          )
    ]

-- bytes put over those
pub put_over : (offset end : ℕ) (buffer bytes : List ℕ) → end ≡ offset + length buffer → take offset (resized (max (length bytes) end) bytes) ++ (buffer ++ drop end (resized (max (length bytes) end) bytes)) ≡ written offset buffer bytes
put_over offset end buffer bytes e =
    let room : List ℕ = resized (max (length bytes) end) bytes in
    ap (λ (xs : List ℕ). xs ++ (buffer ++ drop end room)) (take-resized offset (max (length bytes) end) bytes (omega arith))
    ∙ ap (λ (xs : List ℕ). resized offset bytes ++ (buffer ++ xs)) (drop-lengthened end bytes ∙ ap (λ (n : ℕ). drop n bytes) e)
    ∙ sym (append_assoc (resized offset bytes) buffer (drop (offset + length buffer) bytes))
