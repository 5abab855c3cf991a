-- Elements of a LOCK, and the bytes that they spell.
use Rattle.std.proofs.Common.{◌≡◌, ℕ, zero, suc, ◌+◌, ◌*◌, ◌/◌, ◌^◌, ◌<◌, ◌≤◌, List, [], ◌∷◌, ◌++◌, length, get_or, take, drop, map, refl, ap, subst, arith, rules, ◌∙◌, length-append, length-drop, take-append-drop, append-nil}
use Rattle.std.proofs.lemmas.List.{length-take, length-take-le, get_or-drop, take_at, drop_at, take_all, length-map, drop-drop, drop-take, take-take}
use Rattle.std.specs.Simd.{first_chunks}
use Rattle.std.specs.List.{flat_map}
use Rattle.smb_wire.specs.Number.{IsBytes, spelling}
use Rattle.smb_wire.specs.Fields.{number_in, AllStand, joined}
use Rattle.smb_wire.proofs.Numbers.{spelling_of_number, number_below}
use Rattle.smb_wire.proofs.FieldTables.{length-joined, stand_behind}
use Rattle.smb_body.specs.Locks.{AllElements, lock_fields, SaysElements, lock_bytes, AllLocksFit}
use Rattle.smb_body.specs.LockLists.{lock_at, EachElementIsRead}
use Rattle.smb_body.specs.Readings.{locks_in}
use Rattle.smb_body.specs.declared.lock_element.LockElement.{LockElement}

-- 24 bytes
abbrev IsElement : List ℕ → Type 0
IsElement bytes = (length bytes ≡ 24) × IsBytes bytes

tail_elements : (p : List ℕ) (ps : List (List ℕ)) → AllElements (p ∷ ps) → AllElements ps
tail_elements p ps h = record { each = λ i k. h.each (suc i) (omega arith) }

head_element : (p : List ℕ) (ps : List (List ℕ)) → AllElements (p ∷ ps) → IsElement p
head_element p ps h = h.each 0 (omega arith)

cons_elements : (p : List ℕ) (ps : List (List ℕ)) → IsElement p → AllElements ps → AllElements (p ∷ ps)
cons_elements p ps h t = record { each = cases }
  where
    cases : (i : ℕ) → i < length (p ∷ ps) → IsElement (get_or (p ∷ ps) i [])
    cases zero k = h
    cases (suc i) k = t.each i (omega arith)

take_fits : (n : ℕ) (xs : List ℕ) → IsBytes xs → IsBytes (take n xs)
take_fits zero xs h i = omega arith
take_fits (suc n) [] h i = omega arith
take_fits (suc n) (x ∷ xs) h zero = h 0
take_fits (suc n) (x ∷ xs) h (suc i) = take_fits n xs (λ j. h (suc j)) i

drop_fits : (n : ℕ) (xs : List ℕ) → IsBytes xs → IsBytes (drop n xs)
drop_fits n xs h i = rw get_or-drop (h (n + i))

-- the elements that bytes are cut into are elements
pub chunks_elements : (k : ℕ) (bytes : List ℕ) → 24 * k ≤ length bytes → IsBytes bytes → AllElements (first_chunks 24 k bytes)
chunks_elements zero bytes e h = record { each = λ i k. absurd (omega arith) }
chunks_elements (suc k) bytes e h =
    cons_elements (take 24 bytes) (first_chunks 24 k (drop 24 bytes))
    (length-take-le 24 bytes (omega arith), take_fits 24 bytes h)
    (chunks_elements k (drop 24 bytes) (omega (arith, length-drop 24 bytes)) (drop_fits 24 bytes h))

-- a field spells the bytes at its place
field_bytes : (w place : ℕ) (bytes : List ℕ) → place + w ≤ length bytes → IsBytes bytes → spelling w (number_in w place bytes) ≡ take w (drop place bytes)
field_bytes w place bytes e h =
    let size : length (take w (drop place bytes)) ≡ w = length-take-le w (drop place bytes) (omega (arith, length-drop place bytes)) in
    let s = spelling_of_number (take w (drop place bytes)) (take_fits w (drop place bytes) (drop_fits place bytes h)) in
    rw size at s

-- a number read from w bytes fits them
field_below : (w place : ℕ) (bytes : List ℕ) → place + w ≤ length bytes → IsBytes bytes → number_in w place bytes < 256 ^ w
field_below w place bytes e h =
    let size : length (take w (drop place bytes)) ≡ w = length-take-le w (drop place bytes) (omega (arith, length-drop place bytes)) in
    let s = number_below (take w (drop place bytes)) (take_fits w (drop place bytes) (drop_fits place bytes h)) in
    rw size at s

-- what stands from a place on is some bytes and what stands behind them
cut_on : (place w : ℕ) (bytes : List ℕ) → take w (drop place bytes) ++ drop (place + w) bytes ≡ drop place bytes
cut_on place w bytes = let whole = take-append-drop w (drop place bytes) in rw (drop-drop w place bytes) at whole

-- 24 bytes are their four fields
four_parts : (bytes : List ℕ) → length bytes ≡ 24 → take 8 bytes ++ (take 8 (drop 8 bytes) ++ (take 4 (drop 16 bytes) ++ (take 4 (drop 20 bytes) ++ []))) ≡ bytes
four_parts bytes e =
    rw (append-nil (take 4 (drop 20 bytes)), take_all 4 (drop 20 bytes) (omega (arith, length-drop 20 bytes, e)), cut_on 16 4 bytes, cut_on 8 8 bytes) (take-append-drop 8 bytes)

element_bytes : (bytes : List ℕ) → IsElement bytes → joined (lock_fields (lock_at bytes)) ≡ bytes
element_bytes bytes e =
    let a = field_bytes 8 0 bytes (omega (arith, e.0)) e.1 in
    let b = field_bytes 8 8 bytes (omega (arith, e.0)) e.1 in
    let c = field_bytes 4 16 bytes (omega (arith, e.0)) e.1 in
    let d = field_bytes 4 20 bytes (omega (arith, e.0)) e.1 in
    rw (a, b, c, d) (four_parts bytes e.0)

element_fits : (bytes : List ℕ) → IsElement bytes → AllLocksFit (lock_at bytes ∷ [])
element_fits bytes e =
    ((field_below 8 0 bytes (omega (arith, e.0)) e.1, (field_below 8 8 bytes (omega (arith, e.0)) e.1, (field_below 4 16 bytes (omega (arith, e.0)) e.1, (field_below 4 20 bytes (omega (arith, e.0)) e.1, tt)))), tt)

-- the bytes of the elements that chunks spell are the chunks, one after the other
pub elements_bytes : (chunks : List (List ℕ)) → AllElements chunks → lock_bytes (map lock_at chunks) ≡ flat_map (λ x. x) chunks
elements_bytes [] h = refl
elements_bytes (p ∷ ps) h = rw (element_bytes p (head_element p ps h), elements_bytes ps (tail_elements p ps h)) refl

pub elements_fit : (chunks : List (List ℕ)) → AllElements chunks → AllLocksFit (map lock_at chunks)
elements_fit [] h = tt
elements_fit (p ∷ ps) h = ((element_fits p (head_element p ps h)).0, elements_fit ps (tail_elements p ps h))

pub length-locks_in : (bytes : List ℕ) → length (locks_in bytes) ≡ length bytes / 24
length-locks_in bytes = length-map (first_chunks 24 (length bytes / 24) bytes) lock_at ∙ length-first_chunks (length bytes / 24) bytes
  where
    length-first_chunks : (k : ℕ) (xs : List ℕ) → length (first_chunks 24 k xs) ≡ k
    length-first_chunks zero xs = refl
    length-first_chunks (suc k) xs = ap suc (length-first_chunks k (drop 24 xs))

pub length-lock_bytes : (locks : List LockElement) → AllLocksFit locks → length (lock_bytes locks) ≡ 24 * length locks
length-lock_bytes [] h = refl
length-lock_bytes (e ∷ es) h = omega (arith, length-append (joined (lock_fields e)) (lock_bytes es), length-joined (lock_fields e) h.0, length-lock_bytes es h.1)

-- 24 bytes say what `lock_at` gives
said_at : (bytes : List ℕ) → length bytes ≡ 24 → AllStand bytes (lock_fields (lock_at bytes))
said_at bytes e = ((omega arith, refl), ((omega arith, refl), ((omega arith, refl), ((omega arith, refl), tt))))

-- and nothing else
said_alone : (bytes : List ℕ) (e : LockElement) → AllStand bytes (lock_fields e) → lock_at bytes ≡ e
said_alone bytes e s = λ i. record { offset = s.0.1 i; length = s.1.0.1 i; flags = record { 0 = s.1.1.0.1 i }; reserved = s.1.1.1.0.1 i }

pub element_read : EachElementIsRead
element_read bytes e size = (said_alone bytes e, λ same. subst (λ (a : LockElement). AllStand bytes (lock_fields a)) same (said_at bytes size))

empty : (bytes : List ℕ) → length bytes ≡ 0 → bytes ≡ []
empty [] e = refl
empty (x ∷ bytes) e = absurd (omega arith)

-- whole elements say themselves
pub chunks_said : (k : ℕ) (bytes : List ℕ) → length bytes ≡ 24 * k → SaysElements bytes (map lock_at (first_chunks 24 k bytes))
chunks_said zero bytes e = empty bytes e
chunks_said (suc k) bytes e = (said_at (take 24 bytes) (length-take-le 24 bytes (omega arith)), chunks_said k (drop 24 bytes) (omega (arith, length-drop 24 bytes)))

pub said_length : (bytes : List ℕ) (locks : List LockElement) → SaysElements bytes locks → length bytes ≡ 24 * length locks
said_length bytes [] s = ap length s
said_length bytes (e ∷ es) s = omega (arith, s.0.1.1.1.0.0, length-take 24 bytes, length-drop 24 bytes, said_length (drop 24 bytes) es s.1)

chunks_only : (bytes : List ℕ) (locks : List LockElement) → SaysElements bytes locks → map lock_at (first_chunks 24 (length locks) bytes) ≡ locks
chunks_only bytes [] s = refl
chunks_only bytes (e ∷ es) s = rw (said_alone (take 24 bytes) e s.0, chunks_only (drop 24 bytes) es s.1) refl

-- the bytes say no other elements
pub elements_only : (bytes : List ℕ) (locks : List LockElement) → SaysElements bytes locks → locks_in bytes ≡ locks
elements_only bytes locks s =
    let count : length bytes / 24 ≡ length locks = omega (arith, said_length bytes locks s) in
    rw count (chunks_only bytes locks s)

-- cut from a front that has them, the elements are the same
chunks_cut : (n : ℕ) (bytes : List ℕ) → first_chunks 24 n (take (24 * n) bytes) ≡ first_chunks 24 n bytes
chunks_cut zero bytes = refl
chunks_cut (suc n) bytes =
    let whole : 24 * suc n ≡ 24 + 24 * n = omega arith in
    let one : take 24 (take (24 + 24 * n) bytes) ≡ take 24 bytes = take-take 24 (24 + 24 * n) bytes (omega arith) in
    let rest : drop 24 (take (24 + 24 * n) bytes) ≡ take (24 * n) (drop 24 bytes) = drop-take 24 (24 * n) bytes in
    rw (whole, one, rest, chunks_cut n (drop 24 bytes)) refl

pub locks_cut : (n : ℕ) (bytes : List ℕ) → 24 * n ≤ length bytes → locks_in (take (24 * n) bytes) ≡ map lock_at (first_chunks 24 n bytes)
locks_cut n bytes h =
    let count : length (take (24 * n) bytes) / 24 ≡ n = omega (arith, length-take-le (24 * n) bytes h) in
    rw (count, chunks_cut n bytes) refl

-- the bytes of elements say these elements
pub elements_written : (locks : List LockElement) → AllLocksFit locks → SaysElements (lock_bytes locks) locks
elements_written [] h = refl
elements_written (e ∷ es) h =
    let size = length-joined (lock_fields e) h.0 in
    let stand = stand_behind [] (lock_fields e) [] 0 refl (search rules) h.0 in
    let s : AllStand (joined (lock_fields e)) (lock_fields e) = subst (λ (bytes : List ℕ). AllStand bytes (lock_fields e)) (append-nil (joined (lock_fields e))) stand in
    rw (take_at (joined (lock_fields e)) (lock_bytes es) 24 size, drop_at (joined (lock_fields e)) (lock_bytes es) 24 size) (s, elements_written es h.1)
