-- A batch whose end is lost is no batch, by the lengths alone.
use Rattle.std.proofs.Common.{◌≡◌, ℕ, zero, suc, ◌+◌, ◌-◌, ◌^◌, ◌<◌, ◌≤◌, List, [], ◌∷◌, ◌++◌, length, take, drop, get_or, Some, None, Bool, true, false, ◌&&◌, refl, ◌∙◌, ap, inl, inr, append_assoc, arith, length-append, length-take, replicate, nat_le, if◌then◌else◌}
use Rattle.std.specs.List.{AllByRecursion}
use Rattle.std.specs.Str.{bytes_eq}
use Rattle.std.proofs.lemmas.List.{take_at, drop_at, get_or-take, get_or-drop, get_or-append_right, take-append-le, take-take}
use Rattle.std.proofs.Math.Seq.{take-append-add}
use Rattle.std.proofs.lemmas.Slice.Eq.{bytes_eq-Decides}
use Rattle.std.proofs.lemmas.Bool.{leb-true, leb-false}
use Rattle.std.proofs.lemmas.Bool.Decides.{leb_tells}
use Rattle.std.proofs.Math.Numerals.{one-add}
use Rattle.smb_wire.specs.Number.{number, spelling}
use Rattle.smb_wire.proofs.Numbers.{length-spelling}
use Rattle.smb_files.specs.Files.{Change}
use Rattle.smb_changes.specs.Batches.{spelled, check, front, back, batch, written_from, size_at, body_at, has_front, has_back, batch_at, batches_in}
use Rattle.smb_changes.specs.Crash.{IsBatch, whole_in}
use Rattle.smb_changes.proofs.Codes.{number_in-behind, changes_in-spelled, length-spelled}

pub length-front : (seed number size : ℕ) → length (front seed number size) ≡ 24
length-front seed number size =
    let fields = spelling 8 size ++ spelling 8 number in
    omega (arith, length-append fields (spelling 8 (check seed fields)), length-append (spelling 8 size) (spelling 8 number), length-spelling 8 size, length-spelling 8 number, length-spelling 8 (check seed fields))

pub length-back : (seed : ℕ) (body : List ℕ) → length (back seed body) ≡ 9
length-back seed body = omega (arith, length-append (spelling 8 (check seed body)) (10 ∷ []), length-spelling 8 (check seed body))

pub length-batch : (seed number : ℕ) (body : List ℕ) → length (batch seed number body) ≡ 33 + length body
length-batch seed number body =
    omega (arith, length-append (front seed number (length body)) (body ++ back seed body), length-append body (back seed body), length-front seed number (length body), length-back seed body)

-- bytes are equal to themselves
pub same_bytes : (xs : List ℕ) → bytes_eq xs xs ≡ true
same_bytes xs = (bytes_eq-Decides xs xs).1 refl

-- the size that a batch says to have is its own, also where only its first 4 bytes are left
pub size_at-front : (seed number size : ℕ) (rest : List ℕ) → size < 256 ^ 8 → size_at (front seed number size ++ rest) ≡ size
size_at-front seed number size rest h =
    let e : front seed number size ++ rest ≡ spelling 8 size ++ (spelling 8 number ++ (spelling 8 (check seed (spelling 8 size ++ spelling 8 number)) ++ rest)) = simp append_assoc in
    rw e (number_in-behind [] 8 size _ 0 refl h)

pub regroup : (a b c d : List ℕ) → (a ++ (b ++ c)) ++ d ≡ a ++ (b ++ (c ++ d))
regroup a b c d = simp append_assoc

-- a whole batch is read, with what is behind it
pub batch_at-batch : (seed number : ℕ) (changes : List Change) (rest : List ℕ) → IsBatch changes →
    batch_at seed number (batch seed number (spelled changes) ++ rest) ≡ Some (changes, rest)
batch_at-batch seed number changes rest h =
    let body = spelled changes in
    let head = front seed number (length body) in
    let grouped = regroup head body (back seed body) rest in
    let size = size_at-front seed number (length body) (body ++ (back seed body ++ rest)) h.short in
    let long = length-front seed number (length body) in
    let front_is = take_at head (body ++ (back seed body ++ rest)) 24 long in
    let behind = drop_at head (body ++ (back seed body ++ rest)) 24 long in
    let body_is = take_at body (back seed body ++ rest) (length body) refl in
    let to_back : drop (24 + length body) (head ++ (body ++ (back seed body ++ rest))) ≡ back seed body ++ rest =
    rw (← append_assoc head body (back seed body ++ rest)) (drop_at (head ++ body) (back seed body ++ rest) _ (omega (arith, length-append head body, long))) in
    let back_is = take_at (back seed body) rest 9 (length-back seed body) in
    let to_rest : drop (33 + length body) (head ++ (body ++ (back seed body ++ rest))) ≡ rest =
    rw (← append_assoc head body (back seed body ++ rest), ← append_assoc (head ++ body) (back seed body) rest) (drop_at ((head ++ body) ++ back seed body) rest _ (omega (arith, length-append (head ++ body) (back seed body), length-append head body, long, length-back seed body))) in
    rw (grouped, size, front_is, behind, body_is, to_back, back_is, to_rest, same_bytes head, same_bytes (back seed body), changes_in-spelled changes (length body) h.each (length-spelled changes)) refl

-- the last byte of a back is not 0
last_of_back : (seed : ℕ) (body : List ℕ) → get_or (back seed body) 8 0 ≡ 10
last_of_back seed body = get_or-append_right (spelling 8 (check seed body)) (10 ∷ []) 8 8 0 (length-spelling 8 (check seed body)) (omega arith)

-- where the last byte of the batch would be 0 or is not there, there is no batch
pub no_back : (seed : ℕ) (bytes : List ℕ) → get_or bytes (32 + size_at bytes) 0 ≡ 0 → has_back seed bytes ≡ false
no_back seed bytes h =
    let d = bytes_eq-Decides (take 9 (drop (24 + size_at bytes) bytes)) (back seed (body_at bytes)) in
    elim (has_back seed bytes) as (λ b. has_back seed bytes ≡ b → b ≡ false) [
      | true ↦ λ e.
          let same = d.0 e in
          let ten : get_or (take 9 (drop (24 + size_at bytes) bytes)) 8 0 ≡ 10 = ap (λ l. get_or l 8 0) same ∙ last_of_back seed (body_at bytes) in
          let at : get_or (take 9 (drop (24 + size_at bytes) bytes)) 8 0 ≡ get_or bytes (24 + size_at bytes + 8) 0 =
          get_or-take 9 (drop (24 + size_at bytes) bytes) 8 0 (omega arith) ∙ get_or-drop (24 + size_at bytes) bytes 8 0 in
          let place : 24 + size_at bytes + 8 ≡ 32 + size_at bytes = omega arith in
          let nought : get_or bytes (24 + size_at bytes + 8) 0 ≡ 0 = rw place h in
          absurd (omega (arith, ten, at, nought))
      | false ↦ λ e. refl
    ] refl

and_false : (a : Bool) → (a && false) ≡ false
and_false true = refl
and_false false = refl

-- where the last byte of the batch would be 0 or is not there, nothing is read
pub no_batch : (seed number : ℕ) (bytes : List ℕ) → get_or bytes (32 + size_at bytes) 0 ≡ 0 → batch_at seed number bytes ≡ None
no_batch seed number bytes h = rw (no_back seed bytes h, and_false (has_front seed number bytes)) refl

pub none_in : (most seed number : ℕ) (bytes : List ℕ) → get_or bytes (32 + size_at bytes) 0 ≡ 0 → batches_in most seed number bytes ≡ []
none_in zero seed number bytes h = refl
none_in (suc most) seed number bytes h = rw (no_batch seed number bytes h) refl

-- count are 0 wherever they are read, and behind their end
pub zeros_are : (count i : ℕ) → ◌≡◌ {A = ℕ} (get_or (replicate {A = ℕ} count 0) i 0) 0
zeros_are zero i = refl
zeros_are (suc count) zero = refl
zeros_are (suc count) (suc i) = zeros_are count i

pub zero_behind : (bytes : List ℕ) (m count i : ℕ) → m ≤ i → get_or (take m bytes ++ replicate count 0) i 0 ≡ 0
zero_behind bytes m count i h =
    get_or-append_right (take m bytes) (replicate count 0) (length (take m bytes)) i 0 refl (omega (arith, length-take m bytes))
    ∙ zeros_are count (i - length (take m bytes))

pub size_kept : (bytes : List ℕ) (m count : ℕ) → 8 ≤ m → m ≤ length bytes → size_at (take m bytes ++ replicate count 0) ≡ size_at bytes
size_kept bytes m count h k =
    ap number (take-append-le 8 (take m bytes) (replicate count 0) (omega (arith, length-take m bytes)) ∙ take-take 8 m bytes h)

pub size_of_batch : (seed number : ℕ) (body : List ℕ) → length body < 256 ^ 8 → size_at (batch seed number body) ≡ length body
size_of_batch seed number body h = size_at-front seed number (length body) (body ++ back seed body) h

-- a batch that is cut, with count behind it or none, ends in a zero or lacks its end
pub torn : (seed number : ℕ) (body : List ℕ) (m count : ℕ) → length body < 256 ^ 8 → m < length (batch seed number body) →
    get_or (take m (batch seed number body) ++ replicate count 0) (32 + size_at (take m (batch seed number body) ++ replicate count 0)) 0 ≡ 0
torn seed number body m count short cut =
    zero_behind (batch seed number body) m count (32 + size_at (take m (batch seed number body) ++ replicate count 0))
    (elim (leb_tells 8 m) [
      | inl h ↦ omega (arith, size_kept (batch seed number body) m count h.1 (omega arith), size_of_batch seed number body short, length-batch seed number body)
      | inr h ↦ omega arith
    ])

-- the first n bytes of a whole batch and what is behind it
pub take_batch : (bytes rest : List ℕ) (n : ℕ) → length bytes ≤ n → take n (bytes ++ rest) ≡ bytes ++ take (n - length bytes) rest
take_batch bytes rest n h =
    let e : n ≡ length bytes + (n - length bytes) = omega arith in
    ap (λ k. take k (bytes ++ rest)) e ∙ take-append-add bytes rest (n - length bytes)

pub take_nil : (n : ℕ) → take {A = ℕ} n [] ≡ []
take_nil zero = refl
take_nil (suc n) = refl

-- the changes of a whole batch
pub body_of_batch : (seed number : ℕ) (body rest : List ℕ) → length body < 256 ^ 8 → body_at (batch seed number body ++ rest) ≡ body
body_of_batch seed number body rest h =
    rw (regroup (front seed number (length body)) body (back seed body) rest, size_at-front seed number (length body) (body ++ (back seed body ++ rest)) h, drop_at (front seed number (length body)) (body ++ (back seed body ++ rest)) 24 (length-front seed number (length body)))
    (take_at body (back seed body ++ rest) (length body) refl)

-- one step of the reading
one_more : (most seed number : ℕ) (changes : List Change) (rest : List ℕ) → IsBatch changes →
    batches_in (suc most) seed number (batch seed number (spelled changes) ++ rest) ≡ changes ∷ batches_in most (check seed (spelled changes)) (number + 1) rest
one_more most seed number changes rest h = rw (batch_at-batch seed number changes rest h, body_of_batch seed number (spelled changes) rest h.short) refl

-- of a beginning of batches, with count behind it, the whole batches are read
pub batches_in-cut : (batches : List (List Change)) (most seed number n count : ℕ) → AllByRecursion IsBatch batches → whole_in seed number batches n ≤ most →
    batches_in most seed number (take n (written_from seed number batches) ++ replicate count 0) ≡ take (whole_in seed number batches n) batches
batches_in-cut [] most seed number n count h l =
    rw (take_nil n) (none_in most seed number (replicate count 0) (zeros_are count (32 + size_at (replicate count 0))))
batches_in-cut (changes ∷ batches) most seed number n count h l =
    let whole = batch seed number (spelled changes) in
    let more = written_from (check seed (spelled changes)) (number + 1) batches in
    elim (nat_le (length whole) n) as (λ t. nat_le (length whole) n ≡ t →
    (if t then 1 + whole_in (check seed (spelled changes)) (number + 1) batches (n - length whole) else 0) ≤ most →
    batches_in most seed number (take n (whole ++ more) ++ replicate count 0)
    ≡ take (if t then 1 + whole_in (check seed (spelled changes)) (number + 1) batches (n - length whole) else 0) (changes ∷ batches)) [
      | true ↦ λ e f. elim most as (λ most. 1 + whole_in (check seed (spelled changes)) (number + 1) batches (n - length whole) ≤ most →
          batches_in most seed number (take n (whole ++ more) ++ replicate count 0) ≡ take (1 + whole_in (check seed (spelled changes)) (number + 1) batches (n - length whole)) (changes ∷ batches)) [
            | zero ↦ λ g. absurd (omega arith)
            | suc most ↦ λ g.
                let ih = batches_in-cut batches most (check seed (spelled changes)) (number + 1) (n - length whole) count h.1 (omega arith) in
                rw (take_batch whole more n (leb-true (length whole) n e), append_assoc whole (take (n - length whole) more) (replicate count 0), one_more most seed number changes (take (n - length whole) more ++ replicate count 0) h.0, ih, one-add (whole_in (check seed (spelled changes)) (number + 1) batches (n - length whole))) refl
          ] f
      | false ↦ λ e f.
          let cut = leb-false (length whole) n e in
          rw (take-append-le n whole more (omega arith)) (none_in most seed number (take n whole ++ replicate count 0) (torn seed number (spelled changes) n count h.0.short cut))
    ] refl l

-- there are no more whole batches than bytes
pub whole_in-few : (batches : List (List Change)) (seed number n : ℕ) → whole_in seed number batches n ≤ length (take n (written_from seed number batches))
whole_in-few [] seed number n = omega arith
whole_in-few (changes ∷ batches) seed number n =
    let whole = batch seed number (spelled changes) in
    let more = written_from (check seed (spelled changes)) (number + 1) batches in
    elim (nat_le (length whole) n) as (λ t. nat_le (length whole) n ≡ t →
    (if t then 1 + whole_in (check seed (spelled changes)) (number + 1) batches (n - length whole) else 0) ≤ length (take n (whole ++ more))) [
      | true ↦ λ e.
          let ih = whole_in-few batches (check seed (spelled changes)) (number + 1) (n - length whole) in
          rw (take_batch whole more n (leb-true (length whole) n e)) (omega (arith, ih, length-append whole (take (n - length whole) more), length-batch seed number (spelled changes)))
      | false ↦ λ e. omega arith
    ] refl

-- what is written is read
pub batches_in-written : (batches : List (List Change)) (most seed number : ℕ) → AllByRecursion IsBatch batches → length batches ≤ most →
    batches_in most seed number (written_from seed number batches) ≡ batches
batches_in-written [] most seed number h l = none_in most seed number [] refl
batches_in-written (changes ∷ batches) zero seed number h l = absurd (omega arith)
batches_in-written (changes ∷ batches) (suc most) seed number h l =
    rw (one_more most seed number changes (written_from (check seed (spelled changes)) (number + 1) batches) h.0, batches_in-written batches most (check seed (spelled changes)) (number + 1) h.1 (omega arith)) refl

pub length-written : (batches : List (List Change)) (seed number : ℕ) → length batches ≤ length (written_from seed number batches)
length-written [] seed number = omega arith
length-written (changes ∷ batches) seed number =
    omega (arith, length-written batches (check seed (spelled changes)) (number + 1), length-append (batch seed number (spelled changes)) (written_from (check seed (spelled changes)) (number + 1) batches), length-batch seed number (spelled changes))
