-- A lost end is never taken for damage.
use Rattle.std.proofs.Common.{None, ◌≡◌, ℕ, zero, suc, ◌+◌, ◌-◌, ◌^◌, ◌<◌, ◌≤◌, List, [], ◌∷◌, ◌++◌, length, take, drop, Bool, true, false, ◌||◌, nat_lt, if◌then◌else◌, refl, sym, ◌∙◌, ap, inl, inr, append_assoc, arith, length-take, replicate, nat_le}
use Rattle.std.specs.List.{AllByRecursion}
use Rattle.std.proofs.lemmas.List.{take_at, drop_at, drop-drop, drop-replicate, take-append-le, take-take}
use Rattle.std.proofs.lemmas.Bool.{leb-true, leb-false}
use Rattle.std.proofs.lemmas.Bool.Decides.{leb_tells}
use Rattle.smb_files.specs.Files.{Change}
use Rattle.smb_changes.specs.Batches.{spelled, check, front, back, batch, written_from, size_at, has_front, batch_at, are_zeros, is_cut, Rest, rest_of}
use Rattle.smb_changes.specs.Crash.{IsBatch, whole_in}
use Rattle.smb_changes.proofs.Cuts.{length-front, length-batch, batch_at-batch, body_of_batch, no_batch, zeros_are, torn, take_batch, take_nil, same_bytes, size_kept, size_of_batch}

all_zeros : (count : ℕ) → are_zeros (replicate count 0) ≡ true
all_zeros zero = refl
all_zeros (suc count) = all_zeros count

zeros_left : (k count : ℕ) → are_zeros (drop k (replicate count 0)) ≡ true
zeros_left k count = rw (drop-replicate {X = ℕ} k count 0) (all_zeros (count - k))

-- behind the end of what is kept there are zeros
pub zeros_behind : (bytes : List ℕ) (m count k : ℕ) → m ≤ k → are_zeros (drop k (take m bytes ++ replicate count 0)) ≡ true
zeros_behind bytes m count k h =
    let kept = take m bytes in
    let place : k ≡ length kept + (k - length kept) = omega (arith, length-take m bytes) in
    let split : drop k (kept ++ replicate count 0) ≡ drop (k - length kept) (replicate count 0) =
    ap (λ (i : ℕ). drop i (kept ++ replicate count 0)) place ∙ sym (drop-drop (k - length kept) (length kept) (kept ++ replicate count 0)) ∙ ap (drop (k - length kept)) (drop_at kept (replicate count 0) (length kept) refl) in
    rw split (zeros_left (k - length kept) count)

or_true : (a : Bool) → (a || true) ≡ true
or_true true = refl
or_true false = refl

pub cut_by : (seed number : ℕ) (bytes : List ℕ) → are_zeros (drop (32 + size_at bytes) bytes) ≡ true → (has_front seed number bytes ≡ false → are_zeros (drop 24 bytes) ≡ true) → is_cut seed number bytes ≡ true
cut_by seed number bytes h k =
    elim (has_front seed number bytes) as (λ b. has_front seed number bytes ≡ b →
    (if b then nat_lt (length bytes) (33 + size_at bytes) || are_zeros (drop (32 + size_at bytes) bytes) else are_zeros (drop 24 bytes)) ≡ true) [
      | true ↦ λ e. rw h (or_true _)
      | false ↦ λ e. k e
    ] refl

zeros_cut : (seed number count : ℕ) → is_cut seed number (replicate count 0) ≡ true
zeros_cut seed number count = cut_by seed number (replicate count 0) (zeros_left (32 + size_at (replicate count 0)) count) (λ e. zeros_left 24 count)

torn_cut : (seed number : ℕ) (body : List ℕ) (m count : ℕ) → length body < 256 ^ 8 → m < length (batch seed number body) → is_cut seed number (take m (batch seed number body) ++ replicate count 0) ≡ true
torn_cut seed number body m count short cut =
    let whole = batch seed number body in
    let bytes = take m whole ++ replicate count 0 in
    elim (leb_tells 24 m) [
      | inl h ↦
          let size : size_at bytes ≡ length body = size_kept whole m count (omega arith) (omega arith) ∙ size_of_batch seed number body short in
          let fronted : take 24 bytes ≡ front seed number (length body) =
          take-append-le 24 (take m whole) (replicate count 0) (omega (arith, length-take m whole)) ∙ take-take 24 m whole h.1 ∙ take_at (front seed number (length body)) (body ++ back seed body) 24 (length-front seed number (length body)) in
          let has : has_front seed number bytes ≡ true = rw (fronted, size) (same_bytes (front seed number (length body))) in
          cut_by seed number bytes (zeros_behind whole m count (32 + size_at bytes) (omega (arith, size, length-batch seed number body))) (λ e. absurd (let no : true ≡ false = sym has ∙ e in cc))
      | inr h ↦ cut_by seed number bytes (zeros_behind whole m count (32 + size_at bytes) (omega arith)) (λ e. zeros_behind whole m count 24 (omega arith))
    ]

rest_none : (most seed number : ℕ) (bytes : List ℕ) → batch_at seed number bytes ≡ None → rest_of most seed number bytes ≡ record { seed = seed; number = number; left = bytes }
rest_none zero seed number bytes h = refl
rest_none (suc most) seed number bytes h = rw h refl

rest_more : (most seed number : ℕ) (changes : List Change) (rest : List ℕ) → IsBatch changes → rest_of (suc most) seed number (batch seed number (spelled changes) ++ rest) ≡ rest_of most (check seed (spelled changes)) (number + 1) rest
rest_more most seed number changes rest h = rw (batch_at-batch seed number changes rest h, body_of_batch seed number (spelled changes) rest h.short) refl

abbrev is_cut_at : Rest → Bool
is_cut_at rest = is_cut rest.seed rest.number rest.left

pub rest_of-cut : (batches : List (List Change)) (most seed number n count : ℕ) → AllByRecursion IsBatch batches → whole_in seed number batches n ≤ most →
    is_cut_at (rest_of most seed number (take n (written_from seed number batches) ++ replicate count 0)) ≡ true
rest_of-cut [] most seed number n count h l =
    rw (take_nil n, rest_none most seed number (replicate count 0) (no_batch seed number (replicate count 0) (zeros_are count (32 + size_at (replicate count 0))))) (zeros_cut seed number count)
rest_of-cut (changes ∷ batches) most seed number n count h l =
    let whole = batch seed number (spelled changes) in
    let more = written_from (check seed (spelled changes)) (number + 1) batches in
    elim (nat_le (length whole) n) as (λ t. nat_le (length whole) n ≡ t →
    (if t then 1 + whole_in (check seed (spelled changes)) (number + 1) batches (n - length whole) else 0) ≤ most →
    is_cut_at (rest_of most seed number (take n (whole ++ more) ++ replicate count 0)) ≡ true) [
      | true ↦ λ e f. elim most as (λ most. 1 + whole_in (check seed (spelled changes)) (number + 1) batches (n - length whole) ≤ most →
          is_cut_at (rest_of most seed number (take n (whole ++ more) ++ replicate count 0)) ≡ true) [
            | zero ↦ λ g. absurd (omega arith)
            | suc most ↦ λ g.
                let ih = rest_of-cut batches most (check seed (spelled changes)) (number + 1) (n - length whole) count h.1 (omega arith) in
                rw (take_batch whole more n (leb-true (length whole) n e), append_assoc whole (take (n - length whole) more) (replicate count 0), rest_more most seed number changes (take (n - length whole) more ++ replicate count 0) h.0) ih
          ] f
      | false ↦ λ e f.
          let cut = leb-false (length whole) n e in
          let bytes = take n whole ++ replicate count 0 in
          rw (take-append-le n whole more (omega arith), rest_none most seed number bytes (no_batch seed number bytes (torn seed number (spelled changes) n count h.0.short cut)))
          (torn_cut seed number (spelled changes) n count h.0.short cut)
    ] refl l
