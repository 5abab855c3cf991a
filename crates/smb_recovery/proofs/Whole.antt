-- A whole batch is read from as many of the bytes as are taken for it.
use Rattle.std.proofs.Common.{◌≡◌, ℕ, ◌+◌, ◌^◌, ◌<◌, ◌≤◌, ◌&&◌, if◌then◌else◌, List, [], ◌++◌, length, take, drop, Option, Some, None, is_some, Bool, true, false, refl, sym, ◌∙◌, ap, arith, append-nil, length-append, length-take, length-drop}
use Rattle.std.specs.Option.{option_map}
use Rattle.std.specs.Str.{bytes_eq}
use Rattle.std.proofs.lemmas.List.{take-take, drop-take, take-append-drop, length-take-le}
use Rattle.std.proofs.lemmas.Bool.{and_parts}
use Rattle.std.proofs.lemmas.Slice.Eq.{bytes_eq-Decides}
use Rattle.smb_wire.specs.Number.{IsBytes}
use Rattle.smb_files.specs.Files.{Change}
use Rattle.smb_changes.specs.Batches.{spelled, front, back, batch, changes_in, size_at, body_at, has_front, has_back, batch_at}
use Rattle.smb_changes.specs.Crash.{IsBatch}
use Rattle.smb_changes.proofs.Cuts.{length-back, length-batch, size_at-front, body_of_batch, regroup}
use Rattle.smb_changes.proofs.Exact.{batch_exact}
use Rattle.smb_recovery.specs.Steps.{reach, IsTaken}
use Rattle.smb_recovery.proofs.Taking.{size_first, front_first}
use Rattle.smb_recovery.proofs.Ending.{none_left}

some_map : {A : Type 0} {B : Type 0} (f : A → B) (x : Option A) → is_some (option_map f x) ≡ is_some x
some_map f None = refl
some_map f (Some a) = refl

some_if : {A : Type 0} {B : Type 0} (t : Bool) (f : A → B) (x : Option A) → is_some (if t then option_map f x else None) ≡ (t && is_some x)
some_if true f x = some_map f x
some_if false f x = refl

-- the first bytes of a batch, as many as it has
module _ (seed number : ℕ) (bytes : List ℕ) where
  abbrev first : List ℕ
  first = take (33 + size_at bytes) bytes

  size_kept : size_at first ≡ size_at bytes
  size_kept = size_first (33 + size_at bytes) bytes (omega arith)

  front_kept : has_front seed number first ≡ has_front seed number bytes
  front_kept = front_first (33 + size_at bytes) seed number bytes (omega arith)

  body_kept : body_at first ≡ body_at bytes
  body_kept =
      let size : ℕ = size_at bytes in
      let place : 33 + size ≡ 24 + (9 + size) = omega arith in
      let behind : drop 24 first ≡ take (9 + size) (drop 24 bytes) = ap (λ (n : ℕ). drop 24 (take n bytes)) place ∙ drop-take 24 (9 + size) bytes in
      ap (λ (n : ℕ). take n (drop 24 first)) size_kept ∙ ap (take size) behind ∙ take-take size (9 + size) (drop 24 bytes) (omega arith)

  back_kept : take 9 (drop (24 + size_at first) first) ≡ take 9 (drop (24 + size_at bytes) bytes)
  back_kept =
      let size : ℕ = size_at bytes in
      let place : 33 + size ≡ (24 + size) + 9 = omega arith in
      let behind : drop (24 + size) first ≡ take 9 (drop (24 + size) bytes) = ap (λ (n : ℕ). drop (24 + size) (take n bytes)) place ∙ drop-take (24 + size) 9 bytes in
      ap (λ (n : ℕ). take 9 (drop (24 + n) first)) size_kept ∙ ap (take 9) behind ∙ take-take 9 9 (drop (24 + size) bytes) (omega arith)

  has_back_kept : has_back seed first ≡ has_back seed bytes
  has_back_kept = ap (λ (l : List ℕ). bytes_eq l (back seed (body_at first))) back_kept ∙ ap (λ (l : List ℕ). bytes_eq (take 9 (drop (24 + size_at bytes) bytes)) (back seed l)) body_kept

  some_batch : (own : List ℕ) → is_some (batch_at seed number own) ≡ ((has_front seed number own && has_back seed own) && is_some (changes_in (size_at own) (body_at own)))
  some_batch own = some_if (has_front seed number own && has_back seed own) _ (changes_in (size_at own) (body_at own))

  changes_kept : changes_in (size_at first) (body_at first) ≡ changes_in (size_at bytes) (body_at bytes)
  changes_kept = ap (λ (n : ℕ). changes_in n (body_at first)) size_kept ∙ ap (changes_in (size_at bytes)) body_kept

  whole_kept : is_some (batch_at seed number first) ≡ is_some (batch_at seed number bytes)
  whole_kept =
      some_batch first
      ∙ ap (λ (t : Bool). (t && has_back seed first) && is_some (changes_in (size_at first) (body_at first))) front_kept
      ∙ ap (λ (t : Bool). (has_front seed number bytes && t) && is_some (changes_in (size_at first) (body_at first))) has_back_kept
      ∙ ap (λ (o : Option (List Change)). (has_front seed number bytes && has_back seed bytes) && is_some o) changes_kept
      ∙ sym (some_batch bytes)

-- the changes of a whole batch can be read
pub changes_there : (seed number : ℕ) (bytes : List ℕ) → true ≡ is_some (batch_at seed number bytes) → is_some (changes_in (length (body_at bytes)) (body_at bytes)) ≡ true
changes_there seed number bytes h =
    let size : ℕ = size_at bytes in
    let tests = and_parts (has_front seed number bytes && has_back seed bytes) (is_some (changes_in size (body_at bytes))) (sym (some_batch seed number bytes bytes) ∙ sym h) in
    let back_there = (and_parts (has_front seed number bytes) (has_back seed bytes) tests.0).1 in
    let behind = drop (24 + size) bytes in
    let tail : take 9 behind ≡ back seed (body_at bytes) = (bytes_eq-Decides (take 9 behind) (back seed (body_at bytes))).0 back_there in
    let long : length (body_at bytes) ≡ size =
    length-take-le size (drop 24 bytes) (omega (arith, length-drop 24 bytes, ap length tail, length-back seed (body_at bytes), length-take 9 behind, length-drop (24 + size) bytes)) in
    ap (λ (n : ℕ). is_some (changes_in n (body_at bytes))) long ∙ tests.1

none_is : {A : Type 0} (x : Option A) → is_some x ≡ false → x ≡ None
none_is None h = refl
none_is (Some a) h = absurd (let no : true ≡ false = h in cc)

pub none_said_of : (seed number : ℕ) (buffer : List ℕ) → false ≡ is_some (batch_at seed number buffer) → batch_at seed number buffer ≡ None
none_said_of seed number buffer h = none_is (batch_at seed number buffer) (sym h)

-- where there is no whole batch in what was taken, there is none
pub none_whole : (seed number : ℕ) (bytes buffer : List ℕ) → buffer ≡ take (reach seed number bytes) bytes → false ≡ is_some (batch_at seed number buffer) → batch_at seed number bytes ≡ None
none_whole seed number bytes buffer e h =
    elim (has_front seed number bytes) as (λ t. has_front seed number bytes ≡ t → buffer ≡ take (if t then 33 + size_at bytes else 24) bytes → batch_at seed number bytes ≡ None) [
      | true ↦ λ has b. none_is (batch_at seed number bytes) (sym (whole_kept seed number bytes) ∙ ap (λ (l : List ℕ). is_some (batch_at seed number l)) (sym b) ∙ sym h)
      | false ↦ λ has b. rw has refl
    ] refl e

-- a whole batch that was read
pub record WholeRead (seed : ℕ) (number : ℕ) (bytes : List ℕ) (buffer : List ℕ) (left : List ℕ) : Type 0 where
  pub changes : List Change
  pub fits : IsBatch changes
  pub is : buffer ≡ batch seed number (spelled changes)
  pub body : body_at buffer ≡ spelled changes
  pub all : bytes ≡ batch seed number (spelled changes) ++ left

size_of_whole : (seed number : ℕ) (body rest : List ℕ) → length body < 256 ^ 8 → size_at (batch seed number body ++ rest) ≡ length body
size_of_whole seed number body rest h =
    ap size_at (regroup (front seed number (length body)) body (back seed body) rest) ∙ size_at-front seed number (length body) (body ++ (back seed body ++ rest)) h

reached : (seed number : ℕ) (bytes buffer : List ℕ) → buffer ≡ take (reach seed number bytes) bytes → 33 ≤ length buffer → length buffer ≤ 33 + size_at buffer
reached seed number bytes buffer e long =
    elim (has_front seed number bytes) as (λ t. has_front seed number bytes ≡ t → buffer ≡ take (if t then 33 + size_at bytes else 24) bytes → length buffer ≤ 33 + size_at buffer) [
      | true ↦ λ has b. omega (arith, ap length b, length-take (33 + size_at bytes) bytes, ap size_at b, size_kept seed number bytes)
      | false ↦ λ has b. absurd (omega (arith, long, ap length b, length-take 24 bytes))
    ] refl e

whole_of : (seed number : ℕ) (bytes buffer left : List ℕ) → IsBytes buffer → IsTaken seed number bytes buffer left → (found : Option (List Change × List ℕ)) → batch_at seed number buffer ≡ found → true ≡ is_some found → WholeRead seed number bytes buffer left
whole_of seed number bytes buffer left each taken None e h = absurd (let no : true ≡ false = h in cc)
whole_of seed number bytes buffer left each taken (Some (changes, rest)) e h =
    let exact = batch_exact seed number buffer rest changes each e in
    let body : List ℕ = spelled changes in
    let long : length buffer ≡ 33 + length body + length rest = omega (arith, ap length exact.0, length-append (batch seed number body) rest, length-batch seed number body) in
    let size : size_at buffer ≡ length body = ap size_at exact.0 ∙ size_of_whole seed number body rest exact.1.short in
    let none : rest ≡ [] = none_left rest (omega (arith, long, size, reached seed number bytes buffer taken.buffered (omega (arith, long)))) in
    let is : buffer ≡ batch seed number body = exact.0 ∙ ap (λ (l : List ℕ). batch seed number body ++ l) none ∙ append-nil (batch seed number body) in
    record {
      changes = changes;
      fits = exact.1;
      is = is;
      body = ap body_at exact.0 ∙ body_of_batch seed number body rest exact.1.short;
      all = sym (take-append-drop (reach seed number bytes) bytes) ∙ ap (λ (l : List ℕ). l ++ drop (reach seed number bytes) bytes) (sym taken.buffered ∙ is) ∙ ap (λ (l : List ℕ). batch seed number body ++ l) (sym taken.behind);
    }

pub whole_read : (seed number : ℕ) (bytes buffer left : List ℕ) → IsBytes buffer → IsTaken seed number bytes buffer left → true ≡ is_some (batch_at seed number buffer) → WholeRead seed number bytes buffer left
whole_read seed number bytes buffer left each taken h = whole_of seed number bytes buffer left each taken (batch_at seed number buffer) refl h
