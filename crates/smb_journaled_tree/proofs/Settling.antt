-- What is written, and what is left of it.
use Rattle.std.proofs.Common.{◌≡◌, inl, inr, ℕ, suc, ◌+◌, ◌-◌, ◌*◌, ◌^◌, ◌<◌, ◌≤◌, List, [], ◌∷◌, ◌++◌, length, take}
use Rattle.std.proofs.Common.{replicate, true, false, nat_le, not, refl, sym, ap, subst, arith, ◌∙◌, append_assoc, append-nil}
use Rattle.std.proofs.Common.{length-append, length-take, add-zero}
use Rattle.std.proofs.lemmas.Grind.{flat_map-append}
use Rattle.std.proofs.lemmas.List.{take_all, take_at, take-take}
use Rattle.std.proofs.lemmas.Bool.{le-leb, lt-leb}
use Rattle.std.proofs.lemmas.Bool.Decides.{leb_tells}
use Rattle.std.proofs.Math.Seq.{take-append-add}
use Rattle.std.specs.List.{AllByRecursion, flat_map}
use Rattle.smb_tree.specs.Content.{Content}
use Rattle.smb_files.specs.Files.{Files, Change, replayed, no_files}
use Rattle.smb_files.specs.Contents.{files_of}
use Rattle.smb_files.proofs.Goods.{all_push}
use Rattle.smb_changes.specs.Batches.{spelled, check, batch, written_from, recovered, is_damaged}
use Rattle.smb_changes.specs.Crash.{IsWritable, IsBatch, whole_in}
use Rattle.smb_changes.proofs.Cuts.{batches_in-cut, whole_in-few, length-batch, take_batch}
use Rattle.smb_changes.proofs.Damage.{rest_of-cut}
use Rattle.smb_journaled_tree.specs.Journal.{JournalState, AddsPart, KeepsFiles, LeavesOneOf}
use Rattle.smb_journaled_tree.specs.Written.{AreBatches, IsWritten, last_seed}
use Rattle.smb_journaled_tree.proofs.Keeping.{replayed-append}

-- the files that batches leave
abbrev files_left : List (List Change) → Files
files_left found = replayed no_files (flat_map (λ changes. changes) found)

written_from-append : (xs ys : List (List Change)) (seed number : ℕ) →
    written_from seed number (xs ++ ys) ≡ written_from seed number xs ++ written_from (last_seed seed xs) (number + length xs) ys
written_from-append [] ys seed number = rw (add-zero number) refl
written_from-append (x ∷ xs) ys seed number =
    let place : number + 1 + length xs ≡ number + suc (length xs) = omega arith in
    let next : ℕ = check seed (spelled x) in
    rw (written_from-append xs ys next (number + 1), place)
    (sym (append_assoc (batch seed number (spelled x)) (written_from next (number + 1) xs) (written_from (last_seed next xs) (number + suc (length xs)) ys)))

last_seed-more : (xs : List (List Change)) (changes : List Change) (seed : ℕ) →
    last_seed seed (xs ++ changes ∷ []) ≡ check (last_seed seed xs) (spelled changes)
last_seed-more [] changes seed = refl
last_seed-more (x ∷ xs) changes seed = last_seed-more xs changes (check seed (spelled x))

joined : (batches : List (List Change)) (changes : List Change) →
    files_left (batches ++ changes ∷ []) ≡ replayed (files_left batches) changes
joined batches changes =
    ap (replayed no_files) (flat_map-append (λ (changes : List Change). changes) batches (changes ∷ []) ∙ ap (λ (l : List Change). flat_map (λ changes. changes) batches ++ l) (append-nil changes)) ∙
    replayed-append no_files (flat_map (λ changes. changes) batches) changes

long_batches : (batches : List (List Change)) (seed number : ℕ) → 33 * length batches ≤ length (written_from seed number batches)
long_batches [] seed number = omega arith
long_batches (changes ∷ batches) seed number =
    let next : ℕ = check seed (spelled changes) in
    omega (arith, long_batches batches next (number + 1), length-append (batch seed number (spelled changes)) (written_from next (number + 1) batches), length-batch seed number (spelled changes))

-- where all batches but the last are within the first n bytes, and these are too few for it
whole_in-but_last : (batches : List (List Change)) (changes : List Change) (seed number n : ℕ) → length (written_from seed number batches) ≤ n →
    n < length (written_from seed number (batches ++ changes ∷ [])) → whole_in seed number (batches ++ changes ∷ []) n ≡ length batches
whole_in-but_last [] changes seed number n h l =
    let cut : nat_le (length (batch seed number (spelled changes))) n ≡ false = lt-leb (length (batch seed number (spelled changes))) n (omega (arith, l, length-append (batch seed number (spelled changes)) (written_from (check seed (spelled changes)) (number + 1) []))) in
    rw cut refl
whole_in-but_last (first ∷ batches) changes seed number n h l =
    let size = length (batch seed number (spelled first)) in
    let next : ℕ = check seed (spelled first) in
    let long = length-append (batch seed number (spelled first)) (written_from next (number + 1) batches) in
    let longer = length-append (batch seed number (spelled first)) (written_from next (number + 1) (batches ++ changes ∷ [])) in
    let fits : nat_le size n ≡ true = le-leb size n (omega (arith, h, long)) in
    rw fits (omega (arith, whole_in-but_last batches changes next (number + 1) (n - size) (omega (arith, h, long)) (omega (arith, l, h, long, longer))))

whole_in-all : (batches : List (List Change)) (seed number n : ℕ) → length (written_from seed number batches) ≤ n →
    whole_in seed number batches n ≡ length batches
whole_in-all [] seed number n h = refl
whole_in-all (first ∷ batches) seed number n h =
    let size = length (batch seed number (spelled first)) in
    let next : ℕ = check seed (spelled first) in
    let long = length-append (batch seed number (spelled first)) (written_from next (number + 1) batches) in
    let fits : nat_le size n ≡ true = le-leb size n (omega (arith, h, long)) in
    rw fits (omega (arith, whole_in-all batches next (number + 1) (n - size) (omega (arith, h, long))))

read_of : (first : ℕ) (batches : List (List Change)) (n count : ℕ) → AllByRecursion IsBatch batches →
    recovered first (take n (written_from first 1 batches) ++ replicate count 0) ≡ files_left (take (whole_in first 1 batches n) batches)
read_of first batches n count h =
    ap files_left
    (batches_in-cut batches (length (take n (written_from first 1 batches) ++ replicate count 0)) first 1 n count h (omega (arith, whole_in-few batches first 1 n, length-append (take n (written_from first 1 batches)) (replicate count 0))))

undamaged : (first : ℕ) (batches : List (List Change)) (n count : ℕ) → AllByRecursion IsBatch batches →
    is_damaged first (take n (written_from first 1 batches) ++ replicate count 0) ≡ false
undamaged first batches n count h =
    ap not (rest_of-cut batches (length (take n (written_from first 1 batches) ++ replicate count 0)) first 1 n count h (omega (arith, whole_in-few batches first 1 n, length-append (take n (written_from first 1 batches)) (replicate count 0))))

-- whole batches keep their files, whatever zeros are behind them
pub keeps_whole : (settled : Content) (bytes : List ℕ) (first number seed : ℕ) → IsWritten settled bytes first number seed →
    KeepsFiles settled first (length bytes) bytes
keeps_whole settled bytes first number seed w = λ n count h.
    let long : length (written_from first 1 w.batches) ≤ n = omega (arith, h, ap (length {A = ℕ}) w.spelled_are) in
    let same : take n bytes ++ replicate count 0 ≡ take n (written_from first 1 w.batches) ++ replicate count 0 = ap (λ (l : List ℕ). take n l ++ replicate count 0) w.spelled_are in
    let all : take (whole_in first 1 w.batches n) w.batches ≡ w.batches =
    ap (λ (m : ℕ). take m w.batches) (whole_in-all w.batches first 1 n long) ∙ take_all (length w.batches) w.batches (omega arith) in (
      ap (recovered first) same ∙ read_of first w.batches n count w.each ∙ ap files_left all ∙ w.keeps,
      ap (is_damaged first) same ∙ undamaged first w.batches n count w.each,
    )

take_less : (j k : ℕ) (ys : List ℕ) → (m : ℕ) × (take j (take k ys) ≡ take m ys) × (m ≤ k)
take_less j k ys = elim (leb_tells j k) [
  | inl h ↦ (j, take-take j k ys h.1, h.1)
  | inr h ↦ (k, take_all j (take k ys) (omega (arith, length-take k ys, h.1)), omega arith)
]

-- of whole bytes and the first k of others, the first n are so many of both
take_both : (xs ys : List ℕ) (n k : ℕ) → length xs ≤ n → (m : ℕ) × (take n (xs ++ take k ys) ≡ take (length xs + m) (xs ++ ys)) × (m ≤ k)
take_both xs ys n k h =
    let t = take_less (n - length xs) k ys in
    (t.0, take_batch xs (take k ys) n h ∙ ap (λ (l : List ℕ). xs ++ l) t.1 ∙ sym (take-append-add xs ys t.0), t.2)

module _ (files : Files) (bytes pending : List ℕ) (first number seed : ℕ) (changes : List Change) (w : AreBatches files bytes first number seed) (each : AllByRecursion IsWritable changes) (are : pending ≡ spelled changes) (short : length pending < 256 ^ 8) where
  more_are : AllByRecursion IsBatch (w.batches ++ changes ∷ [])
  more_are = all_push IsBatch w.batches changes w.each (record { each = each; short = omega (arith, short, ap (length {A = ℕ}) are) })

  more_spelled : bytes ++ batch seed number pending ≡ written_from first 1 (w.batches ++ changes ∷ [])
  more_spelled =
      let place : number ≡ 1 + length w.batches = omega (arith, w.counted) in
      let last : ℕ = last_seed first w.batches in
      ap (λ (l : List ℕ). l ++ batch seed number pending) w.spelled_are
      ∙ ap (λ (l : List ℕ). written_from first 1 w.batches ++ l) (ap (λ (s : ℕ). batch s number pending) w.chained ∙ ap (λ (k : ℕ). batch last k pending) place ∙ ap (batch last (1 + length w.batches)) are ∙ sym (append-nil (batch last (1 + length w.batches) (spelled changes))))
      ∙ sym (written_from-append w.batches (changes ∷ []) first 1)

  -- one batch more makes the files that its changes make of those before
  pub batches_more : AreBatches (replayed files changes) (bytes ++ batch seed number pending) first (number + 1) (check seed pending)
  batches_more = record {
    batches = w.batches ++ changes ∷ [];
    each = more_are;
    spelled_are = more_spelled;
    counted = omega (arith, w.counted, length-append w.batches (changes ∷ []));
    chained = ap (λ (s : ℕ). check s pending) w.chained ∙ ap (check (last_seed first w.batches)) are ∙ sym (last_seed-more w.batches changes first);
    keeps = joined w.batches changes ∙ ap (λ (f : Files). replayed f changes) w.keeps;
  }

  pub number_fits : length (bytes ++ batch seed number pending) < 2 ^ 64 → number + 1 < 2 ^ 64
  number_fits h = omega (arith, w.counted, h, ap (length {A = ℕ}) more_spelled, long_batches (w.batches ++ changes ∷ []) first 1, length-append w.batches (changes ∷ []))

module _ (settled content : Content) (bytes pending : List ℕ) (first number seed : ℕ) (changes : List Change) (w : IsWritten settled bytes first number seed) (each : AllByRecursion IsWritable changes) (are : pending ≡ spelled changes) (short : length pending < 256 ^ 8) where
  abbrev more : List (List Change)
  more = w.batches ++ changes ∷ []

  all_are : AllByRecursion IsBatch more
  all_are = more_are (files_of settled) bytes pending first number seed changes w each are short

  all_spelled : bytes ++ batch seed number pending ≡ written_from first 1 more
  all_spelled = more_spelled (files_of settled) bytes pending first number seed changes w each are short

  pub written_more : files_of content ≡ replayed (files_of settled) changes → IsWritten content (bytes ++ batch seed number pending) first (number + 1) (check seed pending)
  written_more replays = subst (λ (f : Files). AreBatches f (bytes ++ batch seed number pending) first (number + 1) (check seed pending)) (sym replays) (batches_more (files_of settled) bytes pending first number seed changes w each are short)

  -- a batch that is not all there is none
  pub keeps_cut : (n count : ℕ) → length bytes ≤ n → n < length (bytes ++ batch seed number pending) →
      (recovered first (take n (bytes ++ batch seed number pending) ++ replicate count 0) ≡ files_of settled)
      × (is_damaged first (take n (bytes ++ batch seed number pending) ++ replicate count 0) ≡ false)
  keeps_cut n count h l =
      let same : take n (bytes ++ batch seed number pending) ++ replicate count 0 ≡ take n (written_from first 1 more) ++ replicate count 0 =
      ap (λ (l : List ℕ). take n l ++ replicate count 0) all_spelled in
      let long : length (written_from first 1 w.batches) ≤ n = omega (arith, h, ap (length {A = ℕ}) w.spelled_are) in
      let less : n < length (written_from first 1 more) = omega (arith, l, ap (length {A = ℕ}) all_spelled) in
      let all : take (whole_in first 1 more n) more ≡ w.batches =
      ap (λ (m : ℕ). take m more) (whole_in-but_last w.batches changes first 1 n long less) ∙ take_at w.batches (changes ∷ []) (length w.batches) refl in (
        ap (recovered first) same ∙ read_of first more n count all_are ∙ ap files_left all ∙ w.keeps,
        ap (is_damaged first) same ∙ undamaged first more n count all_are,
      )

  -- nor is one of which a part was added
  pub keeps_part : (new : List ℕ) → AddsPart bytes (batch seed number pending) new → KeepsFiles settled first (length bytes) new
  keeps_part new p = λ n count h.
      let t = take_both bytes (batch seed number pending) n p.count h in
      let size : ℕ = length bytes + t.0 in
      let same : take n new ++ replicate count 0 ≡ take size (bytes ++ batch seed number pending) ++ replicate count 0 =
      ap (λ (l : List ℕ). take n l ++ replicate count 0) p.bytes ∙ ap (λ (l : List ℕ). l ++ replicate count 0) t.1 in
      let cut = keeps_cut size count (omega arith) (omega (arith, p.few, t.2, length-append bytes (batch seed number pending))) in
      (ap (recovered first) same ∙ cut.0, ap (is_damaged first) same ∙ cut.1)

-- what keeps the settled files leaves one of both
pub leaves_old : (before : JournalState) (bytes : List ℕ) → KeepsFiles before.settled before.seed before.whole bytes → LeavesOneOf before bytes
leaves_old before bytes k = λ n count h. (let e = k n count h in (inl e.0, e.1))
