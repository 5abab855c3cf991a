-- Wrong definitions of batches, each with a law that refuses it: of the wrong one the law is false.
-- A law whose name ends in By says of any definition what that of specs/ says of the right one, as the line below it
-- shows; then come a wrong definition, and the proof that the law is false of it.
use Rattle.std.proofs.Common.{◌≡◌, ℕ, zero, suc, ◌+◌, ◌-◌, ◌&&◌, List, [], ◌∷◌, ◌++◌, length, take, drop, replicate, Option, None, nat_le, if◌then◌else◌, refl, ap, arith, ◌≢◌, sym, ◌∙◌, ◌<◌, ◌^◌, Some, get_or, ◌==◌}
use Rattle.std.specs.Option.{option_map, option_map_or}
use Rattle.std.specs.List.{flat_map, AllByRecursion}
use Rattle.std.specs.Str.{bytes_eq}
use Rattle.smb_wire.specs.Number.{IsBytes, spelling}
use Rattle.smb_wire.specs.Fields.{number_in}
use Rattle.smb_wire.proofs.Numbers.{spelling-each}
use Rattle.smb_files.specs.Files.{Change, counts, removes, Files, replayed, no_files}
use Rattle.smb_changes.specs.Batches.{Fields, spelled_change, change_of, change_at, spelled, changes_in, check, front, back, batch, written_from, size_at, body_at, has_front, batch_at, seed_behind, recovered}
use Rattle.smb_changes.specs.Chains.{ABatchOfAnotherChainIsNotRead}
use Rattle.smb_changes.proofs.Cuts.{batch_at-batch}
use Rattle.smb_changes.specs.Crash.{IsWritable, IsBatch, whole_in, ACrashLeavesWholeBatches}
use Rattle.smb_changes.specs.Exact.{OnlyAWrittenBatchIsRead}

-- of every beginning of what was written, with zeros behind it or none, are recovered the changes of its whole batches
abbrev ACrashLeavesWholeBatchesBy : (ℕ → List (List Change) → List ℕ) → (ℕ → List ℕ → Files) → (ℕ → List (List Change) → ℕ → ℕ) → Type 0
ACrashLeavesWholeBatchesBy written recovers whole =
    (seed : ℕ) (batches : List (List Change)) (n count : ℕ) → AllByRecursion IsBatch batches →
    recovers seed (take n (written seed batches) ++ replicate count 0)
    ≡ replayed no_files (flat_map (λ changes. changes) (take (whole seed batches n) batches))

a_crash_leaves_whole_batches : ACrashLeavesWholeBatches ≡ ACrashLeavesWholeBatchesBy (λ seed. written_from seed 1) recovered (λ seed. whole_in seed 1)
a_crash_leaves_whole_batches = refl

-- batches with another back, of so many bytes
module _ (ends : ℕ → List ℕ → List ℕ) (width : ℕ) where
  abbrev batch_by : ℕ → ℕ → List ℕ → List ℕ
  batch_by seed number body = front seed number (length body) ++ (body ++ ends seed body)

  abbrev written_by : ℕ → ℕ → List (List Change) → List ℕ
  written_by seed number [] = []
  written_by seed number (changes ∷ batches) =
      batch_by seed number (spelled changes) ++ written_by (check seed (spelled changes)) (number + 1) batches

  abbrev batch_at_by : ℕ → ℕ → List ℕ → Option (List Change × List ℕ)
  batch_at_by seed number bytes =
      if has_front seed number bytes && bytes_eq (take width (drop (24 + size_at bytes) bytes)) (ends seed (body_at bytes))
      then option_map (λ changes. (changes, drop (24 + width + size_at bytes) bytes)) (changes_in (size_at bytes) (body_at bytes))
      else None

  abbrev batches_by : ℕ → ℕ → ℕ → List ℕ → List (List Change)
  batches_by zero seed number bytes = []
  batches_by (suc most) seed number bytes = option_map_or
      (λ (found : List Change × List ℕ). found.0 ∷ batches_by most (seed_behind seed bytes) (number + 1) found.1)
      (batch_at_by seed number bytes)
      []

  abbrev recovered_by : ℕ → List ℕ → Files
  recovered_by seed bytes = replayed no_files (flat_map (λ changes. changes) (batches_by (length bytes) seed 1 bytes))

  abbrev whole_by : ℕ → ℕ → List (List Change) → ℕ → ℕ
  whole_by seed number [] n = 0
  whole_by seed number (changes ∷ batches) n =
      let size = length (batch_by seed number (spelled changes)) in
      if nat_le size n then 1 + whole_by (check seed (spelled changes)) (number + 1) batches (n - size) else 0

right_batch : (seed number : ℕ) (body : List ℕ) → batch seed number body ≡ batch_by back 9 seed number body
right_batch seed number body = refl

right_batch_at : (seed number : ℕ) (bytes : List ℕ) → batch_at seed number bytes ≡ batch_at_by back 9 seed number bytes
right_batch_at seed number bytes = refl

-- wrong: the back is the check alone, without a last byte that is not 0
abbrev only_check : ℕ → List ℕ → List ℕ
only_check seed body = spelling 8 (check seed body)

-- one batch, whose check by this seed is 1: its last 7 bytes are 0
abbrev raised : List Change
raised = counts 5 ∷ []

abbrev first_seed : ℕ
first_seed = 3655475076834264325

raised_fits : AllByRecursion IsBatch (raised ∷ [])
unfolding spelling
raised_fits = (record { each = (record { number = omega arith; second = omega arith; short = omega arith; entry = tt }, tt); short = omega arith }, tt)

not_raised : ◌≡◌ {A = ℕ} 5 1 → ⊥
not_raised e = omega (arith, e)

pub only_checks_are_refused : ACrashLeavesWholeBatchesBy (λ seed. written_by only_check 8 seed 1) (recovered_by only_check 8) (λ seed. whole_by only_check 8 seed 1) → ⊥
unfolding spelling check
only_checks_are_refused law = not_raised (ap (λ (files : Files). files.next) (law first_seed (raised ∷ []) 56 1 raised_fits))

-- a batch that was written by another seed is not read
abbrev ABatchOfAnotherChainIsNotReadBy : (ℕ → ℕ → List ℕ → List ℕ) → (ℕ → ℕ → List ℕ → Option (List Change × List ℕ)) → Type 0
ABatchOfAnotherChainIsNotReadBy write read =
    (seed other number : ℕ) (body rest : List ℕ) → seed < 2 ^ 64 → other < 2 ^ 64 → seed ≢ other →
    length body < 256 ^ 8 → read seed number (write other number body ++ rest) ≡ None

a_batch_of_another_chain_is_not_read : ABatchOfAnotherChainIsNotRead ≡ ABatchOfAnotherChainIsNotReadBy batch batch_at
a_batch_of_another_chain_is_not_read = refl

-- wrong: the checks of each batch are begun with 0
no_changes_fit : IsBatch []
no_changes_fit = record { each = tt; short = omega arith }

some_none : (found : List Change × List ℕ) → Some found ≡ None → ⊥
some_none found e = cc

pub checks_begun_with_0_are_refused : ABatchOfAnotherChainIsNotReadBy (λ seed. batch 0) (λ seed. batch_at 0) → ⊥
checks_begun_with_0_are_refused law =
    some_none ([], []) (sym (batch_at-batch 0 1 [] [] no_changes_fit) ∙ law 1 2 1 [] [] (omega arith) (omega arith) (λ e. omega (arith, e)) (omega arith))

-- bytes that are read as a batch are those that are written of its changes
abbrev OnlyAWrittenBatchIsReadBy : (ℕ → ℕ → List ℕ → Option (List Change × List ℕ)) → Type 0
OnlyAWrittenBatchIsReadBy read =
    (seed number : ℕ) (bytes rest : List ℕ) (changes : List Change) → IsBytes bytes →
    read seed number bytes ≡ Some (changes, rest) →
    (bytes ≡ batch seed number (spelled changes) ++ rest) × IsBatch changes

only_a_written_batch_is_read : OnlyAWrittenBatchIsRead ≡ OnlyAWrittenBatchIsReadBy batch_at
only_a_written_batch_is_read = refl

-- wrong: the back of a batch is not looked at
abbrev any_back : ℕ → ℕ → List ℕ → Option (List Change × List ℕ)
any_back seed number bytes =
    if has_front seed number bytes
    then option_map (λ changes. (changes, drop (33 + size_at bytes) bytes)) (changes_in (size_at bytes) (body_at bytes))
    else None

each_joined : (xs ys : List ℕ) → IsBytes xs → IsBytes ys → IsBytes (xs ++ ys)
each_joined [] ys h k i = k i
each_joined (x ∷ xs) ys h k zero = h 0
each_joined (x ∷ xs) ys h k (suc i) = each_joined xs ys (λ j. h (suc j)) k i

-- a front, with 9 bytes behind it that are no back
abbrev wrong_back : List ℕ
wrong_back = front 0 1 0 ++ spelling 9 7

wrong_back_bytes : IsBytes wrong_back
wrong_back_bytes =
    let fields = spelling 8 0 ++ spelling 8 1 in
    each_joined (front 0 1 0) (spelling 9 7)
    (each_joined fields (spelling 8 (check 0 fields)) (each_joined (spelling 8 0) (spelling 8 1) (spelling-each 8 0) (spelling-each 8 1)) (spelling-each 8 (check 0 fields)))
    (spelling-each 9 7)

pub any_back_is_refused : OnlyAWrittenBatchIsReadBy any_back → ⊥
unfolding spelling check
any_back_is_refused law =
    let e : ◌≡◌ {A = ℕ} 7 0 = ap (λ (bytes : List ℕ). get_or bytes 24 0) (law 0 1 wrong_back [] [] wrong_back_bytes refl).0 in omega (arith, e)

-- bytes that are read as a change are those that are written of it
module _ (says : Fields → Option Change) where
  abbrev change_at_by : List ℕ → Option (Change × List ℕ)
  change_at_by [] = None
  change_at_by (kind ∷ bytes) =
      let size = number_in 8 16 bytes in
      let fields : Fields = record {
        kind = kind;
        number = number_in 8 0 bytes;
        second = number_in 8 8 bytes;
        data_bytes = take size (drop 24 bytes);
      } in
      if nat_le (24 + size) (length bytes)
      then option_map (λ change. (change, drop (24 + size) bytes)) (says fields)
      else None

  abbrev OnlyAWrittenChangeIsReadBy : Type 0
  OnlyAWrittenChangeIsReadBy =
      (bytes rest : List ℕ) (change : Change) → IsBytes bytes → change_at_by bytes ≡ Some (change, rest) →
      (bytes ≡ spelled_change change ++ rest) × IsWritable change

right_change_at : (bytes : List ℕ) → change_at bytes ≡ change_at_by change_of bytes
right_change_at [] = refl
right_change_at (kind ∷ bytes) = refl

-- wrong: a removal may have any second number
abbrev any_second : Fields → Option Change
any_second fields = if fields.kind == 4 then Some (removes fields.number) else change_of fields

abbrev wrong_second : List ℕ
wrong_second = 4 ∷ (spelling 8 5 ++ (spelling 8 1 ++ spelling 8 0))

wrong_second_bytes : IsBytes wrong_second
wrong_second_bytes zero = omega arith
wrong_second_bytes (suc i) =
    each_joined (spelling 8 5) (spelling 8 1 ++ spelling 8 0) (spelling-each 8 5) (each_joined (spelling 8 1) (spelling 8 0) (spelling-each 8 1) (spelling-each 8 0)) i

pub any_second_is_refused : OnlyAWrittenChangeIsReadBy any_second → ⊥
unfolding spelling
any_second_is_refused law =
    let e : ◌≡◌ {A = ℕ} 1 0 = ap (λ (bytes : List ℕ). get_or bytes 9 0) (law wrong_second [] (removes 5) wrong_second_bytes refl).0 in omega (arith, e)
