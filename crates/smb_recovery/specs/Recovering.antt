-- What is recovered of a journal's bytes.
use Rattle.std.specs.Prelude.{◌≡◌, ℕ, ◌+◌, ◌-◌, ◌^◌, ◌≤◌, List, [], length, take, slice_index_or, Some, true}
use Rattle.std.specs.List.{AllByRecursion, Any, flat_map}
use Rattle.smb_files.specs.Files.{Change, Files, replayed, no_files}
use Rattle.smb_changes.specs.Batches.{written_from, batches_in, rest_of, is_damaged}
use Rattle.smb_changes.specs.Crash.{IsBatch}
use Rattle.smb_journaled_tree.specs.Written.{last_seed}
use Rattle.smb_held_files.specs.Faults.{change_fault}
use Rattle.smb_recovery.specs.declared.fault.RecoveryFault.{RecoveryFault}
use Rattle.smb_recovery.specs.declared.fault.RecoveryFault.TheVariants.{NoMemory, Refused, NotHeld, Damaged, TooLong}

-- the first `whole` of these bytes are batches that make these files, the first with this seed; the next batch gets
-- this number and this seed
pub record IsReadUpTo (first : ℕ) (bytes : List ℕ) (files : Files) (whole : ℕ) (number : ℕ) (seed : ℕ) : Type 0 where
  pub batches : List (List Change)
  pub each : AllByRecursion IsBatch batches
  pub spelled_are : take whole bytes ≡ written_from first 1 batches
  pub counted : number ≡ length batches + 1
  pub chained : seed ≡ last_seed first batches
  pub keeps : files ≡ replayed no_files (flat_map (λ changes. changes) batches)

-- the changes of the batch of a number, counted from 1, among the whole batches with which bytes begin
abbrev pub changes_of_batch : ℕ → ℕ → List ℕ → List Change
changes_of_batch first number bytes = slice_index_or (batches_in (length bytes) first 1 bytes) (number - 1) []

-- why nothing is recovered: behind the first `place` bytes, which are whole batches, no batch of this number begins,
-- nor what a lost end leaves of one; or a change of the batch of this number says what no share can have; or there are
-- too many bytes. (When memory or a read is refused no definition says.)
abbrev pub SaysWhy : ℕ → List ℕ → RecoveryFault → Type 0
SaysWhy first bytes (Damaged number place) =
    let rest = rest_of (length bytes) first 1 bytes in
    (is_damaged first bytes ≡ true) × (number ≡ rest.number) × (place + length rest.left ≡ length bytes)
SaysWhy first bytes (NotHeld number fault) =
    Any (λ change. change_fault change ≡ Some fault) (changes_of_batch first number bytes)
SaysWhy first bytes TooLong = 2 ^ 64 ≤ length bytes
SaysWhy first bytes NoMemory = Unit {0}
SaysWhy first bytes (Refused reason) = Unit {0}
