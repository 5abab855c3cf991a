-- What is left of batches when the end of their bytes is lost.
use Rattle.std.specs.Prelude.{◌≡◌, ℕ, ◌+◌, ◌-◌, ◌^◌, ◌<◌, ◌++◌, List, [], ◌∷◌, length, take, replicate, nat_le, false, if◌then◌else◌}
use Rattle.std.specs.List.{flat_map, AllByRecursion}
use Rattle.smb_wire.specs.Pairs.{AreUnits}
use Rattle.smb_files.specs.Files.{About, Change, sets, writes, resizes, removes, counts, replayed, no_files}
use Rattle.smb_changes.specs.Batches.{fields_of, spelled, check, batch, written_from, recovered, is_damaged}

-- what is known of an entry fits its bytes
pub record IsWritableAbout (about : About) : Type 0 where
  pub creation_time : about.basic.creation_time < 256 ^ 8
  pub last_access_time : about.basic.last_access_time < 256 ^ 8
  pub last_write_time : about.basic.last_write_time < 256 ^ 8
  pub change_time : about.basic.change_time < 256 ^ 8
  pub attributes : about.basic.attributes.0 < 256 ^ 4
  pub units : AreUnits about.spelling

-- what a change says of an entry fits its bytes
abbrev pub IsWritableEntry : Change → Type 0
IsWritableEntry (sets number parent about) = IsWritableAbout about
IsWritableEntry (writes number offset bytes) = Unit {0}
IsWritableEntry (resizes number size) = Unit {0}
IsWritableEntry (removes number) = Unit {0}
IsWritableEntry (counts next) = Unit {0}

-- a change fits its bytes
pub record IsWritable (change : Change) : Type 0 where
  pub number : (fields_of change).number < 256 ^ 8
  pub second : (fields_of change).second < 256 ^ 8
  pub short : length (fields_of change).data_bytes < 256 ^ 8
  pub entry : IsWritableEntry change

-- changes that a batch can hold
pub record IsBatch (changes : List Change) : Type 0 where
  pub each : AllByRecursion IsWritable changes
  pub short : length (spelled changes) < 256 ^ 8

-- how many batches lie wholly in the first n bytes
abbrev pub whole_in : ℕ → ℕ → List (List Change) → ℕ → ℕ
whole_in seed number [] n = 0
whole_in seed number (changes ∷ batches) n =
    let size = length (batch seed number (spelled changes)) in
    if nat_le size n then 1 + whole_in (check seed (spelled changes)) (number + 1) batches (n - size) else 0

-- what is written is read: the batches, each with its changes
abbrev pub WhatIsWrittenIsRead : Type 0
WhatIsWrittenIsRead =
    (seed : ℕ) (batches : List (List Change)) → AllByRecursion IsBatch batches →
    recovered seed (written_from seed 1 batches) ≡ replayed no_files (flat_map (λ changes. changes) batches)

-- of every beginning of what was written, with zeros behind it or none, are recovered the changes of the batches that
-- lie wholly in it, and nothing else
abbrev pub ACrashLeavesWholeBatches : Type 0
ACrashLeavesWholeBatches =
    (seed : ℕ) (batches : List (List Change)) (n count : ℕ) → AllByRecursion IsBatch batches →
    recovered seed (take n (written_from seed 1 batches) ++ replicate count 0)
    ≡ replayed no_files (flat_map (λ changes. changes) (take (whole_in seed 1 batches n) batches))

-- no beginning of what was written, with zeros behind it or none, is taken for damage
abbrev pub ACrashIsNoDamage : Type 0
ACrashIsNoDamage =
    (seed : ℕ) (batches : List (List Change)) (n count : ℕ) → AllByRecursion IsBatch batches →
    is_damaged seed (take n (written_from seed 1 batches) ++ replicate count 0) ≡ false
