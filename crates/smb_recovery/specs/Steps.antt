-- For the proofs; nothing here need be believed.
-- What one step of the reading does.
use Rattle.std.specs.Prelude.{◌≡◌, ◌≢◌, ℕ, ◌+◌, ◌^◌, ◌<◌, ◌≤◌, List, [], ◌++◌, length, take, drop, Bool, true, false}
use Rattle.std.specs.Prelude.{◌||◌, nat_lt, Option, None, Some, is_some, if◌then◌else◌}
use Rattle.std.specs.List.{AllByRecursion, Any, flat_map}
use Rattle.std.specs.Option.{option_map_or}
use Rattle.smb_files.specs.Files.{Change, Files, replayed, no_files}
use Rattle.smb_changes.specs.Batches.{spelled, check, batch, written_from, changes_in, has_front, size_at, batch_at}
use Rattle.smb_changes.specs.Batches.{are_zeros, is_cut}
use Rattle.smb_changes.specs.Crash.{IsWritable, IsBatch}
use Rattle.smb_journaled_tree.specs.Written.{last_seed}
use Rattle.smb_held_files.specs.Faults.{change_fault}
use Rattle.smb_held_files.specs.declared.fault.HoldFault.{HoldFault}
use Rattle.smb_held_files.specs.declared.fault.HoldFault.TheVariants.{BadNumber, TooLong as FileTooLong}
use Rattle.smb_held_files.specs.declared.fault.HoldFault.TheVariants.{NoMemory as NoRoom}
use Rattle.smb_recovery.specs.declared.fault.RecoveryFault.{RecoveryFault}
use Rattle.smb_recovery.specs.declared.fault.RecoveryFault.TheVariants.{NoMemory, Refused, NotHeld, Damaged, TooLong}
use Rattle.smb_recovery.specs.declared.reading.Recovered.{Recovered}

-- how many bytes are taken for a batch of this number: those of its front, and, where that is one, of the whole batch
abbrev pub reach : ℕ → ℕ → List ℕ → ℕ
reach seed number bytes = if has_front seed number bytes then 33 + size_at bytes else 24

-- of bytes the first ones, up to `reach`, are in the buffer, and the others are left
pub record IsTaken (seed : ℕ) (number : ℕ) (bytes : List ℕ) (buffer : List ℕ) (left : List ℕ) : Type 0 where
  pub buffered : buffer ≡ take (reach seed number bytes) bytes
  pub behind : left ≡ drop (reach seed number bytes) bytes

-- these bytes may be behind those that were taken for a batch: any, but none where fewer were taken than it has
abbrev pub MayFollow : ℕ → ℕ → List ℕ → List ℕ → Type 0
MayFollow seed number buffer later = length buffer < reach seed number buffer → later ≡ []

-- the buffer has what is taken for a batch of this number, or less of it and the source has ended
pub record IsFull (seed : ℕ) (number : ℕ) (buffer : List ℕ) (ended : Bool) : Type 0 where
  pub within : length buffer ≤ reach seed number buffer
  pub short : length buffer < reach seed number buffer → ended ≡ true

-- how many bytes of changes follow bytes that begin with a front
abbrev pub size_given : ℕ → ℕ → List ℕ → Option ℕ
size_given seed number bytes = if has_front seed number bytes then Some (size_at bytes) else None

-- the buffer has the 24 bytes of a front, or fewer and the source has ended, and this size was found of them
pub record IsFrontTaken (found : Option ℕ) (seed : ℕ) (number : ℕ) (buffer : List ℕ) (ended : Bool) : Type 0 where
  pub within : length buffer ≤ 24
  pub short : length buffer < 24 → ended ≡ true
  pub given : found ≡ size_given seed number buffer

-- how many bytes there are, if all are zeros
abbrev pub zeros_found : List ℕ → Option ℕ
zeros_found bytes = if are_zeros bytes then Some (length bytes) else None

-- what a source had read before and has read now, if it found zeros, or others, behind it
pub record IsSearched (found : Option ℕ) (read : List ℕ) (now : List ℕ) (over : Bool) : Type 0 where
  pub left : List ℕ
  pub parts : now ≡ read ++ left
  pub is : found ≡ zeros_found left
  pub stays : over ≡ true → left ≡ []

-- so many zeros were found
pub record AreZeros (count : ℕ) (read : List ℕ) (now : List ℕ) (over : Bool) (ended : Bool) : Type 0 where
  pub left : List ℕ
  pub parts : now ≡ read ++ left
  pub zeros : are_zeros left ≡ true
  pub long : length left ≡ count
  pub stays : over ≡ true → (left ≡ []) × (ended ≡ true)

-- bytes are changes, one behind the other
abbrev pub AreChanges : List ℕ → Type 0
AreChanges bytes = is_some (changes_in (length bytes) bytes) ≡ true

-- of these changes those that bytes are were not made yet
pub record ChangesLeft (bytes : List ℕ) (files : Files) (begun : Files) (all : List Change) : Type 0 where
  pub before : List Change
  pub changes : List Change
  pub each : AllByRecursion IsWritable changes
  pub spelled_are : bytes ≡ spelled changes
  pub parts : all ≡ before ++ changes
  pub makes : replayed files changes ≡ replayed begun all

-- the changes that bytes are
abbrev pub changes_of : List ℕ → List Change
changes_of bytes = option_map_or (λ changes. changes) (changes_in (length bytes) bytes) []

-- the bytes that were taken for a batch may be what a lost end leaves of it, if only zeros are behind them
abbrev pub begins_torn : ℕ → ℕ → List ℕ → Bool
begins_torn seed number bytes =
    if has_front seed number bytes
    then nat_lt (length bytes) (33 + size_at bytes) || are_zeros (drop (32 + size_at bytes) bytes)
    else true

-- a batch was read, and its changes were made
pub record IsOneMore (old : Recovered) (new : Recovered) (bytes : List ℕ) (left : List ℕ) : Type 0 where
  pub changes : List Change
  pub fits : IsBatch changes
  pub spelled_are : bytes ≡ batch old.seed old.number (spelled changes) ++ left
  pub files : new.files ≡ replayed old.files changes
  pub whole : new.whole ≡ old.whole + length (batch old.seed old.number (spelled changes))
  pub bounded : new.whole < 2 ^ 64
  pub number : new.number ≡ old.number + 1
  pub seed : new.seed ≡ check old.seed (spelled changes)

-- no whole batch was there
pub record IsNoMore (old : Recovered) (new : Recovered) (buffer : List ℕ) : Type 0 where
  pub same : new ≡ old
  pub none : batch_at old.seed old.number buffer ≡ None

-- of what was taken for a batch
abbrev pub IsStep : Bool → Recovered → Recovered → List ℕ → Type 0
IsStep true old new buffer = IsOneMore old new buffer []
IsStep false old new buffer = IsNoMore old new buffer

-- of all bytes these are left, and of the others, which are whole batches, this is found
pub record IsReadTo (first : ℕ) (all : List ℕ) (left : List ℕ) (found : Recovered) : Type 0 where
  pub batches : List (List Change)
  pub each : AllByRecursion IsBatch batches
  pub parts : all ≡ written_from first 1 batches ++ left
  pub sized : found.whole ≡ length (written_from first 1 batches)
  pub counted : found.number ≡ length batches + 1
  pub chained : found.seed ≡ last_seed first batches
  pub keeps : found.files ≡ replayed no_files (flat_map (λ changes. changes) batches)

-- no whole batch is left: of what was read, this was found before what was taken for a batch
pub record IsReadOut (first : ℕ) (now : List ℕ) (buffer : List ℕ) (found : Recovered) (ended : Bool) : Type 0 where
  pub before : List ℕ
  pub parts : now ≡ before ++ buffer
  pub reading : IsReadTo first before [] found
  pub none : batch_at found.seed found.number buffer ≡ None
  pub full : IsFull found.seed found.number buffer ended

-- what was left behind the buffer was read: with the buffer it is what a lost end leaves
pub record IsEnd (found : Recovered) (done : Recovered) (buffer : List ℕ) (read : List ℕ) (now : List ℕ) (over : Bool)
    : Type 0 where
  pub left : List ℕ
  pub parts : now ≡ read ++ left
  pub cut : is_cut found.seed found.number (buffer ++ left) ≡ true
  pub is : done ≡ record found { cut = length buffer + length left }
  pub stays : over ≡ true → left ≡ []

-- what is answered where a change of the batch of this number is not made
abbrev pub refusal_of : ℕ → HoldFault → RecoveryFault
refusal_of number NoRoom = NoMemory
refusal_of number BadNumber = NotHeld number BadNumber
refusal_of number FileTooLong = NotHeld number FileTooLong

-- a fault refuses one of these changes, where it does not lack memory
abbrev pub RefusesOne : HoldFault → List Change → Type 0
RefusesOne fault changes = fault ≢ NoRoom → Any (λ change. change_fault change ≡ Some fault) changes

-- a batch was read, and a change of it is refused
pub record IsRefused (old : Recovered) (bytes : List ℕ) (number : ℕ) (fault : HoldFault) : Type 0 where
  pub changes : List Change
  pub rest : List ℕ
  pub there : batch_at old.seed old.number bytes ≡ Some (changes, rest)
  pub some : 0 < length bytes
  pub same : number ≡ old.number
  pub one : Any (λ change. change_fault change ≡ Some fault) changes

-- why the next batch is not read
abbrev pub StopsFor : Recovered → List ℕ → RecoveryFault → Type 0
StopsFor old bytes (Damaged number place) = ⊥
StopsFor old bytes NoMemory = Unit {0}
StopsFor old bytes (Refused reason) = Unit {0}
StopsFor old bytes (NotHeld number fault) = IsRefused old bytes number fault
StopsFor old bytes TooLong = 2 ^ 64 ≤ old.whole + length bytes

-- why bytes are not read to their end
abbrev pub IsLong : List ℕ → RecoveryFault → Type 0
IsLong bytes (Damaged number place) = ⊥
IsLong bytes NoMemory = Unit {0}
IsLong bytes (Refused reason) = Unit {0}
IsLong bytes (NotHeld number fault) = ⊥
IsLong bytes TooLong = 2 ^ 64 ≤ length bytes

-- why the end is refused: these bytes are no cut batch of this number, or are too many
abbrev pub EndsFor : ℕ → ℕ → ℕ → List ℕ → RecoveryFault → Type 0
EndsFor whole seed number bytes (Damaged at place) =
    (is_cut seed number bytes ≡ false) × (at ≡ number) × (place ≡ whole)
EndsFor whole seed number bytes NoMemory = Unit {0}
EndsFor whole seed number bytes (Refused reason) = Unit {0}
EndsFor whole seed number bytes (NotHeld at fault) = ⊥
EndsFor whole seed number bytes TooLong = 2 ^ 64 ≤ length bytes
