-- For the proofs; nothing here need be believed.
-- Files that are written beside others, entry by entry.
use Rattle.std.specs.Prelude.{◌≡◌, ◌⊎◌, ℕ, ◌<◌, ◌≤◌, List, [], ◌++◌, length, take, drop, get_or, Option, None, Some, IfSome}
use Rattle.std.specs.List.{AllByRecursion}
use Rattle.std.specs.FinMap.{get}
use Rattle.smb_files.specs.Files.{FileEntry, Files, Change, writes, replayed}
use Rattle.smb_changes.specs.Batches.{spelled, spelled_change}
use Rattle.smb_changes.specs.Crash.{IsWritable}
use Rattle.smb_journaled_tree.specs.declared.place.Place.{Place}
use Rattle.smb_journaled_tree.specs.Written.{AreBatches}

-- an entry but for its bytes from `done` on, each of which is there or still zero
pub record Lags (done : ℕ) (entry ours : FileEntry) : Type 0 where
  pub parent : ours.parent ≡ entry.parent
  pub about : ours.about ≡ entry.about
  pub long : length ours.bytes ≡ length entry.bytes
  pub bytes : (i : ℕ) → (get_or ours.bytes i 0 ≡ get_or entry.bytes i 0) ⊎ ((done ≤ i) × (get_or ours.bytes i 0 ≡ 0))

abbrev pub LagsAt : ℕ → Option FileEntry → Option FileEntry → Type 0
LagsAt done None ours = ours ≡ None
LagsAt done (Some entry) ours = (its : FileEntry) × (ours ≡ Some its) × Lags done entry its

-- the entries below a place are those of other files, and that at the place as far as it is written; none is there that
-- they do not have
pub record IsBeside (files ours : Files) (place : Place) : Type 0 where
  pub next : ours.next ≤ files.next
  pub below : (q : ℕ) → q < place.number → get ours.entries q ≡ get files.entries q
  pub none : (q : ℕ) → get files.entries q ≡ None → get ours.entries q ≡ None
  pub here : (done : ℕ) → place.begun ≡ Some done →
      LagsAt done (get files.entries place.number) (get ours.entries place.number)

-- changes that bring files beside others from one place to another are put behind bytes
pub record Brings (files : Files) (old new : List ℕ) (before after : Place) : Type 0 where
  pub changes : List Change
  pub each : AllByRecursion IsWritable changes
  pub spelled_are : new ≡ old ++ spelled changes
  pub brought : (ours : Files) → IsBeside files ours before → IsBeside files (replayed ours changes) after

-- a part of a file's bytes from `done` on is put behind others, but where all of it is zero
pub record PutsPart (number done count : ℕ) (bytes old new : List ℕ) : Type 0 where
  pub long : length (take count (drop done bytes)) ≡ count
  pub puts : ((new ≡ old) × ((i : ℕ) → get_or (take count (drop done bytes)) i 0 ≡ 0))
      ⊎ ((new ≡ old ++ spelled_change (writes number done (take count (drop done bytes)))) × IsWritable (writes number done (take count (drop done bytes))))

-- a journal that is written beside another: its bytes, the first batch's seed, the number and the seed of the next, the
-- changes that are not written yet, and the place that it has come to
pub record RenewalState : Type 0 where
  pub bytes : List ℕ
  pub first : ℕ
  pub number : ℕ
  pub seed : ℕ
  pub noted : List ℕ
  pub place : Place

-- its whole batches make files that are beside others
pub record IsRenewing (files : Files) (renewal : RenewalState) : Type 0 where
  pub ours : Files
  pub written : AreBatches ours renewal.bytes renewal.first renewal.number renewal.seed
  pub beside : IsBeside files ours renewal.place
  pub empty : renewal.noted ≡ []

abbrev pub IsRenewed : Files → Option RenewalState → Type 0
IsRenewed files renewal = IfSome renewal (λ r. IsRenewing files r)
