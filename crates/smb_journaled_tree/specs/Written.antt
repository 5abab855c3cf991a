-- Bytes that a journal may begin with.
use Rattle.std.specs.Prelude.{◌≡◌, ℕ, ◌+◌, List, [], ◌∷◌, length}
use Rattle.std.specs.List.{AllByRecursion, flat_map}
use Rattle.smb_wire.specs.declared.limits.share.Limits.{Limits}
use Rattle.smb_tree.specs.Content.{Content, new_content_within}
use Rattle.smb_files.specs.Files.{Files, Change, replayed, no_files}
use Rattle.smb_files.specs.Contents.{files_of}
use Rattle.smb_changes.specs.Batches.{spelled, check, written_from}
use Rattle.smb_changes.specs.Crash.{IsBatch}

-- the seed of the batch behind these, of which the first has this one
abbrev pub last_seed : ℕ → List (List Change) → ℕ
last_seed seed [] = seed
last_seed seed (changes ∷ batches) = last_seed (check seed (spelled changes)) batches

-- bytes are whole batches that make files, the first with this seed; the next gets this number and seed
pub record AreBatches (files : Files) (bytes : List ℕ) (first number seed : ℕ) : Type 0 where
  pub batches : List (List Change)
  pub each : AllByRecursion IsBatch batches
  pub spelled_are : bytes ≡ written_from first 1 batches
  pub counted : number ≡ length batches + 1
  pub chained : seed ≡ last_seed first batches
  pub keeps : replayed no_files (flat_map (λ changes. changes) batches) ≡ files

-- they make a content's files
abbrev pub IsWritten : Content → List ℕ → ℕ → ℕ → ℕ → Type 0
IsWritten content = AreBatches (files_of content)

-- a content is that of a new tree: the root alone
pub record IsNew (content : Content) : Type 0 where
  pub limits : Limits
  pub created : ℕ
  pub capacity : ℕ
  pub is : content ≡ new_content_within limits created capacity
