-- What a journaled tree is, and what its journal keeps.
use Rattle.std.specs.Prelude.{◌≡◌, ◌⊎◌, ℕ, ◌<◌, ◌≤◌, List, ◌++◌, length, take, replicate, false}
use Rattle.smb_tree.specs.Content.{Content}
use Rattle.smb_files.specs.Contents.{files_of}
use Rattle.smb_changes.specs.Batches.{recovered, is_damaged}

-- the content, the content that was settled, the first batch's seed, how many bytes are whole batches, and the bytes
pub record JournalState : Type 0 where
  pub content : Content
  pub settled : Content
  pub seed : ℕ
  pub whole : ℕ
  pub bytes : List ℕ

-- some of other bytes were put behind old ones, from the first on, and not all
pub record AddsPart (old others new : List ℕ) : Type 0 where
  pub count : ℕ
  pub few : count < length others
  pub bytes : new ≡ old ++ take count others

-- a crash that leaves at least the first so many bytes, and zeros or none, leaves a content's files, and is no damage
abbrev pub KeepsFiles : Content → ℕ → ℕ → List ℕ → Type 0
KeepsFiles content seed first bytes =
    (n count : ℕ) → first ≤ n →
    let left = take n bytes ++ replicate count 0 in
    (recovered seed left ≡ files_of content) × (is_damaged seed left ≡ false)

-- one that leaves at least the whole batches leaves the settled files or those of the content, and is no damage
abbrev pub LeavesOneOf : JournalState → List ℕ → Type 0
LeavesOneOf before bytes =
    (n count : ℕ) → before.whole ≤ n →
    let left = take n bytes ++ replicate count 0 in
    ((recovered before.seed left ≡ files_of before.settled) ⊎ (recovered before.seed left ≡ files_of before.content))
    × (is_damaged before.seed left ≡ false)
