-- For the proofs; nothing here need be believed.
-- What removals leave of a content.
use Rattle.std.specs.Prelude.{◌≡◌, ◌⊎◌, ℕ, None}
use Rattle.std.specs.FinMap.{get}
use Rattle.std.specs.List.{AllByRecursion}
use Rattle.smb_tree.specs.Content.{Content}
use Rattle.smb_tree.specs.Good.{GoodContent, IsLawfulRow}
use Rattle.smb_files.specs.Contents.{files_of}
use Rattle.smb_journal_start.specs.Unmarked.{unmarked}

-- the entry of a number is as it was, or it was marked and is gone
abbrev pub IsSameOrGone : Content → Content → ℕ → Type 0
IsSameOrGone before after number =
    (get (files_of after).entries number ≡ get (files_of before).entries number)
    ⊎ ((get (files_of after).entries number ≡ None) × (unmarked (get (files_of before).entries number) ≡ None))

-- a good content, which has each entry that was there before, but for marked ones that are gone
pub record IsLeft (before after : Content) : Type 0 where
  pub good : GoodContent after
  pub lawful : AllByRecursion IsLawfulRow before.rows → AllByRecursion IsLawfulRow after.rows
  pub same : (number : ℕ) → IsSameOrGone before after number
  pub next : after.next ≡ before.next
  pub limits : after.limits ≡ before.limits
  pub capacity : after.capacity ≡ before.capacity
