-- A move that is not refused, in a user's words.
use Rattle.std.specs.Prelude.{◌≡◌, ◌≢◌, ℕ, ◌≤◌, true, false, if◌then◌else◌, List, [], ◌∷◌, ◌++◌, length, None, Some}
use Rattle.std.specs.List.{AllByRecursion, list_all}
use Rattle.std.specs.Option.{option_map}
use Rattle.smb_wire.specs.Paths.{folded_path, is_lawful_component}
use Rattle.smb_tree.specs.declared.fault.TreeFault.TheVariants.{Exists}
use Rattle.smb_tree.specs.Entries.{Entry, last_part}
use Rattle.smb_tree.specs.Content.{Path, Row, Content, is_same_path, entry_at, number_at, numbered, used_space}
use Rattle.smb_tree.specs.Good.{GoodContent, IsLawfulRow}
use Rattle.smb_tree.specs.Moves.{is_within, replaced, moved}
use Rattle.smb_tree.specs.Faults.{move_fault}

-- of a good content the entry of a number, at `from`, can be moved to the path that these components spell
pub record CanMove (content : Content) (number : ℕ) (parts : List (List ℕ)) (from : Path) (entry : Entry) : Type 0 where
  pub good : GoodContent content
  pub found : numbered content.rows number ≡ Some (from, entry)
  pub free : move_fault content number (folded_path parts) ≡ None

-- the entry is at the new path, spelled as its last component is; what was beneath the old path is beneath the new one,
-- with the same rest; at the old path and beneath it nothing is left, unless the new path is the old one; and every other
-- path keeps its entry
abbrev pub AnEntryMovesWithWhatIsBeneath : Type 0
AnEntryMovesWithWhatIsBeneath =
    (content : Content) (number : ℕ) (parts : List (List ℕ)) (from : Path) (entry : Entry) →
    CanMove content number parts from entry →
    let to = folded_path parts in
    let after = (moved content number parts).rows in
    (entry_at after to ≡ Some (record entry { spelling = last_part parts }))
    × ((name : List ℕ) (rest : Path) → entry_at after (to ++ name ∷ rest) ≡ entry_at content.rows (from ++ name ∷ rest))
    × ((path : Path) → is_same_path from to ≡ false → is_within from path ≡ true → entry_at after path ≡ None)
    × ((path : Path) → is_within from path ≡ false → is_within to path ≡ false →
    entry_at after path ≡ entry_at content.rows path)

-- each number keeps its entry, at its path or where that was moved, but for an entry that was replaced, which is gone
abbrev pub NumbersKeepTheirEntries : Type 0
NumbersKeepTheirEntries =
    (content : Content) (number : ℕ) (parts : List (List ℕ)) (from : Path) (entry : Entry) (other : ℕ) →
    CanMove content number parts from entry →
    let to = folded_path parts in
    let after = (moved content number parts).rows in
    ((number_at content.rows to ≡ Some other → other ≡ number) →
    numbered after other ≡ option_map
    (λ (row : Row). (
      replaced from to row.0,
      if is_same_path row.0 from then record row.1 { spelling = last_part parts } else row.1,
    ))
    (numbered content.rows other))
    × (number_at content.rows to ≡ Some other → other ≢ number → numbered after other ≡ None)

-- nothing but the root is moved to the root's path, where that folder stands
abbrev pub TheRootIsNotReplaced : Type 0
TheRootIsNotReplaced =
    (content : Content) (number : ℕ) (from : Path) (entry : Entry) → GoodContent content → numbered content.rows number ≡ Some (from, entry) →
    number ≢ 1 → move_fault content number [] ≡ Some Exists

-- a move makes no entry and uses no space; one that is not refused leaves a good content good; and one to a lawful path
-- leaves all entries lawful
abbrev pub AMoveKeepsGood : Type 0
AMoveKeepsGood =
    (content : Content) (number : ℕ) (parts : List (List ℕ)) →
    let after = moved content number parts in
    (length after.rows ≤ length content.rows) × (used_space after.rows ≤ used_space content.rows)
    × (GoodContent content → move_fault content number (folded_path parts) ≡ None → GoodContent after)
    × (AllByRecursion IsLawfulRow content.rows → list_all is_lawful_component parts ≡ true →
    AllByRecursion IsLawfulRow after.rows)
