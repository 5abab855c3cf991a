-- The numbers of opens ([MS-SMB2] 3.3.1.10) and of entries are given once, in a user's words.
use Rattle.std.specs.Prelude.{◌≡◌, ℕ, ◌<◌, ◌≤◌, List, None, Some}
use Rattle.std.specs.List.{AllByRecursion}
use Rattle.smb_tree.specs.Content.{Row, numbered}
use Rattle.smb_access.specs.declared.open_row.OpenRow.{OpenRow}
use Rattle.smb_access.specs.Opens.{open_of, AreAllBelow}
use Rattle.smb_opens.specs.Good.{GoodStore}
use Rattle.smb_opens.specs.State.{StoreState}
use Rattle.smb_opens.specs.Steps.{StoreStep, stepped_all}

-- from one store to a later one the next number of an open never falls, and each open's is below it; a number that was
-- given, and names no open, names none later; and one that names an open names no other later: it is as it was, but for
-- how far its scan of a directory has come
pub record GivesEachOpenOnce (before after : StoreState) : Type 0 where
  pub rise : before.next ≤ after.next
  pub below : AreAllBelow after.next after.opens
  pub ended : (number : ℕ) → number < before.next → open_of before.opens number ≡ None →
      open_of after.opens number ≡ None
  pub same : (number : ℕ) (one other : OpenRow) → open_of before.opens number ≡ Some one →
      open_of after.opens number ≡ Some other → other ≡ record one { scan = other.scan }

-- from one store to a later one the next number of an entry never falls, and each entry's is below it; a number that
-- was given, and names no entry, names none later; and one that names a file names no folder later, nor a folder's a file
pub record GivesEachEntryOnce (before after : StoreState) : Type 0 where
  pub rise : before.tree.next ≤ after.tree.next
  pub below : AllByRecursion (λ row. row.1.number < after.tree.next) after.tree.rows
  pub ended : (number : ℕ) → number < before.tree.next → numbered before.tree.rows number ≡ None →
      numbered after.tree.rows number ≡ None
  pub same : (number : ℕ) (one other : Row) → numbered before.tree.rows number ≡ Some one →
      numbered after.tree.rows number ≡ Some other → other.1.kind ≡ one.1.kind

-- whatever requests are performed, and whatever later ones, no number of an open or an entry is given twice: so the number
-- of an open that is closed names no open again, and that of an entry that is gone no entry
abbrev pub NoNumberIsGivenTwice : Type 0
NoNumberIsGivenTwice =
    (state : StoreState) (steps later : List StoreStep) → GoodStore state →
    let between = stepped_all state steps in
    GivesEachOpenOnce between (stepped_all between later) × GivesEachEntryOnce between (stepped_all between later)
