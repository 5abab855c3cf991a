-- What a store contains.
use Rattle.std.specs.Prelude.{ℕ, List}
use Rattle.smb_tree.specs.Content.{Content}
use Rattle.smb_locks.specs.Table.{Table}
use Rattle.smb_access.specs.declared.open_row.OpenRow.{OpenRow}

-- the tree, the opens in rising number, the locks of each file, and the number of the next open
pub record StoreState : Type 0 where
  pub tree : Content
  pub opens : List OpenRow
  pub locks : Table
  pub next : ℕ
