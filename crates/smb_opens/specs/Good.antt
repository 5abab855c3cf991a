-- Good stores: what holds between any two requests.
use Rattle.std.specs.Prelude.{◌≡◌, ℕ, ◌≤◌, true, List, length, false, Some, Contains, bit_and, is_some, ◌==◌, ◌<◌}
use Rattle.std.specs.List.{AllByRecursion}
use Rattle.std.specs.Option.{option_map}
use Rattle.smb_wire.specs.Access.{FILE_ALL_ACCESS, FILE_SHARE_ALL}
use Rattle.smb_tree.specs.Content.{Content, numbered}
use Rattle.smb_tree.specs.Good.{GoodContent, IsLawfulRow}
use Rattle.smb_locks.specs.declared.lock.Lock.{Lock}
use Rattle.smb_locks.specs.Good.{GoodLockTable, FewLocks}
use Rattle.smb_locks.specs.Table.{Table, locks_on}
use Rattle.smb_access.specs.declared.open_row.OpenRow.{OpenRow}
use Rattle.smb_access.specs.Close.{is_deletable, has_mark}
use Rattle.smb_access.specs.Numbers.{AreRising}
use Rattle.smb_access.specs.Opens.{open_of, open_numbers, has_open}
use Rattle.smb_opens.specs.State.{StoreState}
use Rattle.smb_access.specs.Sharing.{is_conflict}

-- an open has no access but the rights that there are, and shares nothing but the three kinds ([MS-SMB2] 2.2.13, 2.2.13.1)
pub record IsMasked (row : OpenRow) : Type 0 where
  pub access : bit_and row.access.0 FILE_ALL_ACCESS ≡ row.access.0
  pub share : bit_and row.share.0 FILE_SHARE_ALL ≡ row.share.0

-- a good tree in which no entry is marked: a store may begin with it
pub record UnmarkedTree (content : Content) : Type 0 where
  pub good : GoodContent content
  pub lawful : AllByRecursion IsLawfulRow content.rows
  pub unmarked : (number : ℕ) → has_mark content.rows number ≡ false

-- a good store: its tree is good, and its entries are lawful; its opens are no more than the limits let be, of entries
-- that exist, in rising number below the next, with no bits outside their masks; no two opens of one entry conflict, and
-- each marked entry can be deleted and has an open; of no file two overlapping locks of different opens have an exclusive
-- one among them, no file has more locks than the limits let be, and each is held by an open of its file
pub record GoodStore (state : StoreState) : Type 0 where
  pub tree : GoodContent state.tree
  pub lawful : AllByRecursion IsLawfulRow state.tree.rows
  pub present : AllByRecursion (λ row. is_some (numbered state.tree.rows row.entry) ≡ true) state.opens
  pub rising : AreRising (open_numbers state.opens)
  pub below : AllByRecursion (λ number. number < state.next) (open_numbers state.opens)
  pub few : length state.opens ≤ state.tree.limits.opens
  pub masked : AllByRecursion IsMasked state.opens
  pub compatible :
      (one other : ℕ) (first second : OpenRow) → open_of state.opens one ≡ Some first →
      open_of state.opens other ≡ Some second → one == other ≡ false → first.entry ≡ second.entry →
      is_conflict (first.access, first.share) (second.access, second.share) ≡ false
  pub marked : (number : ℕ) → has_mark state.tree.rows number ≡ true →
      (is_deletable state.tree.rows number ≡ true) × (has_open state.opens number ≡ true)
  pub locked : GoodLockTable state.locks
  pub few_locks : FewLocks state.tree.limits.locks state.locks
  pub held : (file : ℕ) (lock : Lock) → Contains (locks_on state.locks file) lock →
      option_map (λ (row : OpenRow). row.entry) (open_of state.opens lock.holder) ≡ Some file

-- a good store, kept with the numbers of its opens and its entries
pub record IsKept (content : Content) (rows : List OpenRow) (locks : Table) (number opens_count entries_count : ℕ) : Type 0 where
  pub good : GoodStore (record { tree = content; opens = rows; locks = locks; next = number })
  pub opens_counted : opens_count ≡ length rows
  pub entries_counted : entries_count ≡ length content.rows
