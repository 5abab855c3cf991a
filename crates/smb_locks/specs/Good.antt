-- What holds of the locks between calls.
use Rattle.std.specs.Prelude.{ℕ, ◌≡◌, ◌≢◌, ◌<◌, ◌≤◌, false, List, [], ◌∷◌, length, map, true}
use Rattle.std.specs.List.{AllByRecursion}
use Rattle.smb_locks.specs.declared.lock.Lock.{Lock}
use Rattle.smb_locks.specs.Ranges.{is_past_the_end, overlaps}
use Rattle.smb_locks.specs.Table.{Table}

-- each element has a relation to each later one
abbrev pub EachToLater : {A : Type 0} → (A → A → Type 0) → List A → Type 0
EachToLater Holds [] = Unit {0}
EachToLater Holds (one ∷ others) = AllByRecursion (Holds one) others × EachToLater Holds others

-- the locks of a file: of two overlapping ones of different opens neither is exclusive; no range reaches past the end
pub record GoodLocks (locks : List Lock) : Type 0 where
  pub compatible : EachToLater
      (λ a b. a.holder ≢ b.holder → overlaps a.range b.range ≡ true → (a.exclusive ≡ false) × (b.exclusive ≡ false)) locks
  pub within : AllByRecursion (λ lock. is_past_the_end lock.range ≡ false) locks

-- a table: its files in rising number, each with some locks, which are good
pub record GoodLockTable (table : Table) : Type 0 where
  pub rising : EachToLater (λ number later. number < later) (map (λ entry. entry.0) table)
  pub listed : AllByRecursion (λ entry. 0 < length entry.1) table
  pub good : AllByRecursion (λ entry. GoodLocks entry.1) table

-- no file has more locks than there may be
abbrev pub FewLocks : ℕ → Table → Type 0
FewLocks most = AllByRecursion (λ entry. length entry.1 ≤ most)
