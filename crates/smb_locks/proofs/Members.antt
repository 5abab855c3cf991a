-- Which locks a file has after a call.
use Rattle.std.proofs.Common.{◌≡◌, ◌≢◌, ◌⊎◌, inl, inr, ℕ, ◌==◌, Bool, true, false, not, List, [], ◌∷◌, ◌++◌, is_some, Contains, refl, ap, ◌∙◌}
use Rattle.std.proofs.lemmas.Bool.{eqb-true, eqb-false, not-true}
use Rattle.std.proofs.lemmas.List.Elements.{Contains-append_cases, All-contains_itself, recursion_from_All, All-contains, filter_passes}
use Rattle.std.specs.List.{AllByRecursion}
use Rattle.smb_locks.specs.declared.ask.LockAsk.{LockAsk}
use Rattle.smb_locks.specs.declared.lock.Lock.{Lock}
use Rattle.smb_locks.specs.Asks.{locks_asked}
use Rattle.smb_locks.specs.Parts.{are_unlocks, range_asked, is_lock_over, without_oldest, unlock_fault, left_by}
use Rattle.smb_locks.specs.Good.{GoodLockTable}
use Rattle.smb_locks.specs.Table.{Table, locks_on, with_locks, locked, unlocked, without_holder}
use Rattle.smb_locks.specs.Laws.{others_locks}
use Rattle.smb_locks.proofs.Alls.{all-filter, all-without}
use Rattle.smb_locks.proofs.Unlocked.{table_is}
use Rattle.smb_locks.proofs.Tables.{at_member, on_with, on_other, on_dropped}

all_members : (locks : List Lock) → AllByRecursion (Contains locks) locks
all_members locks = recursion_from_All (Contains locks) locks (All-contains_itself locks)

-- the locks that an open asks for are its own
all_asked : (holder : ℕ) (asks : List LockAsk) → AllByRecursion (λ lock. lock.holder ≡ holder) (locks_asked holder asks)
all_asked holder [] = tt
all_asked holder (ask ∷ asks) = (refl, all_asked holder asks)

own_or_old : (holder : ℕ) (asks : List LockAsk) (old : List Lock) (lock : Lock) → Contains old lock ⊎ Contains (locks_asked holder asks) lock → Contains old lock ⊎ (lock.holder ≡ holder)
own_or_old holder asks old lock (inl c) = inl c
own_or_old holder asks old lock (inr c) = inr (at_member (λ lock. lock.holder ≡ holder) (locks_asked holder asks) lock (all_asked holder asks) c)

pub member_locked : (table : Table) (file holder : ℕ) (asks : List LockAsk) (lock : Lock) → GoodLockTable table → Contains (locks_on (locked table file holder asks) file) lock → Contains (locks_on table file) lock ⊎ (lock.holder ≡ holder)
member_locked table file holder asks lock good c =
    let after = rw (on_with table file (locks_on table file ++ locks_asked holder asks) good) at c in
    own_or_old holder asks (locks_on table file) lock (Contains-append_cases (locks_on table file) (locks_asked holder asks) lock after)

-- what is left by unlocking was there
module _ (P : Lock → Type 0) (holder : ℕ) where
  left_at : (locks : List Lock) (ask : LockAsk) (asks : List LockAsk) (b : Bool) → is_some (unlock_fault holder locks (range_asked ask)) ≡ b → AllByRecursion P locks →
      AllByRecursion P (left_by holder (without_oldest (is_lock_over holder (range_asked ask)) locks) asks) → AllByRecursion P (left_by holder locks (ask ∷ asks))
  left_at locks ask asks true t h ih = rw t h
  left_at locks ask asks false t h ih = rw t ih

  all_left : (asks : List LockAsk) (locks : List Lock) → AllByRecursion P locks → AllByRecursion P (left_by holder locks asks)
  all_left [] locks h = h
  all_left (ask ∷ asks) locks h =
      let test = is_lock_over holder (range_asked ask) in
      left_at locks ask asks (is_some (unlock_fault holder locks (range_asked ask))) refl h (all_left asks (without_oldest test locks) (all-without P test locks h))

member_left : (holder : ℕ) (asks : List LockAsk) (locks : List Lock) (lock : Lock) → Contains (left_by holder locks asks) lock → Contains locks lock
member_left holder asks locks lock c = at_member (Contains locks) (left_by holder locks asks) lock (all_left (Contains locks) holder asks locks (all_members locks)) c

-- where the file is the one that is unlocked, and where it is another
written_at : (table : Table) (file other holder : ℕ) (asks : List LockAsk) (lock : Lock) (b : Bool) → (other == file) ≡ b → GoodLockTable table →
    Contains (locks_on (with_locks table file (left_by holder (locks_on table file) asks)) other) lock → Contains (locks_on table other) lock
written_at table file other holder asks lock true t good c =
    let at = eqb-true other file t in
    let after = rw (ap (locks_on (with_locks table file (left_by holder (locks_on table file) asks))) at ∙ on_with table file (left_by holder (locks_on table file) asks) good) at c in
    rw at (member_left holder asks (locks_on table file) lock after)
written_at table file other holder asks lock false t good c =
    rw (on_other table file other (left_by holder (locks_on table file) asks) (eqb-false other file t)) at c

unlocked_member_at : (table : Table) (file other holder : ℕ) (asks : List LockAsk) (lock : Lock) (b : Bool) → are_unlocks asks ≡ b → GoodLockTable table → Contains (locks_on (unlocked table file holder asks) other) lock → Contains (locks_on table other) lock
unlocked_member_at table file other holder asks lock true t good c = written_at table file other holder asks lock (other == file) refl good (rw (table_is table file holder asks, t) at c)
unlocked_member_at table file other holder asks lock false t good c = rw (table_is table file holder asks, t) at c

pub member_unlocked : (table : Table) (file other holder : ℕ) (asks : List LockAsk) (lock : Lock) → GoodLockTable table → Contains (locks_on (unlocked table file holder asks) other) lock → Contains (locks_on table other) lock
member_unlocked table file other holder asks lock good c = unlocked_member_at table file other holder asks lock (are_unlocks asks) refl good c

-- what a dropped open leaves was there, and is another's
module _ (holder : ℕ) (locks : List Lock) (lock : Lock) where
  member_others : Contains (others_locks holder locks) lock → Contains locks lock
  member_others c = at_member (Contains locks) (others_locks holder locks) lock (all-filter (Contains locks) (λ lock. not (lock.holder == holder)) locks (all_members locks)) c

  others_apart : Contains (others_locks holder locks) lock → lock.holder ≢ holder
  others_apart c = eqb-false lock.holder holder (not-true (lock.holder == holder) (All-contains (λ lock. not (lock.holder == holder) ≡ true) (others_locks holder locks) lock (filter_passes (λ lock. not (lock.holder == holder)) locks) c))

pub member_dropped : (table : Table) (holder file : ℕ) (lock : Lock) → GoodLockTable table → Contains (locks_on (without_holder holder table) file) lock → Contains (locks_on table file) lock × (lock.holder ≢ holder)
member_dropped table holder file lock good c =
    let after = rw (on_dropped holder file table good.rising) at c in
    (member_others holder (locks_on table file) lock after, others_apart holder (locks_on table file) lock after)

-- other files
unlocked_other_at : (table : Table) (file other holder : ℕ) (asks : List LockAsk) (b : Bool) → are_unlocks asks ≡ b → other ≢ file → locks_on (unlocked table file holder asks) other ≡ locks_on table other
unlocked_other_at table file other holder asks true t apart = rw (table_is table file holder asks, t) (on_other table file other (left_by holder (locks_on table file) asks) apart)
unlocked_other_at table file other holder asks false t apart = rw (table_is table file holder asks, t) refl

pub others_kept : (table : Table) (file other holder : ℕ) (asks : List LockAsk) → other ≢ file →
    (locks_on (locked table file holder asks) other ≡ locks_on table other) × (locks_on (unlocked table file holder asks) other ≡ locks_on table other)
others_kept table file other holder asks apart = (on_other table file other (locks_on table file ++ locks_asked holder asks) apart, unlocked_other_at table file other holder asks (are_unlocks asks) refl apart)
