-- One recursion says what elements leave and which of them is refused, as two do.
use Rattle.std.proofs.Common.{◌≡◌, ℕ, ◌+◌, Bool, true, false, not, if◌then◌else◌, List, [], ◌∷◌, Option, None, Some, refl, ap, ◌∙◌}
use Rattle.std.specs.List.{list_any}
use Rattle.std.specs.Option.{option_map}
use Rattle.smb_locks.specs.declared.ask.LockAsk.{LockAsk}
use Rattle.smb_locks.specs.declared.fault.LockFault.TheVariants.{BadFlags}
use Rattle.smb_locks.specs.declared.fault.UnlockError.{UnlockError}
use Rattle.smb_locks.specs.declared.lock.Lock.{Lock}
use Rattle.smb_locks.specs.Parts.{are_unlocks, range_asked, is_lock_over, without_oldest, left_by, unlock_error_from}
use Rattle.smb_locks.specs.Ranges.{is_past_the_end}
use Rattle.smb_locks.specs.Table.{Table, locks_on, with_locks, unlocked}
use Rattle.smb_locks.specs.Unlocking.{one_unlocked, all_unlocked, unlock_all_error}

-- one element
pushed : (held : Bool) (lock : Lock) (left : List Lock) → option_map (λ (ls : List Lock). lock ∷ ls) (if held then Some left else None) ≡ (if held then Some (lock ∷ left) else None)
pushed true lock left = refl
pushed false lock left = refl

module _ (holder : ℕ) (ask : LockAsk) where
  one_at : (lock : Lock) (locks : List Lock) (b : Bool) → is_lock_over holder (range_asked ask) lock ≡ b →
      one_unlocked holder ask locks ≡ (if list_any (is_lock_over holder (range_asked ask)) locks then Some (without_oldest (is_lock_over holder (range_asked ask)) locks) else None) →
      one_unlocked holder ask (lock ∷ locks) ≡ (if list_any (is_lock_over holder (range_asked ask)) (lock ∷ locks) then Some (without_oldest (is_lock_over holder (range_asked ask)) (lock ∷ locks)) else None)
  one_at lock locks true t ih = rw t refl
  one_at lock locks false t ih =
      rw t (ap (option_map (λ (ls : List Lock). lock ∷ ls)) ih
      ∙ pushed (list_any (is_lock_over holder (range_asked ask)) locks) lock (without_oldest (is_lock_over holder (range_asked ask)) locks))

  one_is : (locks : List Lock) → one_unlocked holder ask locks ≡ (if list_any (is_lock_over holder (range_asked ask)) locks then Some (without_oldest (is_lock_over holder (range_asked ask)) locks) else None)
  one_is [] = refl
  one_is (lock ∷ locks) = one_at lock locks (is_lock_over holder (range_asked ask) lock) refl (one_is locks)

-- all
all_at : (done holder : ℕ) (locks : List Lock) (ask : LockAsk) (asks : List LockAsk) (past held : Bool) → is_past_the_end (range_asked ask) ≡ past → list_any (is_lock_over holder (range_asked ask)) locks ≡ held →
    all_unlocked (done + 1) holder (without_oldest (is_lock_over holder (range_asked ask)) locks) asks ≡ (left_by holder (without_oldest (is_lock_over holder (range_asked ask)) locks) asks, unlock_error_from (done + 1) holder (without_oldest (is_lock_over holder (range_asked ask)) locks) asks) →
    all_unlocked done holder locks (ask ∷ asks) ≡ (left_by holder locks (ask ∷ asks), unlock_error_from done holder locks (ask ∷ asks))
all_at done holder locks ask asks true held p h ih = rw p refl
all_at done holder locks ask asks false true p h ih =
    let one : one_unlocked holder ask locks ≡ Some (without_oldest (is_lock_over holder (range_asked ask)) locks) = one_is holder ask locks ∙ rw h refl in
    rw (p, h, one) ih
all_at done holder locks ask asks false false p h ih =
    let one : one_unlocked holder ask locks ≡ None = one_is holder ask locks ∙ rw h refl in
    rw (p, h, one) refl

pub all_is : (done holder : ℕ) (locks : List Lock) (asks : List LockAsk) → all_unlocked done holder locks asks ≡ (left_by holder locks asks, unlock_error_from done holder locks asks)
all_is done holder locks [] = refl
all_is done holder locks (ask ∷ asks) =
    all_at done holder locks ask asks (is_past_the_end (range_asked ask)) (list_any (is_lock_over holder (range_asked ask)) locks) refl refl
    (all_is (done + 1) holder (without_oldest (is_lock_over holder (range_asked ask)) locks) asks)

pub left_is : (holder : ℕ) (locks : List Lock) (asks : List LockAsk) → (all_unlocked 0 holder locks asks).0 ≡ left_by holder locks asks
left_is holder locks asks = ap (λ (told : List Lock × Option UnlockError). told.0) (all_is 0 holder locks asks)

pub error_is : (locks : List Lock) (holder : ℕ) (asks : List LockAsk) →
    unlock_all_error locks holder asks ≡ (if not (are_unlocks asks) then Some (record { done = 0; fault = BadFlags }) else unlock_error_from 0 holder locks asks)
error_is locks holder asks = ap (λ (told : List Lock × Option UnlockError). if not (are_unlocks asks) then Some (record { done = 0; fault = BadFlags }) else told.1) (all_is 0 holder locks asks)

pub table_is : (table : Table) (file holder : ℕ) (asks : List LockAsk) →
    unlocked table file holder asks ≡ (if are_unlocks asks then with_locks table file (left_by holder (locks_on table file) asks) else table)
table_is table file holder asks = ap (λ (left : List Lock). if are_unlocks asks then with_locks table file left else table) (left_is holder (locks_on table file) asks)

-- why a request with the right flags is refused, by the locks of its file
pub error_by : (table : Table) (file holder : ℕ) (asks : List LockAsk) (old : List Lock) → are_unlocks asks ≡ true → locks_on table file ≡ old →
    unlock_all_error (locks_on table file) holder asks ≡ unlock_error_from 0 holder old asks
error_by table file holder asks old flags found = error_is (locks_on table file) holder asks ∙ rw (flags, found) refl
