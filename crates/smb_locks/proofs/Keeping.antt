-- The locks of a file stay good.
use Rattle.std.proofs.Common.{◌≡◌, ℕ, ◌≤◌, Bool, true, false, List, [], ◌∷◌, ◌++◌, length, filter, not, is_some, ◌==◌, None, refl, arith, append_assoc, append-nil, length-append}
use Rattle.std.specs.List.{AllByRecursion}
use Rattle.smb_locks.specs.declared.ask.LockAsk.{LockAsk}
use Rattle.smb_locks.specs.declared.lock.Lock.{Lock}
use Rattle.smb_locks.specs.Parts.{range_asked, is_lock_over, without_oldest, unlock_fault, AreCompatible, AreAllCompatible, lock_fault, left_by}
use Rattle.smb_locks.specs.Good.{GoodLocks}
use Rattle.smb_locks.specs.Laws.{others_locks}
use Rattle.smb_locks.specs.Locking.{locks_fault}
use Rattle.smb_locks.proofs.Alls.{all-append, all-filter, all-without}
use Rattle.smb_locks.proofs.Parts.{IsGranted, granted, both_none, all_beside}

-- no locks
pub good_none : GoodLocks []
good_none = record { compatible = tt; within = tt }

-- one lock more
compatible_push : (locks : List Lock) (asked : Lock) → AreAllCompatible locks → AllByRecursion (λ held. AreCompatible held asked) locks → AreAllCompatible (locks ++ asked ∷ [])
compatible_push [] asked h g = (tt, tt)
compatible_push (held ∷ locks) asked h g =
    (all-append (AreCompatible held) locks (asked ∷ []) h.0 (g.0, tt), compatible_push locks asked h.1 g.1)

good_push : (most : ℕ) (locks : List Lock) (asked : Lock) → GoodLocks locks → IsGranted most locks asked → GoodLocks (locks ++ asked ∷ [])
good_push most locks asked good grant = record {
  compatible = compatible_push locks asked good.compatible (all_beside asked locks grant.free);
  within = all-append _ locks (asked ∷ []) good.within (grant.within, tt);
}

-- some locks more, each granted beside those before it
pub good_more : (most : ℕ) (more locks : List Lock) → GoodLocks locks → locks_fault most locks more ≡ None → GoodLocks (locks ++ more)
good_more most [] locks good h = rw append-nil good
good_more most (asked ∷ more) locks good h =
    let parts = both_none (lock_fault most locks asked) (locks_fault most (locks ++ asked ∷ []) more) h in
    let next = good_more most more (locks ++ asked ∷ []) (good_push most locks asked good (granted most locks asked parts.0)) parts.1 in
    rw append_assoc at next

-- and no more than there may be
pub few_more : (most : ℕ) (more locks : List Lock) → length locks ≤ most → locks_fault most locks more ≡ None → length (locks ++ more) ≤ most
few_more most [] locks few h = rw append-nil few
few_more most (asked ∷ more) locks few h =
    let parts = both_none (lock_fault most locks asked) (locks_fault most (locks ++ asked ∷ []) more) h in
    let one = granted most locks asked parts.0 in
    let next = few_more most more (locks ++ asked ∷ []) (omega (arith, one.room, length-append locks (asked ∷ []))) parts.1 in
    rw append_assoc at next

-- one lock less
compatible_without_at : (p : Lock → Bool) (lock : Lock) (locks : List Lock) (b : Bool) → p lock ≡ b → AllByRecursion (AreCompatible lock) (without_oldest p locks) → AreAllCompatible locks → AreAllCompatible (without_oldest p locks) → AreAllCompatible (without_oldest p (lock ∷ locks))
compatible_without_at p lock locks true t h hs ih = rw t hs
compatible_without_at p lock locks false t h hs ih = rw t (h, ih)

compatible_without : (p : Lock → Bool) (locks : List Lock) → AreAllCompatible locks → AreAllCompatible (without_oldest p locks)
compatible_without p [] h = tt
compatible_without p (lock ∷ locks) h =
    compatible_without_at p lock locks (p lock) refl (all-without (AreCompatible lock) p locks h.0) h.1 (compatible_without p locks h.1)

fewer_at : (p : Lock → Bool) (lock : Lock) (locks : List Lock) (b : Bool) → p lock ≡ b → length (without_oldest p locks) ≤ length locks → length (without_oldest p (lock ∷ locks)) ≤ length (lock ∷ locks)
fewer_at p lock locks true t ih = rw t (omega arith)
fewer_at p lock locks false t ih = rw t (omega (arith, ih))

fewer : (p : Lock → Bool) (locks : List Lock) → length (without_oldest p locks) ≤ length locks
fewer p [] = omega arith
fewer p (lock ∷ locks) = fewer_at p lock locks (p lock) refl (fewer p locks)

good_without : (p : Lock → Bool) (locks : List Lock) → GoodLocks locks → GoodLocks (without_oldest p locks)
good_without p locks good = record {
  compatible = compatible_without p locks good.compatible;
  within = all-without _ p locks good.within;
}

good_left_at : (holder : ℕ) (locks : List Lock) (ask : LockAsk) (asks : List LockAsk) (b : Bool) → is_some (unlock_fault holder locks (range_asked ask)) ≡ b → GoodLocks locks → GoodLocks (left_by holder (without_oldest (is_lock_over holder (range_asked ask)) locks) asks) → GoodLocks (left_by holder locks (ask ∷ asks))
good_left_at holder locks ask asks true t good ih = rw t good
good_left_at holder locks ask asks false t good ih = rw t ih

pub good_left : (holder : ℕ) (asks : List LockAsk) (locks : List Lock) → GoodLocks locks → GoodLocks (left_by holder locks asks)
good_left holder [] locks good = good
good_left holder (ask ∷ asks) locks good =
    good_left_at holder locks ask asks (is_some (unlock_fault holder locks (range_asked ask))) refl good
    (good_left holder asks (without_oldest (is_lock_over holder (range_asked ask)) locks) (good_without (is_lock_over holder (range_asked ask)) locks good))

few_left_at : (holder : ℕ) (locks : List Lock) (ask : LockAsk) (asks : List LockAsk) (b : Bool) → is_some (unlock_fault holder locks (range_asked ask)) ≡ b → length (left_by holder (without_oldest (is_lock_over holder (range_asked ask)) locks) asks) ≤ length (without_oldest (is_lock_over holder (range_asked ask)) locks) → length (left_by holder locks (ask ∷ asks)) ≤ length locks
few_left_at holder locks ask asks true t ih = rw t (omega arith)
few_left_at holder locks ask asks false t ih = rw t (omega (arith, ih, fewer (is_lock_over holder (range_asked ask)) locks))

pub few_left : (holder : ℕ) (asks : List LockAsk) (locks : List Lock) → length (left_by holder locks asks) ≤ length locks
few_left holder [] locks = omega arith
few_left holder (ask ∷ asks) locks =
    few_left_at holder locks ask asks (is_some (unlock_fault holder locks (range_asked ask))) refl
    (few_left holder asks (without_oldest (is_lock_over holder (range_asked ask)) locks))

-- without an open's locks
compatible_filter_at : (p : Lock → Bool) (lock : Lock) (locks : List Lock) (b : Bool) → p lock ≡ b → AllByRecursion (AreCompatible lock) (filter p locks) → AreAllCompatible (filter p locks) → AreAllCompatible (filter p (lock ∷ locks))
compatible_filter_at p lock locks true t h ih = rw t (h, ih)
compatible_filter_at p lock locks false t h ih = rw t ih

compatible_filter : (p : Lock → Bool) (locks : List Lock) → AreAllCompatible locks → AreAllCompatible (filter p locks)
compatible_filter p [] h = tt
compatible_filter p (lock ∷ locks) h =
    compatible_filter_at p lock locks (p lock) refl (all-filter (AreCompatible lock) p locks h.0) (compatible_filter p locks h.1)

fewer_kept_at : (p : Lock → Bool) (lock : Lock) (locks : List Lock) (b : Bool) → p lock ≡ b → length (filter p locks) ≤ length locks → length (filter p (lock ∷ locks)) ≤ length (lock ∷ locks)
fewer_kept_at p lock locks true t ih = rw t (omega (arith, ih))
fewer_kept_at p lock locks false t ih = rw t (omega (arith, ih))

fewer_kept : (p : Lock → Bool) (locks : List Lock) → length (filter p locks) ≤ length locks
fewer_kept p [] = omega arith
fewer_kept p (lock ∷ locks) = fewer_kept_at p lock locks (p lock) refl (fewer_kept p locks)

pub good_others : (holder : ℕ) (locks : List Lock) → GoodLocks locks → GoodLocks (others_locks holder locks)
good_others holder locks good = record {
  compatible = compatible_filter (λ lock. not (lock.holder == holder)) locks good.compatible;
  within = all-filter _ (λ lock. not (lock.holder == holder)) locks good.within;
}

pub few_others : (holder : ℕ) (locks : List Lock) → length (others_locks holder locks) ≤ length locks
few_others holder locks = fewer_kept (λ lock. not (lock.holder == holder)) locks
