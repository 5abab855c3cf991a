-- The locks of other opens are left by a LOCK and an UNLOCK.
use Rattle.std.proofs.Common.{◌≡◌, ℕ, ◌==◌, ◌&&◌, Bool, true, false, not, if◌then◌else◌, List, [], ◌∷◌, ◌++◌, is_some, append-nil, refl, sym, ap, ◌∙◌}
use Rattle.std.proofs.lemmas.Bool.{eq-eqb, eqb-true, eqb-false, and_parts}
use Rattle.std.proofs.lemmas.List.Elements.{filter-append}
use Rattle.smb_locks.specs.declared.ask.LockAsk.{LockAsk}
use Rattle.smb_locks.specs.declared.lock.Lock.{Lock}
use Rattle.smb_locks.specs.declared.range.ByteRange.{ByteRange}
use Rattle.smb_locks.specs.Asks.{locks_asked}
use Rattle.smb_locks.specs.Parts.{are_unlocks, range_asked, is_lock_over, without_oldest, unlock_fault, left_by}
use Rattle.smb_locks.specs.Good.{GoodLockTable}
use Rattle.smb_locks.specs.Table.{Table, locks_on, with_locks, locked, unlocked}
use Rattle.smb_locks.specs.Laws.{others_locks}
use Rattle.smb_locks.proofs.Tables.{on_with, on_other}
use Rattle.smb_locks.proofs.Unlocked.{table_is}

-- none of the locks that an open asks for is another's
others_asked : (holder : ℕ) (asks : List LockAsk) → others_locks holder (locks_asked holder asks) ≡ []
others_asked holder [] = refl
others_asked holder (ask ∷ asks) = rw (eq-eqb holder holder refl) (others_asked holder asks)

-- an open's own lock is none of theirs
own_first : (holder : ℕ) (lock : Lock) (locks : List Lock) → (lock.holder == holder) ≡ true → others_locks holder (lock ∷ locks) ≡ others_locks holder locks
own_first holder lock locks e = rw e refl

over_own : (holder : ℕ) (range : ByteRange) (lock : Lock) → is_lock_over holder range lock ≡ true → (lock.holder == holder) ≡ true
over_own holder range lock h =
    let front = and_parts (lock.holder == holder && lock.range.offset == range.offset) (lock.range.length == range.length) h in
    (and_parts (lock.holder == holder) (lock.range.offset == range.offset) front.0).0

same_behind : (holder : ℕ) (lock : Lock) (xs ys : List Lock) → others_locks holder xs ≡ others_locks holder ys → others_locks holder (lock ∷ xs) ≡ others_locks holder (lock ∷ ys)
same_behind holder lock xs ys e =
    elim (lock.holder == holder) as (λ b. (if not b then lock ∷ others_locks holder xs else others_locks holder xs) ≡ (if not b then lock ∷ others_locks holder ys else others_locks holder ys)) [
      | true ↦ e
      | false ↦ ap (λ (locks : List Lock). lock ∷ locks) e
    ]

-- nor is one that an unlock takes out
without_at : (holder : ℕ) (range : ByteRange) (lock : Lock) (locks : List Lock) (b : Bool) → is_lock_over holder range lock ≡ b → others_locks holder (without_oldest (is_lock_over holder range) locks) ≡ others_locks holder locks →
    others_locks holder (without_oldest (is_lock_over holder range) (lock ∷ locks)) ≡ others_locks holder (lock ∷ locks)
without_at holder range lock locks true t ih = rw t (sym (own_first holder lock locks (over_own holder range lock t)))
without_at holder range lock locks false t ih = rw t (same_behind holder lock (without_oldest (is_lock_over holder range) locks) locks ih)

others_without : (holder : ℕ) (range : ByteRange) (locks : List Lock) → others_locks holder (without_oldest (is_lock_over holder range) locks) ≡ others_locks holder locks
others_without holder range [] = refl
others_without holder range (lock ∷ locks) = without_at holder range lock locks (is_lock_over holder range lock) refl (others_without holder range locks)

others_left : (holder : ℕ) (asks : List LockAsk) (locks : List Lock) → others_locks holder (left_by holder locks asks) ≡ others_locks holder locks
others_left holder [] locks = refl
others_left holder (ask ∷ asks) locks =
    elim (is_some (unlock_fault holder locks (range_asked ask))) as (λ b. others_locks holder (if b then locks else left_by holder (without_oldest (is_lock_over holder (range_asked ask)) locks) asks) ≡ others_locks holder locks) [
      | true ↦ refl
      | false ↦ others_left holder asks (without_oldest (is_lock_over holder (range_asked ask)) locks) ∙ others_without holder (range_asked ask) locks
    ]

-- what is another's stays so
twice_at : (holder : ℕ) (lock : Lock) (locks : List Lock) (b : Bool) → (lock.holder == holder) ≡ b → others_locks holder (others_locks holder locks) ≡ others_locks holder locks →
    others_locks holder (others_locks holder (lock ∷ locks)) ≡ others_locks holder (lock ∷ locks)
twice_at holder lock locks true t ih = rw t ih
twice_at holder lock locks false t ih = rw (t, t) (ap (λ (xs : List Lock). lock ∷ xs) ih)

pub others_twice : (holder : ℕ) (locks : List Lock) → others_locks holder (others_locks holder locks) ≡ others_locks holder locks
others_twice holder [] = refl
others_twice holder (lock ∷ locks) = twice_at holder lock locks (lock.holder == holder) refl (others_twice holder locks)

-- other locks of a file, of which the others' are the same
module _ (table : Table) (file holder : ℕ) (good : GoodLockTable table) where
  others_with : (locks : List Lock) → others_locks holder locks ≡ others_locks holder (locks_on table file) → (other : ℕ) → others_locks holder (locks_on (with_locks table file locks) other) ≡ others_locks holder (locks_on table other)
  others_with locks same other = at_file (other == file) refl
    where
      at_file : (b : Bool) → (other == file) ≡ b → others_locks holder (locks_on (with_locks table file locks) other) ≡ others_locks holder (locks_on table other)
      at_file true t =
          let here = eqb-true other file t in
          ap (λ (n : ℕ). others_locks holder (locks_on (with_locks table file locks) n)) here
          ∙ ap (others_locks holder) (on_with table file locks good)
          ∙ same
          ∙ ap (λ (n : ℕ). others_locks holder (locks_on table n)) (sym here)
      at_file false t = ap (others_locks holder) (on_other table file other locks (eqb-false other file t))

  pub others_locked : (other : ℕ) (asks : List LockAsk) → others_locks holder (locks_on (locked table file holder asks) other) ≡ others_locks holder (locks_on table other)
  others_locked other asks =
      let own : List Lock = locks_asked holder asks in
      let same : others_locks holder (locks_on table file ++ own) ≡ others_locks holder (locks_on table file) =
      filter-append (λ (lock : Lock). not (lock.holder == holder)) (locks_on table file) own
      ∙ ap (λ (xs : List Lock). others_locks holder (locks_on table file) ++ xs) (others_asked holder asks)
      ∙ append-nil (others_locks holder (locks_on table file)) in
      others_with (locks_on table file ++ own) same other

  pub others_unlocked : (other : ℕ) (asks : List LockAsk) → others_locks holder (locks_on (unlocked table file holder asks) other) ≡ others_locks holder (locks_on table other)
  others_unlocked other asks =
      ap (λ (t : Table). others_locks holder (locks_on t other)) (table_is table file holder asks)
      ∙ (elim (are_unlocks asks) as (λ b. others_locks holder (locks_on (if b then with_locks table file (left_by holder (locks_on table file) asks) else table) other) ≡ others_locks holder (locks_on table other)) [
        | true ↦ others_with (left_by holder (locks_on table file) asks) (others_left holder asks (locks_on table file)) other
        | false ↦ refl
      ])
