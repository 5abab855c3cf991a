-- Each element of an UNLOCK that is not refused takes out the oldest lock over its range.
use Rattle.std.proofs.Common.{◌≡◌, ℕ, suc, ◌+◌, ◌==◌, ◌&&◌, Bool, true, false, not, if◌then◌else◌, List, [], ◌∷◌, Option, None, Some, take, refl, sym, ap, ◌∙◌, subst, arith}
use Rattle.std.proofs.lemmas.Bool.{eq-eqb, eqb-true, and_parts, and_from}
use Rattle.std.specs.List.{list_any}
use Rattle.std.specs.Option.{option_map_or}
use Rattle.smb_locks.specs.declared.ask.LockAsk.{LockAsk}
use Rattle.smb_locks.specs.declared.fault.LockFault.{LockFault}
use Rattle.smb_locks.specs.declared.fault.LockFault.TheVariants.{BadFlags, BadRange, NotLocked}
use Rattle.smb_locks.specs.declared.fault.UnlockError.{UnlockError}
use Rattle.smb_locks.specs.declared.lock.Lock.{Lock}
use Rattle.smb_locks.specs.declared.range.ByteRange.{ByteRange}
use Rattle.smb_locks.specs.Parts.{are_unlocks, range_asked, is_lock_over, without_oldest, unlock_fault, unlock_error_at, left_by, unlock_error_from}
use Rattle.smb_locks.specs.Good.{GoodLockTable}
use Rattle.smb_locks.specs.Ranges.{is_past_the_end}
use Rattle.smb_locks.specs.Table.{Table, locks_on, unlocked}
use Rattle.smb_locks.specs.Unlocking.{unlock_all_error}
use Rattle.smb_locks.proofs.Tables.{on_with}
use Rattle.smb_locks.proofs.Unlocked.{error_is, table_is}
use Rattle.smb_content_laws.specs.Locking.{LosesOldest, LosesEach}

-- a lock is one of an open over this very range
abbrev IsOver : ℕ → ByteRange → Lock → Type 0
IsOver holder range lock = (lock.holder ≡ holder) × (lock.range ≡ range)

-- the test of a lock over a range is the sentence
over_from_test : (holder : ℕ) (range : ByteRange) (lock : Lock) → is_lock_over holder range lock ≡ true → IsOver holder range lock
over_from_test holder range lock h =
    let parts = and_parts (lock.holder == holder && lock.range.offset == range.offset) (lock.range.length == range.length) h in
    let front = and_parts (lock.holder == holder) (lock.range.offset == range.offset) parts.0 in
    let begin = eqb-true lock.range.offset range.offset front.1 in
    let long = eqb-true lock.range.length range.length parts.1 in
    let same : lock.range ≡ range = λ i. record { offset = begin i; length = long i } in
    (eqb-true lock.holder holder front.0, same)

test_from_over : (holder : ℕ) (range : ByteRange) (lock : Lock) → IsOver holder range lock → is_lock_over holder range lock ≡ true
test_from_over holder range lock o =
    and_from (lock.holder == holder && lock.range.offset == range.offset) (lock.range.length == range.length)
    (and_from (lock.holder == holder) (lock.range.offset == range.offset) (eq-eqb lock.holder holder o.0) (eq-eqb lock.range.offset range.offset (ap (λ (r : ByteRange). r.offset) o.1)))
    (eq-eqb lock.range.length range.length (ap (λ (r : ByteRange). r.length) o.1))

not_over : (holder : ℕ) (range : ByteRange) (lock : Lock) → is_lock_over holder range lock ≡ false → IsOver holder range lock → ⊥
not_over holder range lock e o = let t = test_from_over holder range lock o in absurd (cc)

module _ (holder : ℕ) (range : ByteRange) where
  loses_at : (lock : Lock) (locks : List Lock) (b : Bool) → is_lock_over holder range lock ≡ b → list_any (is_lock_over holder range) (lock ∷ locks) ≡ true →
      (list_any (is_lock_over holder range) locks ≡ true → LosesOldest holder range locks (without_oldest (is_lock_over holder range) locks)) →
      LosesOldest holder range (lock ∷ locks) (without_oldest (is_lock_over holder range) (lock ∷ locks))
  loses_at lock locks true t h later = record {
    front = [];
    taken = lock;
    back = locks;
    was = refl;
    is = rw t refl;
    its = over_from_test holder range lock t;
    oldest = tt;
  }
  loses_at lock locks false t h later =
      let rest = later (rw t at h) in
      record {
        front = lock ∷ rest.front;
        taken = rest.taken;
        back = rest.back;
        was = ap (λ (xs : List Lock). lock ∷ xs) rest.was;
        is = rw t (ap (λ (xs : List Lock). lock ∷ xs) rest.is);
        its = rest.its;
        oldest = (not_over holder range lock t, rest.oldest);
      }

  loses_oldest : (locks : List Lock) → list_any (is_lock_over holder range) locks ≡ true → LosesOldest holder range locks (without_oldest (is_lock_over holder range) locks)
  loses_oldest [] h = absurd (cc)
  loses_oldest (lock ∷ locks) h = loses_at lock locks (is_lock_over holder range lock) refl h (λ later. loses_oldest locks later)

-- an element that is not refused has a lock over its range
held_by_none : (past held : Bool) → (if past then Some BadRange else if held then None else Some NotLocked) ≡ None → held ≡ true
held_by_none true held h = cc
held_by_none false true h = refl
held_by_none false false h = cc

none_at : (done : ℕ) (fault : Option LockFault) (later : Option UnlockError) → unlock_error_at done fault later ≡ None → (fault ≡ None) × (later ≡ None)
none_at done None later h = (refl, h)
none_at done (Some fault) later h = cc

loses_each : (holder done : ℕ) (asks : List LockAsk) (locks : List Lock) → unlock_error_from done holder locks asks ≡ None → LosesEach holder asks locks (left_by holder locks asks)
loses_each holder done [] locks h = refl
loses_each holder done (ask ∷ asks) locks h =
    let test = is_lock_over holder (range_asked ask) in
    let parts = none_at done (unlock_fault holder locks (range_asked ask)) (unlock_error_from (done + 1) holder (without_oldest test locks) asks) h in
    let held = held_by_none (is_past_the_end (range_asked ask)) (list_any test locks) parts.0 in
    let rest = loses_each holder (done + 1) asks (without_oldest test locks) parts.1 in
    let left : left_by holder locks (ask ∷ asks) ≡ left_by holder (without_oldest test locks) asks = rw parts.0 refl in
    (without_oldest test locks, loses_oldest holder (range_asked ask) locks held, rw left rest)

flags_first : (lawful : Bool) (o : Option UnlockError) → (if not lawful then Some (record { done = 0; fault = BadFlags }) else o) ≡ None → (lawful ≡ true) × (o ≡ None)
flags_first true o h = (refl, h)
flags_first false o h = cc

pub takes_asked : (table : Table) (file holder : ℕ) (asks : List LockAsk) → GoodLockTable table → unlock_all_error (locks_on table file) holder asks ≡ None → LosesEach holder asks (locks_on table file) (locks_on (unlocked table file holder asks) file)
takes_asked table file holder asks good h =
    let parts = flags_first (are_unlocks asks) (unlock_error_from 0 holder (locks_on table file) asks) (sym (error_is (locks_on table file) holder asks) ∙ h) in
    let after : locks_on (unlocked table file holder asks) file ≡ left_by holder (locks_on table file) asks = rw (table_is table file holder asks, parts.0) (on_with table file (left_by holder (locks_on table file) asks) good) in
    rw after (loses_each holder 0 asks (locks_on table file) parts.1)

-- where an element is refused, those before it have taken theirs
abbrev LosesBefore : ℕ → ℕ → List LockAsk → List Lock → UnlockError → Type 0
LosesBefore holder done asks locks error = (k : ℕ) × (error.done ≡ done + k) × LosesEach holder (take k asks) locks (left_by holder locks asks)

before_at : (holder done : ℕ) (ask : LockAsk) (asks : List LockAsk) (locks : List Lock) (error : UnlockError) (fault : Option LockFault) → unlock_fault holder locks (range_asked ask) ≡ fault →
    unlock_error_at done fault (unlock_error_from (done + 1) holder (without_oldest (is_lock_over holder (range_asked ask)) locks) asks) ≡ Some error →
    (unlock_error_from (done + 1) holder (without_oldest (is_lock_over holder (range_asked ask)) locks) asks ≡ Some error → LosesBefore holder (done + 1) asks (without_oldest (is_lock_over holder (range_asked ask)) locks) error) →
    LosesBefore holder done (ask ∷ asks) locks error
before_at holder done ask asks locks error (Some fault) e h later =
    let here : Some (let error : UnlockError = record { done = done; fault = fault } in error) ≡ Some error = h in
    let first : done ≡ error.done = ap (λ (o : Option UnlockError). option_map_or (λ (x : UnlockError). x.done) o done) here in
    (0, omega (arith, first), rw e refl)
before_at holder done ask asks locks error None e h later =
    let rest = later h in
    let count = rest.1 in
    let held = held_by_none (is_past_the_end (range_asked ask)) (list_any (is_lock_over holder (range_asked ask)) locks) e in
    let left : left_by holder locks (ask ∷ asks) ≡ left_by holder (without_oldest (is_lock_over holder (range_asked ask)) locks) asks = rw e refl in
    (suc rest.0, omega (arith, count), (without_oldest (is_lock_over holder (range_asked ask)) locks, loses_oldest holder (range_asked ask) locks held, rw left rest.2))

loses_before : (holder done : ℕ) (asks : List LockAsk) (locks : List Lock) (error : UnlockError) → unlock_error_from done holder locks asks ≡ Some error → LosesBefore holder done asks locks error
loses_before holder done [] locks error h = absurd (let e : None ≡ Some error = h in cc)
loses_before holder done (ask ∷ asks) locks error h =
    before_at holder done ask asks locks error (unlock_fault holder locks (range_asked ask)) refl h
    (λ later. loses_before holder (done + 1) asks (without_oldest (is_lock_over holder (range_asked ask)) locks) error later)

pub takes_before : (table : Table) (file holder : ℕ) (asks : List LockAsk) (error : UnlockError) → GoodLockTable table → unlock_all_error (locks_on table file) holder asks ≡ Some error →
    LosesEach holder (take error.done asks) (locks_on table file) (locks_on (unlocked table file holder asks) file)
takes_before table file holder asks error good h = by_flags (are_unlocks asks) refl (sym (error_is (locks_on table file) holder asks) ∙ h)
  where
    by_flags : (lawful : Bool) → are_unlocks asks ≡ lawful → (if not lawful then Some (record { done = 0; fault = BadFlags }) else unlock_error_from 0 holder (locks_on table file) asks) ≡ Some error →
        LosesEach holder (take error.done asks) (locks_on table file) (locks_on (unlocked table file holder asks) file)
    by_flags true t e =
        let after : locks_on (unlocked table file holder asks) file ≡ left_by holder (locks_on table file) asks = rw (table_is table file holder asks, t) (on_with table file (left_by holder (locks_on table file) asks) good) in
        let before = loses_before holder 0 asks (locks_on table file) error e in
        let count : before.0 ≡ error.done = (let c = before.1 in omega (arith, c)) in
        rw after (subst (λ (n : ℕ). LosesEach holder (take n asks) (locks_on table file) (left_by holder (locks_on table file) asks)) count before.2)
    by_flags false t e =
        let here : Some (let error : UnlockError = record { done = 0; fault = BadFlags } in error) ≡ Some error = e in
        let none : 0 ≡ error.done = ap (λ (o : Option UnlockError). option_map_or (λ (x : UnlockError). x.done) o 0) here in
        let after : locks_on (unlocked table file holder asks) file ≡ locks_on table file = rw (table_is table file holder asks, t) refl in
        subst (λ (n : ℕ). LosesEach holder (take n asks) (locks_on table file) (locks_on (unlocked table file holder asks) file)) none after
