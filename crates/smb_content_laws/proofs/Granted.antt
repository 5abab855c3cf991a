-- A LOCK that is not refused conflicts with no lock that was held, so none bars the open from what it has locked.
use Rattle.std.proofs.Common.{◌≡◌, ◌≢◌, ◌⊎◌, inl, inr, ℕ, zero, suc, ◌<◌, Bool, true, false, List, [], ◌∷◌, ◌++◌, length, get_or, None, Contains, refl, ap, ◌∙◌, arith}
use Rattle.std.proofs.lemmas.Bool.{or_from}
use Rattle.std.proofs.lemmas.List.Elements.{Contains-append_left}
use Rattle.std.proofs.lemmas.List.Folds.{list_any-append, list_any_at, Any-from_list_any}
use Rattle.std.specs.List.{AllByRecursion, list_any}
use Rattle.smb_locks.specs.declared.ask.LockAsk.{LockAsk}
use Rattle.smb_locks.specs.declared.lock.Lock.{Lock}
use Rattle.smb_locks.specs.Asks.{locks_asked}
use Rattle.smb_locks.specs.Conflicts.{conflicts, is_read_barred, is_write_barred}
use Rattle.smb_locks.specs.Parts.{bars_read, bars_write, lock_fault}
use Rattle.smb_locks.specs.Good.{GoodLockTable}
use Rattle.smb_locks.specs.Locking.{locks_fault, lock_all_fault}
use Rattle.smb_locks.specs.Ranges.{Overlap}
use Rattle.smb_locks.specs.Table.{Table, locks_on, locked}
use Rattle.smb_locks.proofs.Ends.{test_from_conflict, bar_from_read_test, bar_from_write_test}
use Rattle.smb_locks.proofs.Parts.{granted, both_none, locks_granted}
use Rattle.smb_locks.proofs.Tables.{on_with, at_member}

-- a test that no element passes, and one that an element does not
none_passes : (p : Lock → Bool) (xs : List Lock) → ((x : Lock) → Contains xs x → p x ≡ true → ⊥) → list_any p xs ≡ false
none_passes p xs none = by (list_any p xs) refl
  where
    by : (b : Bool) → list_any p xs ≡ b → list_any p xs ≡ false
    by true t = let w = Any-from_list_any p xs t in absurd (none w.1 (w.0, w.2, w.3) w.4)
    by false t = t

not_passed : (p : Lock → Bool) (xs : List Lock) (x : Lock) → list_any p xs ≡ false → Contains xs x → p x ≡ true → ⊥
not_passed p xs x none c t =
    let here : p (get_or xs c.0 x) ≡ true = ap p c.2 ∙ t in
    let some = list_any_at p xs c.0 x c.1 here in
    absurd (cc)

first_or_later : (x : Lock) (xs : List Lock) (q : Lock) → Contains (x ∷ xs) q → (x ≡ q) ⊎ Contains xs q
first_or_later x xs q c = place c.0 c.1 c.2
  where
    place : (k : ℕ) → k < length (x ∷ xs) → get_or (x ∷ xs) k q ≡ q → (x ≡ q) ⊎ Contains xs q
    place zero l e = inl e
    place (suc k) l e = inr (k, omega arith, e)

-- what is granted conflicts with nothing that was held
conflict_at : (most : ℕ) (asked : Lock) (more locks : List Lock) (lock held : Lock) → lock_fault most locks asked ≡ None → Contains locks held → conflicts lock held ≡ true → (asked ≡ lock) ⊎ Contains more lock → (Contains more lock → ⊥) → ⊥
conflict_at most asked more locks lock held first d t (inl e) later =
    let here : conflicts asked held ≡ true = ap (λ (l : Lock). conflicts l held) e ∙ t in
    not_passed (conflicts asked) locks held (granted most locks asked first).free d here
conflict_at most asked more locks lock held first d t (inr m) later = later m

no_conflict : (most : ℕ) (more locks : List Lock) (lock held : Lock) → locks_fault most locks more ≡ None → Contains more lock → Contains locks held → conflicts lock held ≡ true → ⊥
no_conflict most [] locks lock held h c d t = let l = c.1 in absurd (omega arith)
no_conflict most (asked ∷ more) locks lock held h c d t =
    let parts = both_none (lock_fault most locks asked) (locks_fault most (locks ++ asked ∷ []) more) h in
    conflict_at most asked more locks lock held parts.0 d t (first_or_later asked more lock c) (λ m. no_conflict most more (locks ++ asked ∷ []) lock held parts.1 m (Contains-append_left locks (asked ∷ []) held d) t)

all_own : (holder : ℕ) (asks : List LockAsk) → AllByRecursion (λ lock. lock.holder ≡ holder) (locks_asked holder asks)
all_own holder [] = tt
all_own holder (ask ∷ asks) = (refl, all_own holder asks)

pub own : (holder : ℕ) (asks : List LockAsk) (lock : Lock) → Contains (locks_asked holder asks) lock → lock.holder ≡ holder
own holder asks lock c = at_member (λ lock. lock.holder ≡ holder) (locks_asked holder asks) lock (all_own holder asks) c

module _ (most : ℕ) (table : Table) (file holder : ℕ) (asks : List LockAsk) (lock : Lock) (good : GoodLockTable table) (none : lock_all_fault most (locks_on table file) holder asks ≡ None) (asked : Contains (locks_asked holder asks) lock) where
  free : (held : Lock) → Contains (locks_on table file) held → conflicts lock held ≡ true → ⊥
  free held c t = no_conflict most (locks_asked holder asks) (locks_on table file) lock held (locks_granted most (locks_on table file) holder asks none) asked c t

  pub reads_locked : is_read_barred (locks_on (locked table file holder asks) file) holder lock.range ≡ false
  reads_locked =
      let p = bars_read holder lock.range in
      let after = on_with table file (locks_on table file ++ locks_asked holder asks) good in
      let old : list_any p (locks_on table file) ≡ false =
      none_passes p (locks_on table file) (λ held c t. (
      let bar = bar_from_read_test holder lock.range held t in
      free held c (test_from_conflict lock held (bar.0, inr (bar.1, λ e. bar.2 (e ∙ own holder asks lock asked))))
      )) in
      let new : list_any p (locks_asked holder asks) ≡ false =
      none_passes p (locks_asked holder asks) (λ held c t. (let bar = bar_from_read_test holder lock.range held t in bar.2 (own holder asks held c))) in
      ap (list_any p) after ∙ list_any-append p (locks_on table file) (locks_asked holder asks) ∙ or_from (list_any p (locks_on table file)) (list_any p (locks_asked holder asks)) old new

  pub writes_locked : lock.exclusive ≡ true → ((also : Lock) → Contains (locks_asked holder asks) also → also.exclusive ≡ false → Overlap also.range lock.range → ⊥) →
      is_write_barred (locks_on (locked table file holder asks) file) holder lock.range ≡ false
  writes_locked exclusive alone =
      let p = bars_write holder lock.range in
      let after = on_with table file (locks_on table file ++ locks_asked holder asks) good in
      let old : list_any p (locks_on table file) ≡ false =
      none_passes p (locks_on table file) (λ held c t. (
      let bar = bar_from_write_test holder lock.range held t in
      free held c (test_from_conflict lock held (bar.0, inl exclusive))
      )) in
      let new : list_any p (locks_asked holder asks) ≡ false =
      none_passes p (locks_asked holder asks) (λ held c t. (let bar = bar_from_write_test holder lock.range held t in shared_or_other held c bar.0 bar.1)) in
      ap (list_any p) after ∙ list_any-append p (locks_on table file) (locks_asked holder asks) ∙ or_from (list_any p (locks_on table file)) (list_any p (locks_asked holder asks)) old new
    where
      shared_or_other : (held : Lock) → Contains (locks_asked holder asks) held → Overlap held.range lock.range → (held.exclusive ≡ false) ⊎ (held.holder ≢ holder) → ⊥
      shared_or_other held c overlap (inl e) = alone held c e overlap
      shared_or_other held c overlap (inr n) = n (own holder asks held c)
