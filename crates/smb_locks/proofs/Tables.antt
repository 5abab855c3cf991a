-- Tables stay good, and what is found in them.
use Rattle.std.proofs.Common.{◌≡◌, ◌≢◌, ◌⊎◌, inl, inr, ℕ, zero, suc, ◌<◌, ◌≤◌, Bool, true, false, List, [], ◌∷◌, ◌++◌, length, map, get_or, nat_lt, Option, None, Some, unwrap_or, Contains, refl, sym, ap, ◌∙◌, subst, arith}
use Rattle.std.proofs.lemmas.Bool.{eqb-true, ne_eqb, ltb-true, ltb-false}
use Rattle.std.proofs.lemmas.List.{nil_from_length}
use Rattle.std.proofs.lemmas.List.Elements.{All-from_recursion, All-contains}
use Rattle.std.specs.List.{AllByRecursion}
use Rattle.std.specs.Map.{lookup}
use Rattle.std.specs.BTreeMap.{is_at}
use Rattle.std.specs.Ordering.{nat_cmp}
use Rattle.smb_locks.specs.declared.ask.LockAsk.{LockAsk}
use Rattle.smb_locks.specs.declared.lock.Lock.{Lock}
use Rattle.smb_locks.specs.Asks.{locks_asked}
use Rattle.smb_locks.specs.Parts.{are_unlocks, AreCompatible, AreAllCompatible, IsAscending, left_by}
use Rattle.smb_locks.specs.Good.{GoodLocks, GoodLockTable, FewLocks}
use Rattle.smb_locks.specs.Laws.{others_locks}
use Rattle.smb_locks.specs.Locking.{lock_all_fault}
use Rattle.smb_locks.specs.Ranges.{Overlap}
use Rattle.smb_locks.specs.Table.{Table, locks_on, with_locks, locked, unlocked, without_holder}
use Rattle.smb_locks.proofs.Ends.{overlap_from_ends, ends_from_overlap, overlap_turned}
use Rattle.smb_locks.proofs.Entries.{same_number, all-inserted, all-removed, rising-inserted, rising-removed, lookup-above, found-inserted, other-inserted, found-removed, other-removed, found-all}
use Rattle.smb_locks.proofs.Keeping.{good_none, good_more, good_left, good_others, few_more, few_left, few_others}
use Rattle.smb_locks.proofs.Parts.{locks_granted}
use Rattle.smb_locks.proofs.Unlocked.{table_is}

-- nothing is good
pub good_empty : GoodLockTable []
good_empty = record { rising = tt; listed = tt; good = tt }

-- the locks of a file are good
good_found : (table : Table) (file : ℕ) (found : Option (List Lock)) → AllByRecursion (λ entry. GoodLocks entry.1) table → lookup (is_at (nat_cmp file)) table ≡ found → GoodLocks (unwrap_or found [])
good_found table file None good h = good_none
good_found table file (Some locks) good h = found-all GoodLocks file locks table good h

pub good_on : (table : Table) (file : ℕ) → GoodLockTable table → GoodLocks (locks_on table file)
good_on table file good = good_found table file (lookup (is_at (nat_cmp file)) table) good.good refl

-- a file's locks are others
pub good_with : (table : Table) (file : ℕ) (locks : List Lock) → GoodLockTable table → GoodLocks locks → GoodLockTable (with_locks table file locks)
good_with table file [] good own = record {
  rising = rising-removed file table good.rising;
  listed = all-removed (λ locks. 0 < length locks) file table good.listed;
  good = all-removed GoodLocks file table good.good;
}
good_with table file (lock ∷ locks) good own = record {
  rising = rising-inserted file (lock ∷ locks) table good.rising;
  listed = all-inserted (λ locks. 0 < length locks) file (lock ∷ locks) table (omega arith) good.listed;
  good = all-inserted GoodLocks file (lock ∷ locks) table own good.good;
}

pub on_with : (table : Table) (file : ℕ) (locks : List Lock) → GoodLockTable table → locks_on (with_locks table file locks) file ≡ locks
on_with table file [] good = ap (λ (o : Option (List Lock)). unwrap_or o []) (found-removed file table good.rising)
on_with table file (lock ∷ locks) good = ap (λ (o : Option (List Lock)). unwrap_or o []) (found-inserted file (lock ∷ locks) table)

pub on_other : (table : Table) (file other : ℕ) (locks : List Lock) → other ≢ file → locks_on (with_locks table file locks) other ≡ locks_on table other
on_other table file other [] apart = ap (λ (o : Option (List Lock)). unwrap_or o []) (other-removed file other table (ne_eqb other file apart))
on_other table file other (lock ∷ locks) apart = ap (λ (o : Option (List Lock)). unwrap_or o []) (other-inserted file other (lock ∷ locks) table (ne_eqb other file apart))

pub good_locked : (most : ℕ) (table : Table) (file holder : ℕ) (asks : List LockAsk) → GoodLockTable table → lock_all_fault most (locks_on table file) holder asks ≡ None → GoodLockTable (locked table file holder asks)
good_locked most table file holder asks good h =
    good_with table file (locks_on table file ++ locks_asked holder asks) good
    (good_more most (locks_asked holder asks) (locks_on table file) (good_on table file good) (locks_granted most (locks_on table file) holder asks h))

unlocked_at : (table : Table) (file holder : ℕ) (asks : List LockAsk) (b : Bool) → are_unlocks asks ≡ b → GoodLockTable table → GoodLockTable (unlocked table file holder asks)
unlocked_at table file holder asks true t good =
    rw (table_is table file holder asks, t) (good_with table file (left_by holder (locks_on table file) asks) good (good_left holder asks (locks_on table file) (good_on table file good)))
unlocked_at table file holder asks false t good = rw (table_is table file holder asks, t) good

pub good_unlocked : (table : Table) (file holder : ℕ) (asks : List LockAsk) → GoodLockTable table → GoodLockTable (unlocked table file holder asks)
good_unlocked table file holder asks good = unlocked_at table file holder asks (are_unlocks asks) refl good

-- no file has more locks than there may be
few_found : (most : ℕ) (table : Table) (file : ℕ) (found : Option (List Lock)) → FewLocks most table → lookup (is_at (nat_cmp file)) table ≡ found → length (unwrap_or found []) ≤ most
few_found most table file None few h = omega arith
few_found most table file (Some locks) few h = found-all (λ locks. length locks ≤ most) file locks table few h

few_on : (most : ℕ) (table : Table) (file : ℕ) → FewLocks most table → length (locks_on table file) ≤ most
few_on most table file few = few_found most table file (lookup (is_at (nat_cmp file)) table) few refl

few_with : (most : ℕ) (table : Table) (file : ℕ) (locks : List Lock) → FewLocks most table → length locks ≤ most → FewLocks most (with_locks table file locks)
few_with most table file [] few own = all-removed (λ locks. length locks ≤ most) file table few
few_with most table file (lock ∷ locks) few own = all-inserted (λ locks. length locks ≤ most) file (lock ∷ locks) table own few

pub few_locked : (most : ℕ) (table : Table) (file holder : ℕ) (asks : List LockAsk) → FewLocks most table → lock_all_fault most (locks_on table file) holder asks ≡ None → FewLocks most (locked table file holder asks)
few_locked most table file holder asks few h =
    few_with most table file (locks_on table file ++ locks_asked holder asks) few
    (few_more most (locks_asked holder asks) (locks_on table file) (few_on most table file few) (locks_granted most (locks_on table file) holder asks h))

few_unlocked_at : (most : ℕ) (table : Table) (file holder : ℕ) (asks : List LockAsk) (b : Bool) → are_unlocks asks ≡ b → FewLocks most table → FewLocks most (unlocked table file holder asks)
few_unlocked_at most table file holder asks true t few =
    rw (table_is table file holder asks, t) (few_with most table file (left_by holder (locks_on table file) asks) few (omega (arith, few_left holder asks (locks_on table file), few_on most table file few)))
few_unlocked_at most table file holder asks false t few = rw (table_is table file holder asks, t) few

pub few_unlocked : (most : ℕ) (table : Table) (file holder : ℕ) (asks : List LockAsk) → FewLocks most table → FewLocks most (unlocked table file holder asks)
few_unlocked most table file holder asks few = few_unlocked_at most table file holder asks (are_unlocks asks) refl few

-- an open is dropped
module _ (holder : ℕ) where
  above_at : (m : ℕ) (entry : ℕ × List Lock) (table : Table) (b : Bool) → nat_lt 0 (length (others_locks holder entry.1)) ≡ b → m < entry.0 → AllByRecursion (λ k. m < k) (map (λ e. e.0) (without_holder holder table)) →
      AllByRecursion (λ k. m < k) (map (λ e. e.0) (without_holder holder (entry ∷ table)))
  above_at m entry table true t lt ih = rw t (lt, ih)
  above_at m entry table false t lt ih = rw t ih

  above_dropped : (m : ℕ) (table : Table) → AllByRecursion (λ k. m < k) (map (λ e. e.0) table) → AllByRecursion (λ k. m < k) (map (λ e. e.0) (without_holder holder table))
  above_dropped m [] h = tt
  above_dropped m (entry ∷ table) h = above_at m entry table (nat_lt 0 (length (others_locks holder entry.1))) refl h.0 (above_dropped m table h.1)

  rising_at : (entry : ℕ × List Lock) (table : Table) (b : Bool) → nat_lt 0 (length (others_locks holder entry.1)) ≡ b → AllByRecursion (λ k. entry.0 < k) (map (λ e. e.0) (without_holder holder table)) → IsAscending (map (λ e. e.0) (without_holder holder table)) →
      IsAscending (map (λ e. e.0) (without_holder holder (entry ∷ table)))
  rising_at entry table true t above ih = rw t (above, ih)
  rising_at entry table false t above ih = rw t ih

  rising_dropped : (table : Table) → IsAscending (map (λ e. e.0) table) → IsAscending (map (λ e. e.0) (without_holder holder table))
  rising_dropped [] h = tt
  rising_dropped (entry ∷ table) h = rising_at entry table (nat_lt 0 (length (others_locks holder entry.1))) refl (above_dropped entry.0 table h.0) (rising_dropped table h.1)

  all_at : (P : List Lock → Type 0) (entry : ℕ × List Lock) (table : Table) (b : Bool) → nat_lt 0 (length (others_locks holder entry.1)) ≡ b → (0 < length (others_locks holder entry.1) → P (others_locks holder entry.1)) → AllByRecursion (λ e. P e.1) (without_holder holder table) →
      AllByRecursion (λ e. P e.1) (without_holder holder (entry ∷ table))
  all_at P entry table true t step ih = rw t (step (ltb-true 0 (length (others_locks holder entry.1)) t), ih)
  all_at P entry table false t step ih = rw t ih

  listed_dropped : (table : Table) → AllByRecursion (λ e. 0 < length e.1) (without_holder holder table)
  listed_dropped [] = tt
  listed_dropped (entry ∷ table) = all_at (λ locks. 0 < length locks) entry table (nat_lt 0 (length (others_locks holder entry.1))) refl (λ l. l) (listed_dropped table)

  all_dropped : (table : Table) → AllByRecursion (λ e. GoodLocks e.1) table → AllByRecursion (λ e. GoodLocks e.1) (without_holder holder table)
  all_dropped [] h = tt
  all_dropped (entry ∷ table) h = all_at GoodLocks entry table (nat_lt 0 (length (others_locks holder entry.1))) refl (λ l. good_others holder entry.1 h.0) (all_dropped table h.1)

  pub few_dropped : (most : ℕ) (table : Table) → FewLocks most table → FewLocks most (without_holder holder table)
  few_dropped most [] h = tt
  few_dropped most (entry ∷ table) h = all_at (λ locks. length locks ≤ most) entry table (nat_lt 0 (length (others_locks holder entry.1))) refl (λ l. omega (arith, few_others holder entry.1, h.0)) (few_dropped most table h.1)

  pub good_dropped : (table : Table) → GoodLockTable table → GoodLockTable (without_holder holder table)
  good_dropped table good = record {
    rising = rising_dropped table good.rising;
    listed = listed_dropped table;
    good = all_dropped table good.good;
  }

  on_at : (file : ℕ) (entry : ℕ × List Lock) (table : Table) (b c : Bool) → nat_lt 0 (length (others_locks holder entry.1)) ≡ b → is_at (nat_cmp file) entry.0 ≡ c → AllByRecursion (λ k. entry.0 < k) (map (λ e. e.0) table) →
      locks_on (without_holder holder table) file ≡ others_locks holder (locks_on table file) → locks_on (without_holder holder (entry ∷ table)) file ≡ others_locks holder (locks_on (entry ∷ table) file)
  on_at file entry table true true t s above ih = rw (t, s) refl
  on_at file entry table true false t s above ih = rw (t, s) ih
  on_at file entry table false true t s above ih =
      let same = eqb-true file entry.0 (same_number file entry.0 true s) in
      let none = lookup-above file (without_holder holder table) (above_dropped file table (rw (← same) at above)) in
      let no_lock = nil_from_length (others_locks holder entry.1) (let l = ltb-false 0 (length (others_locks holder entry.1)) t in omega arith) in
      rw (t, s, none) (sym no_lock)
  on_at file entry table false false t s above ih = rw (t, s) ih

  pub on_dropped : (file : ℕ) (table : Table) → IsAscending (map (λ e. e.0) table) → locks_on (without_holder holder table) file ≡ others_locks holder (locks_on table file)
  on_dropped file [] h = refl
  on_dropped file (entry ∷ table) h = on_at file entry table (nat_lt 0 (length (others_locks holder entry.1))) (is_at (nat_cmp file) entry.0) refl refl h.0 (on_dropped file table h.1)

-- two locks of a file
member_cases : (x : Lock) (xs : List Lock) (q : Lock) → Contains (x ∷ xs) q → (x ≡ q) ⊎ Contains xs q
member_cases x xs q c = place c.0 c.1 c.2
  where
    place : (k : ℕ) → k < length (x ∷ xs) → get_or (x ∷ xs) k q ≡ q → (x ≡ q) ⊎ Contains xs q
    place zero l e = inl e
    place (suc k) l e = inr (k, omega arith, e)

pub at_member : (P : Lock → Type 0) (xs : List Lock) (q : Lock) → AllByRecursion P xs → Contains xs q → P q
at_member P xs q h c = All-contains P xs q (All-from_recursion P xs h) c

pair_at : (x : Lock) (xs : List Lock) (a b : Lock) → AllByRecursion (AreCompatible x) xs → (Contains xs a → Contains xs b → AreCompatible a b) → (x ≡ a) ⊎ Contains xs a → (x ≡ b) ⊎ Contains xs b → AreCompatible a b
pair_at x xs a b h ih (inl e) (inl f) apart overlap = absurd (apart (ap (λ (lock : Lock). lock.holder) (sym e ∙ f)))
pair_at x xs a b h ih (inl e) (inr cb) apart overlap =
    let P : Lock → Type 0 = λ lock. AreCompatible lock b in
    subst P e (at_member (AreCompatible x) xs b h cb) apart overlap
pair_at x xs a b h ih (inr ca) (inl f) apart overlap =
    let P : Lock → Type 0 = λ lock. AreCompatible lock a in
    let turned = subst P f (at_member (AreCompatible x) xs a h ca) (λ e. apart (sym e)) (ends_from_overlap b.range a.range (overlap_turned a.range b.range (overlap_from_ends a.range b.range overlap))) in
    (turned.1, turned.0)
pair_at x xs a b h ih (inr ca) (inr cb) apart overlap = ih ca cb apart overlap

compatible_members : (locks : List Lock) (a b : Lock) → AreAllCompatible locks → Contains locks a → Contains locks b → AreCompatible a b
compatible_members [] a b h ca cb = let l = ca.1 in absurd (omega arith)
compatible_members (x ∷ xs) a b h ca cb =
    pair_at x xs a b h.0 (λ da db. compatible_members xs a b h.1 da db) (member_cases x xs a ca) (member_cases x xs b cb)

pub compatible_pair : (locks : List Lock) (a b : Lock) → AreAllCompatible locks → Contains locks a → Contains locks b →
    a.holder ≢ b.holder → Overlap a.range b.range → (a.exclusive ≡ false) × (b.exclusive ≡ false)
compatible_pair locks a b h ca cb apart overlap =
    compatible_members locks a b h ca cb apart (ends_from_overlap a.range b.range overlap)
