-- Locks, and the opens that hold them.
use Rattle.std.proofs.Common.{◌≡◌, ◌≢◌, ◌⊎◌, inl, inr, ◌==◌, ℕ, List, [], ◌∷◌, ◌++◌, Bool, true, false, cond, Option, None, Some, Contains, refl, sym, ap, subst, arith, ◌∙◌}
use Rattle.std.proofs.lemmas.Bool.{eqb-true, eqb-false, ne_eqb}
use Rattle.std.proofs.lemmas.Bool.Decides.{nat_tests}
use Rattle.std.proofs.lemmas.List.Elements.{All-contains_itself, recursion_from_All}
use Rattle.std.specs.List.{AllByRecursion}
use Rattle.std.specs.Option.{option_map}
use Rattle.smb_locks.specs.declared.ask.LockAsk.{LockAsk}
use Rattle.smb_locks.specs.declared.lock.Lock.{Lock}
use Rattle.smb_locks.specs.Good.{GoodLockTable, FewLocks}
use Rattle.smb_locks.specs.Locking.{lock_all_fault}
use Rattle.smb_locks.specs.Table.{Table, HoldsNoneElsewhere, locks_on, locked, unlocked, without_holder}
use Rattle.smb_locks.specs.Laws.{others_locks}
use Rattle.smb_locks.proofs.Members.{member_locked, member_unlocked, member_dropped, others_kept}
use Rattle.smb_locks.proofs.Tables.{good_locked, good_unlocked, few_locked, few_unlocked}
use Rattle.smb_access.specs.declared.open_row.OpenRow.{OpenRow}
use Rattle.smb_opens.specs.Good.{GoodStore, IsKept}
use Rattle.smb_opens.specs.Parts.{AreLocksHeld}
use Rattle.smb_access.specs.Opens.{open_of, without_open}
use Rattle.smb_opens.specs.State.{StoreState}
use Rattle.smb_access.proofs.Rows.{all_more}

-- the file of an open
abbrev pub file_of : List OpenRow → ℕ → Option ℕ
file_of rows number = option_map (λ (row : OpenRow). row.entry) (open_of rows number)

-- it stays where an open is added behind, and where another is taken out
still_pushed : (rows : List OpenRow) (row : OpenRow) (n file : ℕ) → file_of rows n ≡ Some file → file_of (rows ++ row ∷ []) n ≡ Some file
still_pushed [] row n file e = cc
still_pushed (x ∷ rows) row n file e =
    elim (x.number == n) as (λ b. option_map (λ (r : OpenRow). r.entry) (cond b (Some x) (open_of rows n)) ≡ Some file → option_map (λ (r : OpenRow). r.entry) (cond b (Some x) (open_of (rows ++ row ∷ []) n)) ≡ Some file) [
      | true ↦ λ q. q
      | false ↦ λ q. still_pushed rows row n file q
    ] e

still_without : (rows : List OpenRow) (n m : ℕ) → m ≢ n → open_of (without_open n rows) m ≡ open_of rows m
still_without [] n m apart = refl
still_without (x ∷ rows) n m apart =
    let other = ne_eqb m n apart in
    grind (arith, nat_tests, other, still_without rows n m apart)

pub held_pushed : (locks : Table) (rows : List OpenRow) (row : OpenRow) → AreLocksHeld locks rows → AreLocksHeld locks (rows ++ row ∷ [])
held_pushed locks rows row h file lock c = still_pushed rows row lock.holder file (h file lock c)

pub held_dropped : (locks : Table) (rows : List OpenRow) (n : ℕ) → GoodLockTable locks → AreLocksHeld locks rows → AreLocksHeld (without_holder n locks) (without_open n rows)
held_dropped locks rows n good h file lock c =
    let was = member_dropped locks n file lock good c in
    ap (option_map (λ (row : OpenRow). row.entry)) (still_without rows n lock.holder was.1) ∙ h file lock was.0

-- an open holds locks on its own file alone
others_same : (holder : ℕ) (locks : List Lock) → AllByRecursion (λ lock. lock.holder ≢ holder) locks → others_locks holder locks ≡ locks
others_same holder [] h = refl
others_same holder (lock ∷ locks) h =
    let other = ne_eqb lock.holder holder h.0 in
    grind (arith, nat_tests, other, others_same holder locks h.1)

elsewhere : (rows : List OpenRow) (holder : ℕ) (row : OpenRow) (other : ℕ) (lock : Lock) → open_of rows holder ≡ Some row → other ≢ row.entry → file_of rows lock.holder ≡ Some other → lock.holder ≢ holder
elsewhere rows holder row other lock opened apart file same =
    let here : file_of rows lock.holder ≡ Some row.entry = ap (file_of rows) same ∙ ap (option_map (λ (r : OpenRow). r.entry)) opened in
    let one : other ≡ row.entry = cc in
    apart one

pub none_elsewhere : (locks : Table) (rows : List OpenRow) (holder : ℕ) (row : OpenRow) → AreLocksHeld locks rows → open_of rows holder ≡ Some row → HoldsNoneElsewhere locks row.entry holder
none_elsewhere locks rows holder row h opened other apart =
    others_same holder (locks_on locks other)
    (all_more (Contains (locks_on locks other)) (λ lock. lock.holder ≢ holder) (locks_on locks other) (λ lock c. elsewhere rows holder row other lock opened apart (h other lock c))
    (recursion_from_All (Contains (locks_on locks other)) (locks_on locks other) (All-contains_itself (locks_on locks other))))

-- what a LOCK adds is held by the open that asks, and what it leaves was held
locked_at : (locks : Table) (rows : List OpenRow) (holder : ℕ) (row : OpenRow) (asks : List LockAsk) (file : ℕ) (lock : Lock) (b : Bool) → (file == row.entry) ≡ b → GoodLockTable locks → AreLocksHeld locks rows → open_of rows holder ≡ Some row →
    Contains (locks_on (locked locks row.entry holder asks) file) lock → file_of rows lock.holder ≡ Some file
locked_at locks rows holder row asks file lock true t good h opened c =
    let at : file ≡ row.entry = eqb-true file row.entry t in
    let here : Contains (locks_on (locked locks row.entry holder asks) row.entry) lock = subst (λ (n : ℕ). Contains (locks_on (locked locks row.entry holder asks) n) lock) at c in
    own (member_locked locks row.entry holder asks lock good here) ∙ ap (λ (n : ℕ). Some n) (sym at)
  where
    own : Contains (locks_on locks row.entry) lock ⊎ (lock.holder ≡ holder) → file_of rows lock.holder ≡ Some row.entry
    own (inl was) = h row.entry lock was
    own (inr mine) = ap (file_of rows) mine ∙ ap (option_map (λ (r : OpenRow). r.entry)) opened
locked_at locks rows holder row asks file lock false t good h opened c =
    let apart = eqb-false file row.entry t in
    let same = others_kept locks row.entry file holder asks apart in
    h file lock (subst (λ (on : List Lock). Contains on lock) same.0 c)

pub held_locked : (locks : Table) (rows : List OpenRow) (holder : ℕ) (row : OpenRow) (asks : List LockAsk) → GoodLockTable locks → AreLocksHeld locks rows → open_of rows holder ≡ Some row → AreLocksHeld (locked locks row.entry holder asks) rows
held_locked locks rows holder row asks good h opened file lock c = locked_at locks rows holder row asks file lock (file == row.entry) refl good h opened c

pub held_unlocked : (locks : Table) (rows : List OpenRow) (holder file : ℕ) (asks : List LockAsk) → GoodLockTable locks → AreLocksHeld locks rows → AreLocksHeld (unlocked locks file holder asks) rows
held_unlocked locks rows holder file asks good h other lock c = h other lock (member_unlocked locks file other holder asks lock good c)

-- a good store with other locks
good_with : (state : StoreState) (locks : Table) → GoodStore state → GoodLockTable locks → FewLocks state.tree.limits.locks locks → AreLocksHeld locks state.opens → GoodStore (record state { locks = locks })
good_with state locks good table few held = record {
  tree = good.tree;
  lawful = good.lawful;
  present = good.present;
  rising = good.rising;
  below = good.below;
  few = good.few;
  masked = good.masked;
  compatible = good.compatible;
  marked = good.marked;
  locked = table;
  few_locks = few;
  held = held;
}

kept_with : (state : StoreState) (locks : Table) (opens_count entries_count : ℕ) → IsKept state.tree state.opens state.locks state.next opens_count entries_count → GoodLockTable locks → FewLocks state.tree.limits.locks locks → AreLocksHeld locks state.opens →
    IsKept state.tree state.opens locks state.next opens_count entries_count
kept_with state locks opens_count entries_count kept table few held = record {
  good = good_with state locks kept.good table few held;
  opens_counted = kept.opens_counted;
  entries_counted = kept.entries_counted;
}

pub kept_locked : (state : StoreState) (number : ℕ) (row : OpenRow) (asks : List LockAsk) (opens_count entries_count : ℕ) → IsKept state.tree state.opens state.locks state.next opens_count entries_count →
    open_of state.opens number ≡ Some row → lock_all_fault state.tree.limits.locks (locks_on state.locks row.entry) number asks ≡ None → IsKept state.tree state.opens (locked state.locks row.entry number asks) state.next opens_count entries_count
kept_locked state number row asks opens_count entries_count kept opened lawful =
    kept_with state (locked state.locks row.entry number asks) opens_count entries_count kept (good_locked state.tree.limits.locks state.locks row.entry number asks kept.good.locked lawful) (few_locked state.tree.limits.locks state.locks row.entry number asks kept.good.few_locks lawful)
    (held_locked state.locks state.opens number row asks kept.good.locked kept.good.held opened)

pub kept_unlocked : (state : StoreState) (number file : ℕ) (asks : List LockAsk) (opens_count entries_count : ℕ) → IsKept state.tree state.opens state.locks state.next opens_count entries_count →
    IsKept state.tree state.opens (unlocked state.locks file number asks) state.next opens_count entries_count
kept_unlocked state number file asks opens_count entries_count kept =
    kept_with state (unlocked state.locks file number asks) opens_count entries_count kept (good_unlocked state.locks file number asks kept.good.locked) (few_unlocked state.tree.limits.locks state.locks file number asks kept.good.few_locks)
    (held_unlocked state.locks state.opens number file asks kept.good.locked kept.good.held)
