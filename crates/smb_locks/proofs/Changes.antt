-- What the calls of a table do to its entries.
use Rattle.std.proofs.Common.{◌≡◌, ℕ, ◌<◌, ◌==◌, Bool, true, false, List, [], ◌∷◌, ◌++◌, length, nat_lt, Option, None, Some, Result, Ok, Err, OnOk, OnErr, unwrap_or, refl, sym, ap, ◌∙◌, arith, length-append}
use Rattle.std.proofs.lemmas.Bool.{eqb-true, eqb-false, ltb-true, ltb-false}
use Rattle.std.proofs.lemmas.List.{nil_from_length}
use Rattle.std.proofs.lemmas.Map.Steps.{set_value_same}
use Rattle.std.specs.Map.{lookup, set_value, remove_entry}
use Rattle.std.specs.BTreeMap.{is_at, insert_entry}
use Rattle.std.specs.Ordering.{nat_cmp}
use Rattle.smb_locks.specs.declared.ask.LockAsk.{LockAsk}
use Rattle.smb_locks.specs.declared.fault.LockFault.{LockFault}
use Rattle.smb_locks.specs.declared.lock.Lock.{Lock}
use Rattle.smb_locks.specs.Asks.{locks_asked}
use Rattle.smb_locks.specs.Parts.{are_unlocks, range_asked, are_locks, left_by}
use Rattle.smb_locks.specs.Laws.{others_locks}
use Rattle.smb_locks.specs.Good.{GoodLockTable}
use Rattle.smb_locks.specs.Locking.{locks_fault, lock_all_fault}
use Rattle.smb_locks.specs.Ranges.{is_past_the_end}
use Rattle.smb_locks.specs.Table.{Table, HoldsNoneElsewhere, locks_on, with_locks, locked, unlocked, without_holder}
use Rattle.smb_locks.proofs.Entries.{removed-none, set-inserted, removed-set, found-all}
use Rattle.smb_locks.proofs.Same.{dropped_on}
use Rattle.smb_locks.proofs.Tables.{good_locked}
use Rattle.smb_locks.proofs.Unlocked.{table_is}

-- the locks of a file, by what is found
pub found_on : (table : Table) (file : ℕ) (locks : List Lock) → lookup (is_at (nat_cmp file)) table ≡ Some locks → locks_on table file ≡ locks
found_on table file locks h = ap (λ (o : Option (List Lock)). unwrap_or o []) h

pub none_on : (table : Table) (file : ℕ) → lookup (is_at (nat_cmp file)) table ≡ None → locks_on table file ≡ []
none_on table file h = ap (λ (o : Option (List Lock)). unwrap_or o []) h

-- a write of some locks
with_set : (table : Table) (file : ℕ) (old new : List Lock) → GoodLockTable table → lookup (is_at (nat_cmp file)) table ≡ Some old → 0 < length new → set_value (is_at (nat_cmp file)) table new ≡ with_locks table file new
with_set table file old [] good found some = absurd (omega arith)
with_set table file old (lock ∷ new) good found some = set-inserted file (lock ∷ new) table old good.rising found

with_first : (table : Table) (file : ℕ) (new : List Lock) → 0 < length new → insert_entry nat_cmp table file new ≡ with_locks table file new
with_first table file [] some = absurd (omega arith)
with_first table file (lock ∷ new) some = refl

-- locking, where the file has locks
pub locked_found : (table : Table) (file holder : ℕ) (asks : List LockAsk) (old new : List Lock) → GoodLockTable table → lookup (is_at (nat_cmp file)) table ≡ Some old → new ≡ old ++ locks_asked holder asks →
    set_value (is_at (nat_cmp file)) table new ≡ locked table file holder asks
locked_found table file holder asks old new good found e =
    let some = found-all (λ ls. 0 < length ls) file old table good.listed found in
    let longer = ap length e ∙ length-append old (locks_asked holder asks) in
    with_set table file old new good found (omega (arith, longer, some))
    ∙ ap (with_locks table file) (e ∙ ap (λ (ls : List Lock). ls ++ locks_asked holder asks) (sym (found_on table file old found)))

-- and where it has none
pub locked_first : (table : Table) (file holder : ℕ) (asks : List LockAsk) (new : List Lock) → lookup (is_at (nat_cmp file)) table ≡ None → new ≡ locks_asked holder asks → (length new == 0) ≡ false →
    insert_entry nat_cmp table file new ≡ locked table file holder asks
locked_first table file holder asks new found e some =
    let apart = eqb-false (length new) 0 some in
    with_first table file new (omega arith)
    ∙ ap (with_locks table file) (e ∙ ap (λ (ls : List Lock). ls ++ locks_asked holder asks) (sym (none_on table file found)))

pub locked_nothing : (table : Table) (file holder : ℕ) (asks : List LockAsk) (new : List Lock) → lookup (is_at (nat_cmp file)) table ≡ None → new ≡ locks_asked holder asks → (length new == 0) ≡ true → table ≡ locked table file holder asks
locked_nothing table file holder asks new found e none =
    let nothing = nil_from_length new (eqb-true (length new) 0 none) in
    let all : locks_on table file ++ locks_asked holder asks ≡ [] = ap (λ (ls : List Lock). ls ++ locks_asked holder asks) (none_on table file found) ∙ sym e ∙ nothing in
    sym (ap (with_locks table file) all ∙ removed-none file table found)

-- why a request that locks is refused, by the locks that are found
pub lock_refusal : (most : ℕ) (table : Table) (file holder : ℕ) (asks : List LockAsk) (old : List Lock) (o : Option LockFault) → are_locks asks ≡ true → locks_on table file ≡ old → locks_fault most old (locks_asked holder asks) ≡ o → lock_all_fault most (locks_on table file) holder asks ≡ o
lock_refusal most table file holder asks old o flags e h = rw (flags, e) h

-- a request that locks, granted or not
pub written_back : (table : Table) (file : ℕ) (old new : List Lock) → lookup (is_at (nat_cmp file)) table ≡ Some old → new ≡ old → set_value (is_at (nat_cmp file)) table new ≡ table
written_back table file old new found e = ap (set_value (is_at (nat_cmp file)) table) e ∙ set_value_same (is_at (nat_cmp file)) table old found

pub good_tried : {T E : Type 0} (most : ℕ) (r : Result T E) (table : Table) (file holder : ℕ) (asks : List LockAsk) (old new : List Lock) → GoodLockTable table → are_locks asks ≡ true → lookup (is_at (nat_cmp file)) table ≡ Some old →
    OnOk r (new ≡ old ++ locks_asked holder asks) → OnOk r (locks_fault most old (locks_asked holder asks) ≡ None) → OnErr r (new ≡ old) → GoodLockTable (set_value (is_at (nat_cmp file)) table new)
good_tried most (Ok x) table file holder asks old new good flags found ok lawful err =
    rw (locked_found table file holder asks old new good found ok) (good_locked most table file holder asks good (lock_refusal most table file holder asks old None flags (found_on table file old found) lawful))
good_tried most (Err x) table file holder asks old new good flags found ok lawful err = rw (written_back table file old new found err) good

-- unlocking
nothing_left_at : (holder : ℕ) (ask : LockAsk) (asks : List LockAsk) (b : Bool) → is_past_the_end (range_asked ask) ≡ b → left_by holder [] (ask ∷ asks) ≡ []
nothing_left_at holder ask asks true h = rw h refl
nothing_left_at holder ask asks false h = rw h refl

nothing_left : (holder : ℕ) (asks : List LockAsk) → left_by holder [] asks ≡ []
nothing_left holder [] = refl
nothing_left holder (ask ∷ asks) = nothing_left_at holder ask asks (is_past_the_end (range_asked ask)) refl

by_flags : (table : Table) (file holder : ℕ) (asks : List LockAsk) → are_unlocks asks ≡ true → unlocked table file holder asks ≡ with_locks table file (left_by holder (locks_on table file) asks)
by_flags table file holder asks flags = table_is table file holder asks ∙ rw flags refl

pub unlocked_absent : (table : Table) (file holder : ℕ) (asks : List LockAsk) → are_unlocks asks ≡ true → lookup (is_at (nat_cmp file)) table ≡ None → table ≡ unlocked table file holder asks
unlocked_absent table file holder asks flags found =
    let none : left_by holder (locks_on table file) asks ≡ [] = ap (λ (ls : List Lock). left_by holder ls asks) (none_on table file found) ∙ nothing_left holder asks in
    sym (by_flags table file holder asks flags ∙ ap (with_locks table file) none ∙ removed-none file table found)

left_on : (table : Table) (file holder : ℕ) (asks : List LockAsk) (old new : List Lock) → are_unlocks asks ≡ true → lookup (is_at (nat_cmp file)) table ≡ Some old → new ≡ left_by holder old asks → unlocked table file holder asks ≡ with_locks table file new
left_on table file holder asks old new flags found e =
    by_flags table file holder asks flags ∙ ap (with_locks table file) (ap (λ (ls : List Lock). left_by holder ls asks) (found_on table file old found) ∙ sym e)

pub unlocked_some : (table : Table) (file holder : ℕ) (asks : List LockAsk) (old new : List Lock) → GoodLockTable table → are_unlocks asks ≡ true → lookup (is_at (nat_cmp file)) table ≡ Some old → new ≡ left_by holder old asks → (length new == 0) ≡ false →
    set_value (is_at (nat_cmp file)) table new ≡ unlocked table file holder asks
unlocked_some table file holder asks old new good flags found e some =
    let apart = eqb-false (length new) 0 some in
    with_set table file old new good found (omega arith) ∙ sym (left_on table file holder asks old new flags found e)

pub unlocked_all : (table : Table) (file holder : ℕ) (asks : List LockAsk) (old new : List Lock) → are_unlocks asks ≡ true → lookup (is_at (nat_cmp file)) table ≡ Some old → new ≡ left_by holder old asks → (length new == 0) ≡ true →
    remove_entry (is_at (nat_cmp file)) (set_value (is_at (nat_cmp file)) table new) ≡ unlocked table file holder asks
unlocked_all table file holder asks old new flags found e none =
    removed-set file new table ∙ ap (with_locks table file) (sym (nil_from_length new (eqb-true (length new) 0 none))) ∙ sym (left_on table file holder asks old new flags found e)

-- dropping an open that holds none elsewhere
pub dropped_absent : (table : Table) (file holder : ℕ) → GoodLockTable table → HoldsNoneElsewhere table file holder → lookup (is_at (nat_cmp file)) table ≡ None → table ≡ without_holder holder table
dropped_absent table file holder good alone found =
    sym (ap (λ (ls : List Lock). with_locks table file (others_locks holder ls)) (none_on table file found) ∙ removed-none file table found) ∙ dropped_on table file holder good alone

module _ (table : Table) (file holder : ℕ) (old new : List Lock) (good : GoodLockTable table) (alone : HoldsNoneElsewhere table file holder) (found : lookup (is_at (nat_cmp file)) table ≡ Some old) (e : new ≡ others_locks holder old) where
  others_there : with_locks table file new ≡ without_holder holder table
  others_there = ap (with_locks table file) (e ∙ ap (others_locks holder) (sym (found_on table file old found))) ∙ dropped_on table file holder good alone

  pub dropped_some : nat_lt 0 (length new) ≡ true → set_value (is_at (nat_cmp file)) table new ≡ without_holder holder table
  dropped_some some = with_set table file old new good found (ltb-true 0 (length new) some) ∙ others_there

  pub dropped_all : nat_lt 0 (length new) ≡ false → remove_entry (is_at (nat_cmp file)) (set_value (is_at (nat_cmp file)) table new) ≡ without_holder holder table
  dropped_all none =
      let l = ltb-false 0 (length new) none in
      removed-set file new table ∙ ap (with_locks table file) (sym (nil_from_length new (omega arith))) ∙ others_there
