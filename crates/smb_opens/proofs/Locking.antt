-- LOCK through an open: what the lock table says of the file that the open shows.
use Rattle.std.proofs.Common.{◌≡◌, ◌≢◌, ◌+◌, ℕ, Bool, true, false, not, List, [], ◌∷◌, Option, None, Some, is_some, if◌then◌else◌, refl, sym, ap, subst, ◌∙◌}
use Rattle.std.specs.Prelude.{Result, Ok, Err, OnOk, OnErr, IfSome, option_and_then}
use Rattle.std.specs.List.{list_any}
use Rattle.smb_refusals.specs.declared.file.LockRefusal.{LockRefusal}
use Rattle.smb_refusals.specs.declared.refused_by.RefusedBy.{RefusedBy}
use Rattle.smb_refusals.specs.Refused.{IsRefusedBy}
use Rattle.smb_tree.specs.Entries.{is_folder_kind}
use Rattle.smb_locks.specs.declared.ask.LockAsk.{LockAsk}
use Rattle.smb_locks.specs.declared.fault.LockFault.{LockFault}
use Rattle.smb_locks.specs.declared.fault.LockFault.TheVariants.{BadFlags, BadRange, Full, NotGranted, NotLocked, NoMemory as NoLockMemory}
use Rattle.smb_locks.specs.declared.fault.UnlockError.{UnlockError}
use Rattle.smb_locks.specs.declared.lock.Lock.{Lock}
use Rattle.smb_locks.specs.Parts.{are_unlocks, range_asked, is_lock_over, without_oldest, unlock_error_at, unlock_error_from}
use Rattle.smb_locks.specs.Locking.{lock_all_fault}
use Rattle.smb_locks.specs.Ranges.{is_past_the_end}
use Rattle.smb_locks.specs.Table.{Table, locks_on, locked}
use Rattle.smb_locks.specs.Unlocking.{unlock_all_error}
use Rattle.smb_locks.proofs.Unlocked.{error_is}
use Rattle.smb_access.specs.declared.view.View.{View}
use Rattle.smb_opens.specs.Good.{IsKept}
use Rattle.smb_entry.specs.Locks.{lock_refusal_of}
use Rattle.smb_opens.specs.Locks.{lock_refusal}
use Rattle.smb_opens.specs.State.{StoreState}
use Rattle.smb_opens.specs.Views.{open_view}
use Rattle.smb_opens.proofs.Held.{kept_locked}
use Rattle.smb_opens.proofs.Shows.{ShownBy, entry_of}

-- a store is kept good over a LOCK that locks, whether it is refused or not
pub kept_lock : {X : Type 0} (r : Result X LockFault) (state : StoreState) (number : ℕ) (view : View) (asks : List LockAsk) (after : Table) (opens_count entries_count : ℕ) → ShownBy state number view →
    OnOk r (after ≡ locked state.locks view.entry number asks) → OnOk r (lock_all_fault state.tree.limits.locks (locks_on state.locks view.entry) number asks ≡ None) → OnErr r (after ≡ state.locks) →
    IsKept state.tree state.opens state.locks state.next opens_count entries_count → IsKept state.tree state.opens after state.next opens_count entries_count
kept_lock (Ok x) state number view asks after opens_count entries_count s ok lawful err kept =
    let entry = entry_of state number view s in
    let is : after ≡ locked state.locks s.held.entry number asks = ok ∙ ap (λ (n : ℕ). locked state.locks n number asks) entry in
    let free : lock_all_fault state.tree.limits.locks (locks_on state.locks s.held.entry) number asks ≡ None = ap (λ (n : ℕ). lock_all_fault state.tree.limits.locks (locks_on state.locks n) number asks) (sym entry) ∙ lawful in
    subst (λ (locks : Table). IsKept state.tree state.opens locks state.next opens_count entries_count) (sym is) (kept_locked state number s.held asks opens_count entries_count kept s.opened free)
kept_lock (Err e) state number view asks after opens_count entries_count s ok lawful err kept =
    subst (λ (locks : Table). IsKept state.tree state.opens locks state.next opens_count entries_count) (sym err) kept

refusal_told : (told : Option LockFault) (fault : LockFault) → (fault ≢ NoLockMemory → told ≡ Some fault) → (fault ≡ NoLockMemory → told ≡ None) → option_and_then lock_refusal_of told ≡ lock_refusal_of fault
refusal_told told NoLockMemory why memory = rw (memory refl) refl
refusal_told told BadFlags why memory = rw (why (λ e. cc)) refl
refusal_told told BadRange why memory = rw (why (λ e. cc)) refl
refusal_told told Full why memory = rw (why (λ e. cc)) refl
refusal_told told NotGranted why memory = rw (why (λ e. cc)) refl
refusal_told told NotLocked why memory = rw (why (λ e. cc)) refl

-- a LOCK that locks is refused as the lock table refuses it
pub why_lock : (state : StoreState) (number : ℕ) (view : View) (asks : List LockAsk) (fault : LockFault) (refused : RefusedBy LockRefusal) → open_view state number ≡ Some view → is_folder_kind view.kind ≡ false →
    (fault ≢ NoLockMemory → lock_all_fault state.tree.limits.locks (locks_on state.locks view.entry) number asks ≡ Some fault) →
    (fault ≡ NoLockMemory → lock_all_fault state.tree.limits.locks (locks_on state.locks view.entry) number asks ≡ None) →
    IsRefusedBy (lock_refusal_of fault) refused → IsRefusedBy (lock_refusal state number asks) refused
why_lock state number view asks fault refused v file why memory h =
    let told = refusal_told (lock_all_fault state.tree.limits.locks (locks_on state.locks view.entry) number asks) fault why memory in
    let named : lock_refusal state number asks ≡ lock_refusal_of fault = rw (v, file, told) refl in
    subst (λ (refusal : Option LockRefusal). IsRefusedBy refusal refused) (sym named) h

-- a LOCK that unlocks is refused by a row, since no memory is needed
abbrev HasRow : Option UnlockError → Type 0
HasRow refusal = IfSome refusal (λ error. is_some (lock_refusal_of error.fault) ≡ true)

row_of_one : (done : ℕ) (later : Option UnlockError) (past held : Bool) → HasRow later →
    HasRow (unlock_error_at done (let fault : Option LockFault = if past then Some BadRange else if held then None else Some NotLocked in fault) later)
row_of_one done later true held h = refl
row_of_one done later false true h = h
row_of_one done later false false h = refl

row_from : (done holder : ℕ) (locks : List Lock) (asks : List LockAsk) → HasRow (unlock_error_from done holder locks asks)
row_from done holder locks [] = tt
row_from done holder locks (ask ∷ asks) =
    let test = is_lock_over holder (range_asked ask) in
    row_of_one done _ (is_past_the_end (range_asked ask)) (list_any test locks) (row_from (done + 1) holder (without_oldest test locks) asks)

row_of_all : (holder : ℕ) (locks : List Lock) (asks : List LockAsk) (lawful : Bool) →
    HasRow (let error : Option UnlockError = if not lawful then Some (record { done = 0; fault = BadFlags }) else unlock_error_from 0 holder locks asks in error)
row_of_all holder locks asks true = row_from 0 holder locks asks
row_of_all holder locks asks false = refl

pub has_row : (locks : List Lock) (holder : ℕ) (asks : List LockAsk) (error : UnlockError) → unlock_all_error locks holder asks ≡ Some error → is_some (lock_refusal_of error.fault) ≡ true
has_row locks holder asks error e = subst HasRow (sym (error_is locks holder asks) ∙ e) (row_of_all holder locks asks (are_unlocks asks))
