-- Wrong definitions of a LOCK, each with a law of specs/Locking that refuses it.
-- A law whose name ends in By says of any definition what that of specs/ says of the right one, as the line below it
-- shows; then come the wrong definition, and the proof that the law is false of it.
use Rattle.std.proofs.Common.{◌≡◌, ◌≢◌, ℕ, ◌==◌, ◌&&◌, Bool, true, false, not, filter, if◌then◌else◌, nat_le, ap, lit<}
use Rattle.std.proofs.Common.{List, [], ◌∷◌, ◌++◌, length, Option, None, Some, is_some, Contains, refl, arith}
use Rattle.std.specs.List.{list_any}
use Rattle.std.specs.Option.{option_or, option_map_or}
use Rattle.smb_wire.specs.declared.nt_status.NtStatus.{NtStatus}
use Rattle.smb_wire.specs.declared.nt_status.NtStatus.TheVariants.{Success, FileLockConflict}
use Rattle.smb_tree.specs.Entries.{is_folder_kind}
use Rattle.smb_locks.specs.declared.ask.LockAsk.{LockAsk}
use Rattle.smb_locks.specs.declared.fault.LockFault.{LockFault}
use Rattle.smb_locks.specs.declared.fault.LockFault.TheVariants.{BadFlags, BadRange, Full, NotGranted}
use Rattle.smb_locks.specs.declared.lock.Lock.{Lock}
use Rattle.smb_locks.specs.Asks.{locks_asked}
use Rattle.smb_locks.specs.Parts.{are_locks}
use Rattle.smb_locks.specs.Conflicts.{conflicts}
use Rattle.smb_locks.specs.Good.{GoodLockTable}
use Rattle.smb_locks.specs.Laws.{others_locks}
use Rattle.smb_locks.specs.Locking.{lock_all_fault}
use Rattle.smb_locks.specs.Ranges.{Overlap, overlaps, is_past_the_end}
use Rattle.smb_locks.specs.Table.{Table, locks_on, with_locks}
use Rattle.smb_access.specs.declared.view.View.{View}
use Rattle.smb_access.specs.Opens.{open_of}
use Rattle.smb_entry.specs.Locks.{lock_status_by}
use Rattle.smb_opens.specs.Bytes.{read_status, write_status}
use Rattle.smb_opens.specs.Close.{closed}
use Rattle.smb_opens.specs.Locks.{lock_status, locked_through, unlocked_through}
use Rattle.smb_opens.specs.State.{StoreState}
use Rattle.smb_opens.specs.Views.{open_view}
use Rattle.smb_content_laws.specs.Locking.{ALockAddsWhatIsAsked, LocksOfOthersStay, WhatIsLockedIsReadAndWritten}
use Rattle.smb_content_laws.proofs.ExampleLocks.{shared_by, asks_shared, one_lock, two_opens, one_lock_is_good}

-- after a LOCK a file has the locks that it had, and behind them those that were asked for
abbrev ALockAddsWhatIsAskedBy : (StoreState → ℕ → List LockAsk → StoreState) → Type 0
ALockAddsWhatIsAskedBy lock =
    (state : StoreState) (number : ℕ) (asks : List LockAsk) (view : View) → GoodLockTable state.locks →
    open_view state number ≡ Some view → is_folder_kind view.kind ≡ false →
    let after = (lock state number asks).locks in
    (locks_on after view.entry ≡ locks_on state.locks view.entry ++ locks_asked number asks)
    × ((other : ℕ) → other ≢ view.entry → locks_on after other ≡ locks_on state.locks other)

a_lock_adds_what_is_asked : ALockAddsWhatIsAsked ≡ ALockAddsWhatIsAskedBy locked_through
a_lock_adds_what_is_asked = refl

-- no LOCK, no UNLOCK and no CLOSE touches a lock of another open
abbrev pub LocksOfOthersStayBy :
    (StoreState → ℕ → List LockAsk → StoreState) → (StoreState → ℕ → List LockAsk → StoreState)
    → (StoreState → ℕ → StoreState) → Type 0
LocksOfOthersStayBy lock unlock close =
    (state : StoreState) (number file : ℕ) (asks : List LockAsk) → GoodLockTable state.locks →
    let others : Table → List Lock = λ table. others_locks number (locks_on table file) in
    (others (lock state number asks).locks ≡ others state.locks)
    × (others (unlock state number asks).locks ≡ others state.locks)
    × (others (close state number).locks ≡ others state.locks)
    × (is_some (open_of state.opens number) ≡ true →
    locks_on (close state number).locks file ≡ others state.locks)

locks_of_others_stay : LocksOfOthersStay ≡ LocksOfOthersStayBy locked_through unlocked_through closed
locks_of_others_stay = refl

-- wrong: a LOCK leaves of the locks of the file only those of the open that asks
abbrev locked_without_others : StoreState → ℕ → List LockAsk → StoreState
locked_without_others state number asks = option_map_or
    (λ (view : View). record state {
      locks = with_locks state.locks view.entry
          (filter (λ lock. lock.holder == number) (locks_on state.locks view.entry) ++ locks_asked number asks);
    })
    (open_view state number) state

a_lock_without_others_breaks_it : ALockAddsWhatIsAskedBy locked_without_others → ⊥
a_lock_without_others_breaks_it law =
    let same : 1 ≡ 2 = ap length (law (two_opens one_lock) 2 asks_shared _ one_lock_is_good refl refl).0 in
    omega (arith, same)

a_lock_without_others_touches_them : LocksOfOthersStayBy locked_without_others unlocked_through closed → ⊥
a_lock_without_others_touches_them law =
    let same : 0 ≡ 1 = ap length (law (two_opens one_lock) 2 2 asks_shared one_lock_is_good).0 in omega (arith, same)

-- why a LOCK is refused, by what conflicts: a lock that is asked for with one that is held
abbrev lock_fault_by : (Lock → Lock → Bool) → ℕ → List Lock → Lock → Option LockFault
lock_fault_by rule most locks asked =
    if is_past_the_end asked.range then Some BadRange else
    if nat_le most (length locks) then Some Full else
    if list_any (rule asked) locks then Some NotGranted else None

abbrev locks_fault_by : (Lock → Lock → Bool) → ℕ → List Lock → List Lock → Option LockFault
locks_fault_by rule most locks [] = None
locks_fault_by rule most locks (asked ∷ later) =
    option_or (lock_fault_by rule most locks asked) (locks_fault_by rule most (locks ++ asked ∷ []) later)

abbrev fault_by : (Lock → Lock → Bool) → ℕ → List Lock → ℕ → List LockAsk → Option LockFault
fault_by rule most locks holder asks =
    if not (are_locks asks) then Some BadFlags else locks_fault_by rule most locks (locks_asked holder asks)

-- by the right rule it is that of smb_locks
right_fault : lock_all_fault ≡ fault_by conflicts
right_fault = refl

-- the status of a LOCK, by why it is refused
abbrev lock_status_with : (ℕ → List Lock → ℕ → List LockAsk → Option LockFault) → StoreState → ℕ → List LockAsk → NtStatus
lock_status_with fault state number asks =
    lock_status_by (open_view state number)
    (fault state.tree.limits.locks
    (option_map_or (λ (view : View). locks_on state.locks view.entry) (open_view state number) []) number asks)

-- by the right one it is that of smb_opens
right_status : lock_status ≡ lock_status_with lock_all_fault
right_status = refl

-- after a LOCK that succeeds, the open reads what it has just locked, and writes what it has locked as its own alone
abbrev WhatIsLockedIsReadAndWrittenBy : (StoreState → ℕ → List LockAsk → NtStatus) → Type 0
WhatIsLockedIsReadAndWrittenBy status =
    (state : StoreState) (number most minimum : ℕ) (buffer : List ℕ) (asks : List LockAsk) (lock : Lock) →
    GoodLockTable state.locks → status state number asks ≡ Success → Contains (locks_asked number asks) lock →
    let after = locked_through state number asks in
    (read_status after most number lock.range.offset lock.range.length minimum ≢ FileLockConflict)
    × (lock.exclusive ≡ true → lock.range.length ≡ length buffer →
    ((shared : Lock) → Contains (locks_asked number asks) shared → shared.exclusive ≡ false →
    ¬ Overlap shared.range lock.range) →
    write_status after most number lock.range.offset buffer ≢ FileLockConflict)

what_is_locked_is_read_and_written : WhatIsLockedIsReadAndWritten ≡ WhatIsLockedIsReadAndWrittenBy lock_status
what_is_locked_is_read_and_written = refl

-- wrong: only a lock that is asked for as exclusive conflicts, so a shared one is granted over another open's exclusive
-- one
abbrev conflicts_if_exclusive : Lock → Lock → Bool
conflicts_if_exclusive asked held = overlaps held.range asked.range && asked.exclusive

a_shared_lock_over_an_exclusive_one_breaks_it :
    WhatIsLockedIsReadAndWrittenBy (lock_status_with (fault_by conflicts_if_exclusive)) → ⊥
a_shared_lock_over_an_exclusive_one_breaks_it law =
    (law (two_opens one_lock) 2 65536 0 [] asks_shared (shared_by 2) one_lock_is_good refl (0, lit< tt, refl)).0 refl
