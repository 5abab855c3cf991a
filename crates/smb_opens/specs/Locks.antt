-- LOCK of a file through an open of a store ([MS-SMB2] 3.3.5.14).
use Rattle.std.specs.Prelude.{ℕ, List, [], Option, if◌then◌else◌, ◌++◌, ◌==◌}
use Rattle.std.specs.Option.{option_map, option_map_or}
use Rattle.std.specs.List.{list_all}
use Rattle.smb_wire.specs.declared.nt_status.NtStatus.{NtStatus}
use Rattle.smb_tree.specs.Entries.{is_folder_kind}
use Rattle.smb_locks.specs.declared.ask.LockAsk.{LockAsk}
use Rattle.smb_locks.specs.Locking.{lock_all_fault}
use Rattle.smb_locks.specs.Table.{locks_on, with_locks}
use Rattle.smb_locks.specs.Unlocking.{unlock_all_error, all_unlocked}
use Rattle.smb_access.specs.declared.view.View.{View}
use Rattle.smb_opens.specs.State.{StoreState}
use Rattle.smb_opens.specs.Views.{open_view}
use Rattle.smb_refusals.specs.declared.file.LockRefusal.{LockRefusal}
use Rattle.smb_entry.specs.Locks.{lock_refusal_by, lock_status_by}
use Rattle.smb_locks.specs.Asks.{locks_asked}
use Rattle.smb_wire.specs.LockFlags.{UNLOCK}

-- why a LOCK that locks is refused, through the open of a number, if it is: by the first of its elements that is
-- refused beside those before it, and by their flags before all (3.3.5.14.2)
abbrev pub lock_refusal : StoreState → ℕ → List LockAsk → Option LockRefusal
lock_refusal state number asks =
    lock_refusal_by (open_view state number)
    (lock_all_fault state.tree.limits.locks
    (option_map_or (λ (view : View). locks_on state.locks view.entry) (open_view state number) []) number asks)

-- its status
abbrev pub lock_status : StoreState → ℕ → List LockAsk → NtStatus
lock_status state number asks =
    lock_status_by (open_view state number)
    (lock_all_fault state.tree.limits.locks
    (option_map_or (λ (view : View). locks_on state.locks view.entry) (open_view state number) []) number asks)

-- why a LOCK that unlocks is refused, if it is: by its first element that is refused, and by the flags of all of them
-- before (3.3.5.14.1)
abbrev pub unlock_refusal : StoreState → ℕ → List LockAsk → Option LockRefusal
unlock_refusal state number asks =
    lock_refusal_by (open_view state number)
    (option_map (λ error. error.fault)
    (unlock_all_error
    (option_map_or (λ (view : View). locks_on state.locks view.entry) (open_view state number) []) number asks))

-- its status
abbrev pub unlock_status : StoreState → ℕ → List LockAsk → NtStatus
unlock_status state number asks =
    lock_status_by (open_view state number)
    (option_map (λ error. error.fault)
    (unlock_all_error
    (option_map_or (λ (view : View). locks_on state.locks view.entry) (open_view state number) []) number asks))

-- the store after a LOCK that locks and succeeds: its locks, held by the open, are the newest of the file, in order;
-- without such an open, and of a folder, all is as it was
abbrev pub locked_through : StoreState → ℕ → List LockAsk → StoreState
locked_through state number asks = option_map_or
    (λ (view : View). if is_folder_kind view.kind then state else record state {
      locks = with_locks state.locks view.entry (locks_on state.locks view.entry ++ locks_asked number asks);
    })
    (open_view state number) state

-- the store after a LOCK that unlocks, which may be refused at an element: those before it are unlocked; with the flags
-- of a wrong one nothing is done
abbrev pub unlocked_through : StoreState → ℕ → List LockAsk → StoreState
unlocked_through state number asks = option_map_or
    (λ (view : View). if is_folder_kind view.kind then state else record state {
      locks =
          if list_all (λ ask. ask.flags.0 == UNLOCK) asks
          then with_locks state.locks view.entry (all_unlocked 0 number (locks_on state.locks view.entry) asks).0
          else state.locks;
    })
    (open_view state number) state
