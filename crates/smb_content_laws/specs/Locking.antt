-- What a LOCK adds, what an UNLOCK takes away, that no lock of another open is ever touched, and what touches none.
use Rattle.std.specs.Prelude.{◌≡◌, ◌≢◌, ℕ, Bool, true, false, List, [], ◌∷◌, ◌++◌, length, take, None, Some, is_some, Contains}
use Rattle.std.specs.List.{AllByRecursion}
use Rattle.smb_wire.specs.declared.nt_status.NtStatus.TheVariants.{Success, FileLockConflict}
use Rattle.smb_tree.specs.Entries.{is_folder_kind}
use Rattle.smb_locks.specs.declared.ask.LockAsk.{LockAsk}
use Rattle.smb_locks.specs.declared.fault.UnlockError.{UnlockError}
use Rattle.smb_locks.specs.declared.lock.Lock.{Lock}
use Rattle.smb_locks.specs.declared.range.ByteRange.{ByteRange}
use Rattle.smb_locks.specs.Asks.{locks_asked}
use Rattle.smb_locks.specs.Good.{GoodLockTable}
use Rattle.smb_locks.specs.Ranges.{Overlap}
use Rattle.smb_locks.specs.Table.{Table, locks_on}
use Rattle.smb_locks.specs.Laws.{others_locks}
use Rattle.smb_locks.specs.Unlocking.{unlock_all_error}
use Rattle.smb_access.specs.declared.view.View.{View}
use Rattle.smb_access.specs.Asked.{FileAsked}
use Rattle.smb_access.specs.Opens.{open_of}
use Rattle.smb_entry.specs.declared.ask.BasicAsk.{BasicAsk}
use Rattle.smb_opens.specs.Bytes.{read_status, write_status, written_to}
use Rattle.smb_opens.specs.Close.{closed}
use Rattle.smb_opens.specs.Effect.{created, create_result}
use Rattle.smb_opens.specs.Locks.{lock_status, locked_through, unlocked_through}
use Rattle.smb_opens.specs.Renames.{renamed_through}
use Rattle.smb_opens.specs.SetInfo.{delete_set_through, size_set_through, basic_set_through}
use Rattle.smb_opens.specs.State.{StoreState}
use Rattle.smb_opens.specs.Views.{open_view}

-- after a LOCK that is performed through an open of a file, this has the locks that it had, and behind them those that
-- were asked for, in order; every other file has those that it had ([MS-SMB2] 3.3.5.14.2)
abbrev pub ALockAddsWhatIsAsked : Type 0
ALockAddsWhatIsAsked =
    (state : StoreState) (number : ℕ) (asks : List LockAsk) (view : View) → GoodLockTable state.locks →
    open_view state number ≡ Some view → is_folder_kind view.kind ≡ false →
    let after = (locked_through state number asks).locks in
    (locks_on after view.entry ≡ locks_on state.locks view.entry ++ locks_asked number asks)
    × ((other : ℕ) → other ≢ view.entry → locks_on after other ≡ locks_on state.locks other)

-- locks without the oldest one of an open over a range: what is in front of it and behind it stays, in order
pub record LosesOldest (holder : ℕ) (range : ByteRange) (before after : List Lock) : Type 0 where
  pub front : List Lock
  pub taken : Lock
  pub back : List Lock
  pub was : before ≡ front ++ taken ∷ back
  pub is : after ≡ front ++ back
  pub its : (taken.holder ≡ holder) × (taken.range ≡ range)
  pub oldest : AllByRecursion (λ lock. ¬ ((lock.holder ≡ holder) × (lock.range ≡ range))) front

-- each element of a request takes one lock out, one after the other, and nothing else changes
abbrev pub LosesEach : ℕ → List LockAsk → List Lock → List Lock → Type 0
LosesEach holder [] before after = after ≡ before
LosesEach holder (ask ∷ asks) before after =
    let range : ByteRange = record { offset = ask.offset; length = ask.length } in
    (between : List Lock) × LosesOldest holder range before between × LosesEach holder asks between after

-- after an UNLOCK through an open of a file, for each range that was asked for the oldest lock of the open over that very
-- range is gone, and all other locks are held still, in order; one that is refused at an element has taken what those
-- before it asked for, which is nothing where its flags are wrong ([MS-SMB2] 3.3.5.14.1)
abbrev pub AnUnlockTakesWhatIsAsked : Type 0
AnUnlockTakesWhatIsAsked =
    (state : StoreState) (number : ℕ) (asks : List LockAsk) (view : View) → GoodLockTable state.locks →
    open_view state number ≡ Some view → is_folder_kind view.kind ≡ false →
    let held = locks_on state.locks view.entry in
    let after = (unlocked_through state number asks).locks in
    (unlock_all_error held number asks ≡ None → LosesEach number asks held (locks_on after view.entry))
    × ((error : UnlockError) → unlock_all_error held number asks ≡ Some error →
    LosesEach number (take error.done asks) held (locks_on after view.entry))
    × ((other : ℕ) → other ≢ view.entry → locks_on after other ≡ locks_on state.locks other)

-- no LOCK, no UNLOCK, refused or not, and no CLOSE touches a lock of another open, on any file; and once an open is
-- closed, it holds none
abbrev pub LocksOfOthersStay : Type 0
LocksOfOthersStay =
    (state : StoreState) (number file : ℕ) (asks : List LockAsk) → GoodLockTable state.locks →
    let others : Table → List Lock = λ table. others_locks number (locks_on table file) in
    (others (locked_through state number asks).locks ≡ others state.locks)
    × (others (unlocked_through state number asks).locks ≡ others state.locks)
    × (others (closed state number).locks ≡ others state.locks)
    × (is_some (open_of state.opens number) ≡ true →
    locks_on (closed state number).locks file ≡ others state.locks)

-- after a LOCK that succeeds, no READ of what the open has just locked is refused for a lock; nor is a WRITE of what it
-- has just locked as its own alone, where the same request asks for no shared lock that overlaps it ([MS-SMB2]
-- 3.3.5.12, 3.3.5.13)
abbrev pub WhatIsLockedIsReadAndWritten : Type 0
WhatIsLockedIsReadAndWritten =
    (state : StoreState) (number most minimum : ℕ) (buffer : List ℕ) (asks : List LockAsk) (lock : Lock) →
    GoodLockTable state.locks → lock_status state number asks ≡ Success → Contains (locks_asked number asks) lock →
    let after = locked_through state number asks in
    (read_status after most number lock.range.offset lock.range.length minimum ≢ FileLockConflict)
    × (lock.exclusive ≡ true → lock.range.length ≡ length buffer →
    ((shared : Lock) → Contains (locks_asked number asks) shared → shared.exclusive ≡ false →
    ¬ Overlap shared.range lock.range) →
    write_status after most number lock.range.offset buffer ≢ FileLockConflict)

-- a CREATE leaves every lock, and every open but the one that it makes ([MS-SMB2] 3.3.5.9); a WRITE (3.3.5.13), and a
-- SET_INFO of a mark, of a size, of times or of a name (3.3.5.21.1), every lock and every open; and a LOCK and an UNLOCK
-- every entry and every open
abbrev pub RequestsLeaveLocksAndOpens : Type 0
RequestsLeaveLocksAndOpens =
    (state : StoreState) (number offset size moment : ℕ) (buffer name : List ℕ) (is_deleted is_allocation : Bool)
    (ask : FileAsked) (times : BasicAsk) (asks : List LockAsk) →
    let made = created state ask moment in
    (made.locks ≡ state.locks)
    × ((other : ℕ) → other ≢ (create_result state ask moment).number →
    open_of made.opens other ≡ open_of state.opens other)
    × AllByRecursion (λ (after : StoreState). (after.locks ≡ state.locks) × (after.opens ≡ state.opens))
    (written_to state number offset buffer moment ∷ delete_set_through state number is_deleted
    ∷ size_set_through state number size is_allocation moment ∷ basic_set_through state number times moment
    ∷ renamed_through state number name moment ∷ [])
    × AllByRecursion (λ (after : StoreState). (after.tree ≡ state.tree) × (after.opens ≡ state.opens))
    (locked_through state number asks ∷ unlocked_through state number asks ∷ [])
