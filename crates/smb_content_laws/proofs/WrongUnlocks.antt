-- Wrong definitions of an UNLOCK, each with a law of specs/Locking that refuses it.
-- A law whose name ends in By says of any definition what that of specs/ says of the right one, as the line below it
-- shows; then come the wrong definition, and the proof that the law is false of it.
use Rattle.std.proofs.Common.{◌≡◌, ◌≢◌, ℕ, ◌==◌, ◌&&◌, Bool, true, false, not, if◌then◌else◌, ap, sym, subst, refl}
use Rattle.std.proofs.Common.{List, [], ◌∷◌, ◌++◌, length, take, None, Some, is_some, arith}
use Rattle.std.specs.List.{AllByRecursion, list_any}
use Rattle.std.specs.Option.{option_map_or}
use Rattle.smb_tree.specs.Entries.{is_folder_kind}
use Rattle.smb_locks.specs.declared.ask.LockAsk.{LockAsk}
use Rattle.smb_locks.specs.declared.fault.UnlockError.{UnlockError}
use Rattle.smb_locks.specs.declared.lock.Lock.{Lock}
use Rattle.smb_locks.specs.declared.range.ByteRange.{ByteRange}
use Rattle.smb_locks.specs.Parts.{range_asked, are_unlocks, is_lock_over, without_oldest, unlock_fault}
use Rattle.smb_locks.specs.Good.{GoodLockTable}
use Rattle.smb_locks.specs.Table.{locks_on, with_locks}
use Rattle.smb_locks.specs.Unlocking.{unlock_all_error}
use Rattle.smb_access.specs.declared.view.View.{View}
use Rattle.smb_opens.specs.Close.{closed}
use Rattle.smb_opens.specs.Locks.{locked_through, unlocked_through}
use Rattle.smb_opens.specs.State.{StoreState}
use Rattle.smb_opens.specs.Views.{open_view}
use Rattle.smb_content_laws.specs.Locking.{AnUnlockTakesWhatIsAsked, LosesOldest, LosesEach}
use Rattle.smb_content_laws.proofs.ExampleLocks.{first_ten, exclusive_by, shared_by, asks_unlock, one_lock, two_locks}
use Rattle.smb_content_laws.proofs.ExampleLocks.{two_opens, one_lock_is_good, two_locks_are_good}
use Rattle.smb_content_laws.proofs.WrongLocks.{LocksOfOthersStayBy}

-- after an UNLOCK, for each range that was asked for the oldest lock of the open over it is gone
abbrev AnUnlockTakesWhatIsAskedBy : (StoreState → ℕ → List LockAsk → StoreState) → Type 0
AnUnlockTakesWhatIsAskedBy unlock =
    (state : StoreState) (number : ℕ) (asks : List LockAsk) (view : View) → GoodLockTable state.locks →
    open_view state number ≡ Some view → is_folder_kind view.kind ≡ false →
    let held = locks_on state.locks view.entry in
    let after = (unlock state number asks).locks in
    (unlock_all_error held number asks ≡ None → LosesEach number asks held (locks_on after view.entry))
    × ((error : UnlockError) → unlock_all_error held number asks ≡ Some error →
    LosesEach number (take error.done asks) held (locks_on after view.entry))
    × ((other : ℕ) → other ≢ view.entry → locks_on after other ≡ locks_on state.locks other)

an_unlock_takes_what_is_asked : AnUnlockTakesWhatIsAsked ≡ AnUnlockTakesWhatIsAskedBy unlocked_through
an_unlock_takes_what_is_asked = refl

-- an UNLOCK by what it leaves of the locks of the file, where its flags are right
abbrev unlocked_by : (ℕ → List Lock → List LockAsk → List Lock) → StoreState → ℕ → List LockAsk → StoreState
unlocked_by left state number asks = option_map_or
    (λ (view : View). record state {
      locks =
          if are_unlocks asks
          then with_locks state.locks view.entry (left number (locks_on state.locks view.entry) asks) else state.locks;
    })
    (open_view state number) state

-- locks without the newest one that passes
abbrev without_newest : (Lock → Bool) → List Lock → List Lock
without_newest test [] = []
without_newest test (lock ∷ locks) =
    if not (list_any test locks) && test lock then locks else lock ∷ without_newest test locks

-- what is left where each element takes out the newest lock of the open over its range
abbrev left_by_newest : ℕ → List Lock → List LockAsk → List Lock
left_by_newest holder locks [] = locks
left_by_newest holder locks (ask ∷ asks) =
    if is_some (unlock_fault holder locks (range_asked ask)) then locks
    else left_by_newest holder (without_newest (is_lock_over holder (range_asked ask)) locks) asks

-- of the two locks the exclusive one is the older, so it is not what is left
the_older_is_not_left : LosesOldest 1 first_ten (exclusive_by 1 ∷ shared_by 1 ∷ []) (exclusive_by 1 ∷ []) → ⊥
the_older_is_not_left loses = by loses.front loses.taken loses.back loses.was loses.is loses.oldest
  where
    by : (front : List Lock) (taken : Lock) (back : List Lock) →
        exclusive_by 1 ∷ shared_by 1 ∷ [] ≡ front ++ taken ∷ back → exclusive_by 1 ∷ [] ≡ front ++ back →
        AllByRecursion (λ lock. ¬ ((lock.holder ≡ 1) × (lock.range ≡ first_ten))) front → ⊥
    by [] taken back was is oldest =
        let same : shared_by 1 ≡ exclusive_by 1 = cc in
        let apart : false ≡ true = ap (λ (lock : Lock). lock.exclusive) same in cc
    by (lock ∷ front) taken back was is oldest =
        let same : lock ≡ exclusive_by 1 = cc in
        subst (λ l. ¬ ((l.holder ≡ 1) × (l.range ≡ first_ten))) same oldest.0 (refl, refl)

-- wrong: of two locks of an open over one range an UNLOCK takes the newest
an_unlock_of_the_newest_breaks_it : AnUnlockTakesWhatIsAskedBy (unlocked_by left_by_newest) → ⊥
an_unlock_of_the_newest_breaks_it law =
    let takes = (law (two_opens two_locks) 1 asks_unlock _ two_locks_are_good refl refl).0 refl in
    the_older_is_not_left (subst (LosesOldest 1 first_ten (exclusive_by 1 ∷ shared_by 1 ∷ [])) (sym takes.2) takes.1)

-- a lock is over this very range
abbrev is_any_over : ByteRange → Lock → Bool
is_any_over range lock = lock.range.offset == range.offset && lock.range.length == range.length

-- what is left where each element takes out the oldest lock of any open over its range, up to the first that finds none
abbrev left_of_any : List Lock → List LockAsk → List Lock
left_of_any locks [] = locks
left_of_any locks (ask ∷ asks) =
    if list_any (is_any_over (range_asked ask)) locks
    then left_of_any (without_oldest (is_any_over (range_asked ask)) locks) asks
    else locks

-- wrong: an UNLOCK takes a lock over its range, whichever open holds it
an_unlock_of_any_touches_others :
    LocksOfOthersStayBy locked_through (unlocked_by (λ holder. left_of_any)) closed → ⊥
an_unlock_of_any_touches_others law =
    let same : 0 ≡ 1 = ap length (law (two_opens one_lock) 2 2 asks_unlock one_lock_is_good).1 in omega (arith, same)
