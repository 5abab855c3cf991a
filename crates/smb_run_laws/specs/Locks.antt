-- A lock bars others until it is given back.
use Rattle.std.specs.Prelude.{◌≡◌, ◌≢◌, ◌⊎◌, ℕ, ◌==◌, ◌&&◌, Bool, true, false, List, ◌∷◌, ◌++◌, length, is_some}
use Rattle.std.specs.Prelude.{Contains}
use Rattle.std.specs.List.{AllByRecursion, list_any}
use Rattle.smb_body.specs.Lock.{LockAsked}
use Rattle.smb_body.specs.Requests.{asks_lock, asks_read, asks_write}
use Rattle.smb_body.specs.Write.{WriteAsked}
use Rattle.smb_body.specs.declared.read.ReadRequest.{ReadRequest}
use Rattle.smb_locks.specs.declared.lock.Lock.{Lock}
use Rattle.smb_locks.specs.Asks.{locks_asked}
use Rattle.smb_locks.specs.Ranges.{Overlap}
use Rattle.smb_access.specs.Opens.{open_of}
use Rattle.smb_opens.specs.Steps.{StoreStep, unlocks}
use Rattle.smb_engine.specs.Run.{PerformedRequest}
use Rattle.smb_request_laws.specs.Doing.{elements_asked, is_unlock}
use Rattle.smb_run_laws.specs.Actions.{Action, serves, disconnects, AsksFor}
use Rattle.smb_run_laws.specs.Written.{SucceedsOn}

-- an UNLOCK by the open that holds a lock, of the lock's own range
abbrev pub is_unlock_of : Lock → StoreStep → Bool
is_unlock_of lock (unlocks number asks) =
    number == lock.holder
    && list_any (λ ask. ask.offset == lock.range.offset && ask.length == lock.range.length) asks
is_unlock_of lock step = false

-- an action does not unlock a lock: it asks for no such UNLOCK, be it refused or not
abbrev pub LeavesLock : {S : Type 0} → Lock → Action S → Type 0
LeavesLock lock (serves connection moment served) =
    (step : StoreStep) → AsksFor connection moment served step → is_unlock_of lock step ≡ false
LeavesLock lock (disconnects server connection) = Unit {0}

-- what a LOCK that is answered by SUCCESS locked bars others as long as its open is there and asks for no UNLOCK of
-- that range: no READ of bytes under an exclusive lock, and no WRITE of them, is answered by SUCCESS through another
-- open of the file; nor is a WRITE of bytes under a shared lock, through whatever open ([MS-SMB2] 3.3.5.12 to
-- 3.3.5.14)
abbrev pub LocksBarOthers : {S : Type 0} → List (Action S) → Type 0
LocksBarOthers {S} actions =
    (front between back : List (Action S)) (owner locked_at connection moment file : ℕ)
    (locking served : PerformedRequest S)
    (it : LockAsked) (lock : Lock) →
    actions ≡ front ++ serves owner locked_at locking ∷ (between ++ serves connection moment served ∷ back) →
    (held : SucceedsOn file locking (asks_lock it)) → is_unlock (elements_asked it) ≡ false →
    Contains (locks_asked held.row.number (elements_asked it)) lock → AllByRecursion (LeavesLock lock) between →
    is_some (open_of served.before.store.opens held.row.number) ≡ true →
    ((read : ReadRequest) (done : SucceedsOn file served (asks_read read)) → lock.exclusive ≡ true →
    done.row.number ≢ held.row.number → Overlap lock.range (record { offset = read.offset; length = read.length }) → ⊥)
    × ((write : WriteAsked) (done : SucceedsOn file served (asks_write write)) →
    (lock.exclusive ≡ false) ⊎ (done.row.number ≢ held.row.number) →
    Overlap lock.range (record { offset = write.offset; length = length write.buffer }) → ⊥)
