-- Requests that unlock, over the locks of a file, oldest first ([MS-SMB2] 3.3.5.14.1).
use Rattle.std.specs.Prelude.{ℕ, ◌+◌, ◌==◌, ◌&&◌, not, List, [], ◌∷◌, if◌then◌else◌, Option, None, Some}
use Rattle.std.specs.List.{list_all}
use Rattle.std.specs.Option.{option_map, option_map_or}
use Rattle.smb_wire.specs.LockFlags.{UNLOCK}
use Rattle.smb_locks.specs.declared.ask.LockAsk.{LockAsk}
use Rattle.smb_locks.specs.declared.fault.LockFault.TheVariants.{BadFlags, BadRange, NotLocked}
use Rattle.smb_locks.specs.declared.fault.UnlockError.{UnlockError}
use Rattle.smb_locks.specs.declared.lock.Lock.{Lock}
use Rattle.smb_locks.specs.Ranges.{is_past_the_end}

-- locks without the oldest one that this open holds over the very range of an element; None where it holds no such lock
abbrev pub one_unlocked : ℕ → LockAsk → List Lock → Option (List Lock)
one_unlocked holder ask [] = None
one_unlocked holder ask (lock ∷ locks) =
    if lock.holder == holder && lock.range.offset == ask.offset && lock.range.length == ask.length then Some locks
    else option_map (λ left. lock ∷ left) (one_unlocked holder ask locks)

-- what the elements of a request leave of the locks, and the first that is refused, by how many were done before it, and
-- why: each in turn takes out the oldest lock of the open over its range, up to the first whose range reaches past the
-- end, or over whose range the open holds no lock
abbrev pub all_unlocked : ℕ → ℕ → List Lock → List LockAsk → List Lock × Option UnlockError
all_unlocked done holder locks [] = (locks, None)
all_unlocked done holder locks (ask ∷ asks) =
    if is_past_the_end (record { offset = ask.offset; length = ask.length })
    then (locks, Some (record { done = done; fault = BadRange }))
    else option_map_or (λ left. all_unlocked (done + 1) holder left asks) (one_unlocked holder ask locks)
    (locks, Some (record { done = done; fault = NotLocked }))

-- why a request is refused: first the flags of an element, which are to be UNLOCK
abbrev pub unlock_all_error : List Lock → ℕ → List LockAsk → Option UnlockError
unlock_all_error locks holder asks =
    if not (list_all (λ ask. ask.flags.0 == UNLOCK) asks) then Some (record { done = 0; fault = BadFlags })
    else (all_unlocked 0 holder locks asks).1
