-- For the proofs; nothing here need be believed.
-- Steps of what is asked, locked and unlocked, each with a name.
use Rattle.std.specs.Prelude.{ℕ, ◌+◌, is_some, [], ◌∷◌, ◌==◌, ◌&&◌, ◌||◌, Bool, List, length, bit_and, bit_or, not, nat_le, if◌then◌else◌, Option, None, Some, ◌≡◌, ◌≢◌, ◌<◌, false, true}
use Rattle.std.specs.List.{list_all, list_any}
use Rattle.smb_wire.specs.LockFlags.{SHARED_LOCK, EXCLUSIVE_LOCK, UNLOCK, FAIL_IMMEDIATELY}
use Rattle.smb_locks.specs.declared.ask.LockAsk.{LockAsk}
use Rattle.smb_locks.specs.declared.lock.Lock.{Lock}
use Rattle.smb_locks.specs.declared.range.ByteRange.{ByteRange}
use Rattle.smb_locks.specs.Ranges.{overlaps, is_past_the_end}
use Rattle.smb_locks.specs.declared.fault.LockFault.{LockFault}
use Rattle.smb_locks.specs.declared.fault.LockFault.TheVariants.{BadRange, Full, NotGranted, NotLocked}
use Rattle.smb_locks.specs.Conflicts.{conflicts}
use Rattle.smb_locks.specs.declared.fault.UnlockError.{UnlockError}
use Rattle.smb_locks.specs.Good.{EachToLater}
use Rattle.std.specs.Option.{option_map_or}

-- the elements of a request that unlocks: the flags of each are UNLOCK (3.3.5.14.1)
abbrev pub are_unlocks : List LockAsk → Bool
are_unlocks = list_all (λ ask. ask.flags.0 == UNLOCK)

-- the range that an element is about
abbrev pub range_asked : LockAsk → ByteRange
range_asked ask = record { offset = ask.offset; length = ask.length }

-- a lock of this open over this very range
abbrev pub is_lock_over : ℕ → ByteRange → Lock → Bool
is_lock_over holder range lock =
    lock.holder == holder && lock.range.offset == range.offset && lock.range.length == range.length

-- locks without the oldest one that passes
abbrev pub without_oldest : (Lock → Bool) → List Lock → List Lock
without_oldest test [] = []
without_oldest test (lock ∷ locks) = if test lock then locks else lock ∷ without_oldest test locks

-- why an element is refused, by its range
abbrev pub unlock_fault : ℕ → List Lock → ByteRange → Option LockFault
unlock_fault holder locks range =
    if is_past_the_end range then Some BadRange else
    if list_any (is_lock_over holder range) locks then None else Some NotLocked

-- a shared or an exclusive lock, refused at once where it cannot be granted
abbrev pub is_immediate : LockAsk → Bool
is_immediate ask =
    ask.flags.0 == bit_or SHARED_LOCK FAIL_IMMEDIATELY || ask.flags.0 == bit_or EXCLUSIVE_LOCK FAIL_IMMEDIATELY

-- a shared or an exclusive lock that might be waited for (no lock is: it is refused at once all the same)
abbrev pub may_wait : LockAsk → Bool
may_wait ask = ask.flags.0 == SHARED_LOCK || ask.flags.0 == EXCLUSIVE_LOCK

-- a lock to be taken back
abbrev pub is_unlock : LockAsk → Bool
is_unlock ask = ask.flags.0 == UNLOCK

-- the elements of a request that locks: none may wait, but for one that is alone (3.3.5.14.2)
abbrev pub are_locks : List LockAsk → Bool
are_locks asks = list_all (λ ask. is_immediate ask || (length asks == 1 && may_wait ask)) asks

-- the lock that an open asks for
abbrev pub lock_by : ℕ → LockAsk → Lock
lock_by holder ask = record { holder = holder; range = range_asked ask; exclusive = bit_and ask.flags.0 EXCLUSIVE_LOCK == EXCLUSIVE_LOCK }

abbrev pub bars_read : ℕ → ByteRange → Lock → Bool
bars_read holder range lock = overlaps lock.range range && lock.exclusive && not (lock.holder == holder)

abbrev pub bars_write : ℕ → ByteRange → Lock → Bool
bars_write holder range lock = overlaps lock.range range && (not lock.exclusive || not (lock.holder == holder))

-- why a lock is refused, the first that holds: its range reaches past the end, as many locks as there may be are held on
-- the file, or one of them conflicts with it
abbrev pub lock_fault : ℕ → List Lock → Lock → Option LockFault
lock_fault most locks asked =
    if is_past_the_end asked.range then Some BadRange else
    if nat_le most (length locks) then Some Full else
    if list_any (conflicts asked) locks then Some NotGranted else None

-- two locks may be held at once: if they are of different opens and overlap, neither is exclusive
abbrev pub AreCompatible : Lock → Lock → Type 0
AreCompatible a b = a.holder ≢ b.holder → overlaps a.range b.range ≡ true → (a.exclusive ≡ false) × (b.exclusive ≡ false)

-- each lock with each newer one
abbrev pub AreAllCompatible : List Lock → Type 0
AreAllCompatible = EachToLater AreCompatible

-- each number is below those behind it
abbrev pub IsAscending : List ℕ → Type 0
IsAscending = EachToLater (λ number later. number < later)

-- the refusal of the elements from a place on: of this one, or else of those behind it
abbrev pub unlock_error_at : ℕ → Option LockFault → Option UnlockError → Option UnlockError
unlock_error_at done fault later = option_map_or (λ fault. Some (record { done = done; fault = fault })) fault later

-- what is left: each element in turn takes out the oldest lock of the open over its range, up to the first that is refused
abbrev pub left_by : ℕ → List Lock → List LockAsk → List Lock
left_by holder locks [] = locks
left_by holder locks (ask ∷ asks) =
    if is_some (unlock_fault holder locks (range_asked ask)) then locks
    else left_by holder (without_oldest (is_lock_over holder (range_asked ask)) locks) asks

-- where so many are done: the first element that is refused, by how many were done before it, and why
abbrev pub unlock_error_from : ℕ → ℕ → List Lock → List LockAsk → Option UnlockError
unlock_error_from done holder locks [] = None
unlock_error_from done holder locks (ask ∷ asks) =
    option_map_or (λ fault. Some (record { done = done; fault = fault })) (unlock_fault holder locks (range_asked ask))
    (unlock_error_from (done + 1) holder (without_oldest (is_lock_over holder (range_asked ask)) locks) asks)
