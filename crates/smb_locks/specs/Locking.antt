-- Requests that lock, over the locks of a file, oldest first ([MS-SMB2] 3.3.5.14.2).
use Rattle.std.specs.Prelude.{ℕ, ◌==◌, ◌&&◌, ◌||◌, bit_or, ◌++◌, ◌∷◌, [], List, length, not, nat_le, if◌then◌else◌, Option, None, Some}
use Rattle.std.specs.List.{list_any, list_all}
use Rattle.std.specs.Option.{option_or}
use Rattle.smb_wire.specs.LockFlags.{SHARED_LOCK, EXCLUSIVE_LOCK, FAIL_IMMEDIATELY}
use Rattle.smb_locks.specs.declared.ask.LockAsk.{LockAsk}
use Rattle.smb_locks.specs.declared.fault.LockFault.{LockFault}
use Rattle.smb_locks.specs.declared.fault.LockFault.TheVariants.{BadFlags, BadRange, Full, NotGranted}
use Rattle.smb_locks.specs.declared.lock.Lock.{Lock}
use Rattle.smb_locks.specs.Asks.{locks_asked}
use Rattle.smb_locks.specs.Conflicts.{conflicts}
use Rattle.smb_locks.specs.Ranges.{is_past_the_end}

-- why some locks are refused: the first of them that is refused beside those before it; of one the first that holds: its
-- range reaches past the end, as many locks as there may be are held on the file, or one of them conflicts with it
abbrev pub locks_fault : ℕ → List Lock → List Lock → Option LockFault
locks_fault most locks [] = None
locks_fault most locks (asked ∷ later) = option_or
    (if is_past_the_end asked.range then Some BadRange else
    if nat_le most (length locks) then Some Full else
    if list_any (conflicts asked) locks then Some NotGranted else None)
    (locks_fault most (locks ++ asked ∷ []) later)

-- why a request is refused: first the flags of an element, which are to be SHARED_LOCK or EXCLUSIVE_LOCK, both with
-- FAIL_IMMEDIATELY; an only element may be without it (and is refused at once all the same)
abbrev pub lock_all_fault : ℕ → List Lock → ℕ → List LockAsk → Option LockFault
lock_all_fault most locks holder asks =
    let is_lock = λ (ask : LockAsk).
    ask.flags.0 == bit_or SHARED_LOCK FAIL_IMMEDIATELY || ask.flags.0 == bit_or EXCLUSIVE_LOCK FAIL_IMMEDIATELY
    || (length asks == 1 && (ask.flags.0 == SHARED_LOCK || ask.flags.0 == EXCLUSIVE_LOCK)) in
    if not (list_all is_lock asks) then Some BadFlags else locks_fault most locks (locks_asked holder asks)
