-- The locks of all files.
use Rattle.std.specs.Prelude.{◌≡◌, ◌≢◌, ℕ, ◌++◌, ◌∷◌, [], ◌==◌, List, length, map, filter, not, nat_lt, unwrap_or, if◌then◌else◌}
use Rattle.std.specs.List.{list_all}
use Rattle.std.specs.BTreeMap.{is_at, insert_entry}
use Rattle.std.specs.Map.{lookup, remove_entry}
use Rattle.std.specs.Ordering.{nat_cmp}
use Rattle.smb_wire.specs.LockFlags.{UNLOCK}
use Rattle.smb_locks.specs.declared.ask.LockAsk.{LockAsk}
use Rattle.smb_locks.specs.declared.lock.Lock.{Lock}
use Rattle.smb_locks.specs.Asks.{locks_asked}
use Rattle.smb_locks.specs.Unlocking.{all_unlocked}

-- each file that has locks, in rising number, with its locks, oldest first
abbrev pub Table : Type 0
Table = List (ℕ × List Lock)

-- the locks of a file
abbrev pub locks_on : Table → ℕ → List Lock
locks_on table file = unwrap_or (lookup (is_at (nat_cmp file)) table) []

-- a table with other locks of a file, which is listed where it has some
abbrev pub with_locks : Table → ℕ → List Lock → Table
with_locks table file [] = remove_entry (is_at (nat_cmp file)) table
with_locks table file (lock ∷ locks) = insert_entry nat_cmp table file (lock ∷ locks)

-- after a request that locks and is not refused: its locks are the newest of the file, in order
abbrev pub locked : Table → ℕ → ℕ → List LockAsk → Table
locked table file holder asks = with_locks table file (locks_on table file ++ locks_asked holder asks)

-- after a request that unlocks, refused at an element or not; with the flags of a wrong one nothing is done
abbrev pub unlocked : Table → ℕ → ℕ → List LockAsk → Table
unlocked table file holder asks =
    if list_all (λ ask. ask.flags.0 == UNLOCK) asks
    then with_locks table file (all_unlocked 0 holder (locks_on table file) asks).0 else table

-- without the locks of an open, on whichever files it holds them
abbrev pub without_holder : ℕ → Table → Table
without_holder holder table =
    filter (λ entry. nat_lt 0 (length entry.1))
    (map (λ entry. (entry.0, filter (λ lock. not (lock.holder == holder)) entry.1)) table)

-- an open holds locks on no file but this one: of every other file all locks are others'
abbrev pub HoldsNoneElsewhere : Table → ℕ → ℕ → Type 0
HoldsNoneElsewhere table file holder =
    (other : ℕ) → other ≢ file → filter (λ lock. not (lock.holder == holder)) (locks_on table other) ≡ locks_on table other
