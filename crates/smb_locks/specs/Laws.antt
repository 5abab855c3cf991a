-- What follows from the definitions.
use Rattle.std.specs.Prelude.{◌≡◌, ◌≢◌, ◌↔◌, ℕ, List, false, IsTrue, [], None, Any, Contains, ◌==◌, not, filter}
use Rattle.smb_locks.specs.declared.ask.LockAsk.{LockAsk}
use Rattle.smb_locks.specs.declared.lock.Lock.{Lock}
use Rattle.smb_locks.specs.declared.range.ByteRange.{ByteRange}
use Rattle.smb_locks.specs.Conflicts.{Conflicts, conflicts, BarsRead, BarsWrite, is_read_barred, is_write_barred}
use Rattle.smb_locks.specs.Good.{GoodLockTable, FewLocks}
use Rattle.smb_locks.specs.Locking.{lock_all_fault}
use Rattle.smb_locks.specs.Ranges.{Overlap, overlaps}
use Rattle.smb_locks.specs.Table.{Table, locks_on, with_locks, locked, unlocked, without_holder}

-- comparing the ends of two ranges says whether some number is in both, also of ranges up to the number 2^64 - 1; if so
-- it is either way round; and no number is in an empty range
abbrev pub ComparingEndsIsOverlap : Type 0
ComparingEndsIsOverlap =
    (a b : ByteRange) →
    (IsTrue (overlaps a b) ↔ Overlap a b) × (Overlap a b → Overlap b a) × (a.length ≡ 0 → ¬ Overlap a b)

-- the test of a conflict is the sentence; and a read, or a write, is barred exactly where some lock bars it
abbrev pub ConflictsAreByOverlap : Type 0
ConflictsAreByOverlap =
    ((asked held : Lock) → IsTrue (conflicts asked held) ↔ Conflicts asked held)
    × ((locks : List Lock) (holder : ℕ) (range : ByteRange) →
    (IsTrue (is_read_barred locks holder range) ↔ Any (BarsRead holder range) locks)
    × (IsTrue (is_write_barred locks holder range) ↔ Any (BarsWrite holder range) locks))

-- no two overlapping locks of different opens of a file have an exclusive one among them
abbrev pub NoTwoConflict : Type 0
NoTwoConflict =
    (table : Table) (file : ℕ) (a b : Lock) → GoodLockTable table → Contains (locks_on table file) a →
    Contains (locks_on table file) b → a.holder ≢ b.holder → Overlap a.range b.range →
    (a.exclusive ≡ false) × (b.exclusive ≡ false)

-- a file has the locks that it was given, and every other file those that it had
abbrev pub EachFileHasItsLocks : Type 0
EachFileHasItsLocks =
    (table : Table) (file : ℕ) (locks : List Lock) → GoodLockTable table →
    (locks_on (with_locks table file locks) file ≡ locks) ×
    ((other : ℕ) → other ≢ file → locks_on (with_locks table file locks) other ≡ locks_on table other)

-- the locks that an open does not hold
abbrev pub others_locks : ℕ → List Lock → List Lock
others_locks holder = filter (λ lock. not (lock.holder == holder))

-- a request on one file leaves the locks of every other file as they are; and an open that is dropped holds nothing, and
-- every other lock stays, in order
abbrev pub OtherLocksStay : Type 0
OtherLocksStay =
    (table : Table) (file holder : ℕ) →
    ((other : ℕ) (asks : List LockAsk) → other ≢ file →
    (locks_on (locked table file holder asks) other ≡ locks_on table other)
    × (locks_on (unlocked table file holder asks) other ≡ locks_on table other))
    × (GoodLockTable table → locks_on (without_holder holder table) file ≡ others_locks holder (locks_on table file))

-- a table without locks is good, and a good one stays so: after a request that locks and is not refused, after one that
-- unlocks, and once an open is dropped; and no file gets more locks than there may be
abbrev pub TablesStayGood : Type 0
TablesStayGood =
    GoodLockTable []
    × ((most : ℕ) (table : Table) (file holder : ℕ) (asks : List LockAsk) → GoodLockTable table →
    (lock_all_fault most (locks_on table file) holder asks ≡ None → GoodLockTable (locked table file holder asks))
    × GoodLockTable (unlocked table file holder asks) × GoodLockTable (without_holder holder table))
    × ((most : ℕ) (table : Table) (file holder : ℕ) (asks : List LockAsk) → FewLocks most table →
    (lock_all_fault most (locks_on table file) holder asks ≡ None → FewLocks most (locked table file holder asks))
    × FewLocks most (unlocked table file holder asks) × FewLocks most (without_holder holder table))
