-- What a lock that is held keeps others from ([MS-FSA] 2.1.4.10). Each sentence comes before its test; that they
-- agree is a law (laws_of_locks).
use Rattle.std.specs.Prelude.{◌≡◌, ◌≢◌, ◌⊎◌, ℕ, ◌==◌, ◌&&◌, ◌||◌, Bool, true, false, not, List}
use Rattle.std.specs.List.{list_any}
use Rattle.smb_locks.specs.declared.lock.Lock.{Lock}
use Rattle.smb_locks.specs.declared.range.ByteRange.{ByteRange}
use Rattle.smb_locks.specs.Ranges.{Overlap, overlaps}

-- a lock that is held conflicts with one that is asked for: they overlap, and the one asked for is exclusive (then
-- also with the open's own locks), or the one held is exclusive and another open's ([MS-SMB2] 3.3.5.14.2)
abbrev pub Conflicts : Lock → Lock → Type 0
Conflicts asked held =
    Overlap held.range asked.range × ((asked.exclusive ≡ true) ⊎ ((held.exclusive ≡ true) × (held.holder ≢ asked.holder)))

-- the same as a test
abbrev pub conflicts : Lock → Lock → Bool
conflicts asked held =
    overlaps held.range asked.range && (asked.exclusive || (held.exclusive && not (held.holder == asked.holder)))

-- another open's exclusive lock bars the reads that it overlaps ([MS-SMB2] 3.3.5.12)
abbrev pub BarsRead : ℕ → ByteRange → Lock → Type 0
BarsRead holder range lock = Overlap lock.range range × (lock.exclusive ≡ true) × (lock.holder ≢ holder)

-- it bars the writes that it overlaps, and so does any shared lock, the own ones too ([MS-SMB2] 3.3.5.13)
abbrev pub BarsWrite : ℕ → ByteRange → Lock → Type 0
BarsWrite holder range lock = Overlap lock.range range × ((lock.exclusive ≡ false) ⊎ (lock.holder ≢ holder))

-- some lock of a file bars an open from reading a range: another open's exclusive lock that overlaps it
-- ([MS-SMB2] 3.3.5.12)
abbrev pub is_read_barred : List Lock → ℕ → ByteRange → Bool
is_read_barred locks holder range =
    list_any (λ lock. overlaps lock.range range && lock.exclusive && not (lock.holder == holder)) locks

-- some lock of a file bars an open from writing a range: another open's lock that overlaps it, or a shared one of its own
-- ([MS-SMB2] 3.3.5.13)
abbrev pub is_write_barred : List Lock → ℕ → ByteRange → Bool
is_write_barred locks holder range =
    list_any (λ lock. overlaps lock.range range && (not lock.exclusive || not (lock.holder == holder))) locks
