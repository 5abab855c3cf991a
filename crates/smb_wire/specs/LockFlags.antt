-- Flags of an element of a LOCK, by the standard's names without SMB2_LOCKFLAG_ ([MS-SMB2] 2.2.26.1).
use Rattle.std.specs.Prelude.{ℕ}

abbrev pub SHARED_LOCK : ℕ
SHARED_LOCK = 0x1

abbrev pub EXCLUSIVE_LOCK : ℕ
EXCLUSIVE_LOCK = 0x2

abbrev pub UNLOCK : ℕ
UNLOCK = 0x4

abbrev pub FAIL_IMMEDIATELY : ℕ
FAIL_IMMEDIATELY = 0x10
