-- Flags of a QUERY_DIRECTORY, by the standard's names without SMB2_ ([MS-SMB2] 2.2.33).
use Rattle.std.specs.Prelude.{ℕ}

abbrev pub RESTART_SCANS : ℕ
RESTART_SCANS = 0x1

abbrev pub RETURN_SINGLE_ENTRY : ℕ
RETURN_SINGLE_ENTRY = 0x2

abbrev pub REOPEN : ℕ
REOPEN = 0x10
