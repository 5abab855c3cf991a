-- Options of a CREATE, by the standard's names ([MS-SMB2] 2.2.13).
use Rattle.std.specs.Prelude.{ℕ}

abbrev pub FILE_DIRECTORY_FILE : ℕ
FILE_DIRECTORY_FILE = 0x1

abbrev pub FILE_NON_DIRECTORY_FILE : ℕ
FILE_NON_DIRECTORY_FILE = 0x40

abbrev pub FILE_DELETE_ON_CLOSE : ℕ
FILE_DELETE_ON_CLOSE = 0x1000

abbrev pub FILE_OPEN_BY_FILE_ID : ℕ
FILE_OPEN_BY_FILE_ID = 0x2000
