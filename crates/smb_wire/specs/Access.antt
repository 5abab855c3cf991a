-- Access to files and folders, and what an open shares ([MS-SMB2] 2.2.13, 2.2.13.1): the bits, by the standard's names.
use Rattle.std.specs.Prelude.{ℕ, Bool, not, ◌==◌, bit_and}

-- some bit of a mask is set
abbrev pub has_any : ℕ → ℕ → Bool
has_any bits mask = not (bit_and bits mask == 0)

abbrev pub FILE_READ_DATA : ℕ
FILE_READ_DATA = 0x1

abbrev pub FILE_WRITE_DATA : ℕ
FILE_WRITE_DATA = 0x2

abbrev pub FILE_APPEND_DATA : ℕ
FILE_APPEND_DATA = 0x4

abbrev pub FILE_EXECUTE : ℕ
FILE_EXECUTE = 0x20

abbrev pub FILE_WRITE_ATTRIBUTES : ℕ
FILE_WRITE_ATTRIBUTES = 0x100

abbrev pub DELETE : ℕ
DELETE = 0x10000

abbrev pub MAXIMUM_ALLOWED : ℕ
MAXIMUM_ALLOWED = 0x2000000

abbrev pub GENERIC_ALL : ℕ
GENERIC_ALL = 0x10000000

abbrev pub GENERIC_EXECUTE : ℕ
GENERIC_EXECUTE = 0x20000000

abbrev pub GENERIC_WRITE : ℕ
GENERIC_WRITE = 0x40000000

abbrev pub GENERIC_READ : ℕ
GENERIC_READ = 0x80000000

-- every right there is: READ_DATA 1, WRITE_DATA 2, APPEND_DATA 4, READ_EA 8, WRITE_EA 0x10, EXECUTE 0x20,
-- DELETE_CHILD 0x40, READ_ATTRIBUTES 0x80, WRITE_ATTRIBUTES 0x100, DELETE 0x10000, READ_CONTROL 0x20000,
-- WRITE_DAC 0x40000, WRITE_OWNER 0x80000, SYNCHRONIZE 0x100000
abbrev pub FILE_ALL_ACCESS : ℕ
FILE_ALL_ACCESS = 0x1F01FF

-- the rights to execute, to write and to read, as the generic bits ask for them
abbrev pub FILE_GENERIC_EXECUTE : ℕ
FILE_GENERIC_EXECUTE = 0x1200A0

abbrev pub FILE_GENERIC_WRITE : ℕ
FILE_GENERIC_WRITE = 0x120116

abbrev pub FILE_GENERIC_READ : ℕ
FILE_GENERIC_READ = 0x120089

-- what an open shares (2.2.13): reading, writing, deleting, and the three of them
abbrev pub FILE_SHARE_READ : ℕ
FILE_SHARE_READ = 0x1

abbrev pub FILE_SHARE_WRITE : ℕ
FILE_SHARE_WRITE = 0x2

abbrev pub FILE_SHARE_DELETE : ℕ
FILE_SHARE_DELETE = 0x4

abbrev pub FILE_SHARE_ALL : ℕ
FILE_SHARE_ALL = 0x7
