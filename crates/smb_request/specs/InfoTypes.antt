-- What information is about: InfoType of QUERY_INFO and SET_INFO ([MS-SMB2] 2.2.37, 2.2.39).
use Rattle.std.specs.Prelude.{ℕ}

-- a file or a folder
abbrev pub FILE : ℕ
FILE = 1

-- the share as a file system
abbrev pub FILESYSTEM : ℕ
FILESYSTEM = 2

-- a security descriptor
abbrev pub SECURITY : ℕ
SECURITY = 3

-- quotas
abbrev pub QUOTA : ℕ
QUOTA = 4
