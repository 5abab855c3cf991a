-- Attributes of files and folders, by the standard's names ([MS-FSCC] 2.6).
use Rattle.std.specs.Prelude.{ℕ}

abbrev pub FILE_ATTRIBUTE_READONLY : ℕ
FILE_ATTRIBUTE_READONLY = 0x1

abbrev pub FILE_ATTRIBUTE_DIRECTORY : ℕ
FILE_ATTRIBUTE_DIRECTORY = 0x10

abbrev pub FILE_ATTRIBUTE_ARCHIVE : ℕ
FILE_ATTRIBUTE_ARCHIVE = 0x20

abbrev pub FILE_ATTRIBUTE_NORMAL : ℕ
FILE_ATTRIBUTE_NORMAL = 0x80
