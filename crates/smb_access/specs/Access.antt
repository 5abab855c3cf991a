-- Access that is asked for, and access that is granted ([MS-SMB2] 2.2.13.1, 3.3.5.9).
use Rattle.std.specs.Prelude.{ℕ, Bool, not, ◌==◌, ◌||◌, if◌then◌else◌, bit_and, bit_or}
use Rattle.smb_wire.specs.declared.access.Access.{Access}
use Rattle.smb_wire.specs.Access.{has_any, FILE_READ_DATA, FILE_EXECUTE, DELETE, FILE_WRITE_DATA, FILE_APPEND_DATA, MAXIMUM_ALLOWED, GENERIC_ALL, GENERIC_EXECUTE, GENERIC_WRITE, GENERIC_READ, FILE_ALL_ACCESS, FILE_GENERIC_EXECUTE, FILE_GENERIC_WRITE, FILE_GENERIC_READ}

-- a file's bytes may be read: FILE_READ_DATA or FILE_EXECUTE
abbrev pub is_reading : Access → Bool
is_reading access = has_any access.0 FILE_READ_DATA || has_any access.0 FILE_EXECUTE

-- the entry may be deleted
abbrev pub is_deleting : Access → Bool
is_deleting access = has_any access.0 DELETE

-- a file's bytes may be written
abbrev pub is_writing : Access → Bool
is_writing access = has_any access.0 FILE_WRITE_DATA || has_any access.0 FILE_APPEND_DATA

-- there is a right that a session does not have that may only read: one besides FILE_GENERIC_READ and
-- FILE_GENERIC_EXECUTE
abbrev pub is_past_reading : Access → Bool
is_past_reading access = not (bit_and access.0 0x1200A9 == access.0)

-- the rights that MAXIMUM_ALLOWED asks for: where a session may only read, FILE_GENERIC_READ and FILE_GENERIC_EXECUTE;
-- else what the entry allows: a read-only file every right but FILE_WRITE_DATA and FILE_APPEND_DATA, another entry every
-- right
abbrev pub most_allowed : Bool → Bool → ℕ
most_allowed read_only on_read_only =
    if read_only then 0x1200A9 else if on_read_only then 0x1F01F9 else FILE_ALL_ACCESS

-- the access that is granted: the rights that are asked for by name, those that each generic bit stands for, and with
-- MAXIMUM_ALLOWED the most that is allowed, by whether the session may only read and whether the entry is a read-only
-- file. The four generic bits and MAXIMUM_ALLOWED stand for rights, and are none themselves. What is asked for and not
-- allowed is granted here all the same: rows of a CREATE refuse it
abbrev pub granted : ℕ → Bool → Bool → Access
granted access read_only on_read_only = record {
  0 =
      bit_or (bit_and access FILE_ALL_ACCESS)
      (bit_or (if has_any access GENERIC_ALL then FILE_ALL_ACCESS else 0)
      (bit_or (if has_any access GENERIC_EXECUTE then FILE_GENERIC_EXECUTE else 0)
      (bit_or (if has_any access GENERIC_WRITE then FILE_GENERIC_WRITE else 0)
      (bit_or (if has_any access GENERIC_READ then FILE_GENERIC_READ else 0)
      (if has_any access MAXIMUM_ALLOWED then most_allowed read_only on_read_only else 0)))));
}
