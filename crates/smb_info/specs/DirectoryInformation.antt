-- What is answered of the entries of a directory ([MS-FSCC] 2.4). A row is a field: its offset, its width, its value.
use Rattle.std.specs.Prelude.{ℕ, ◌+◌, ◌-◌, ◌*◌, ◌/◌, List, [], ◌∷◌, ◌++◌, length, replicate, ◌==◌, if◌then◌else◌, Option, None, Some}
use Rattle.smb_wire.specs.Fields.{Field, num, joined}
use Rattle.smb_wire.specs.Pairs.{unit_bytes}
use Rattle.smb_tree.specs.Entries.{allocation_size, shown_attributes}
use Rattle.smb_info.specs.Candidates.{Candidate}
use Rattle.smb_info.specs.declared.directory_class.DirectoryInformationClass.{DirectoryInformationClass}
use Rattle.smb_info.specs.declared.directory_class.DirectoryInformationClass.TheVariants.{FileDirectory, FileFullDirectory, FileBothDirectory, FileNames, FileIdBothDirectory, FileIdFullDirectory}

-- the classes that can be asked for, by their numbers
abbrev pub directory_class : ℕ → Option DirectoryInformationClass
directory_class number =
    if number == 1 then Some FileDirectory else
    if number == 2 then Some FileFullDirectory else
    if number == 3 then Some FileBothDirectory else
    if number == 12 then Some FileNames else
    if number == 37 then Some FileIdBothDirectory else
    if number == 38 then Some FileIdFullDirectory else None

-- how many bytes the fixed part has
abbrev pub directory_length : DirectoryInformationClass → ℕ
directory_length FileDirectory = 64
directory_length FileFullDirectory = 68
directory_length FileBothDirectory = 94
directory_length FileNames = 12
directory_length FileIdBothDirectory = 104
directory_length FileIdFullDirectory = 80

-- FileDirectoryInformation, class 1 (2.4.10); the next entry begins so many bytes on, or this is the last one
abbrev pub directory_fields : ℕ → Candidate → List Field
directory_fields next c =
    num 0 4 next  -- NextEntryOffset
    ∷ num 4 4 0  -- FileIndex
    ∷ num 8 8 c.entry.basic.creation_time  -- CreationTime
    ∷ num 16 8 c.entry.basic.last_access_time  -- LastAccessTime
    ∷ num 24 8 c.entry.basic.last_write_time  -- LastWriteTime
    ∷ num 32 8 c.entry.basic.change_time  -- ChangeTime
    ∷ num 40 8 c.entry.size  -- EndOfFile
    ∷ num 48 8 (allocation_size c.entry.size)  -- AllocationSize
    ∷ num 56 4 (shown_attributes c.entry.kind c.entry.basic.attributes.0)  -- FileAttributes
    ∷ num 60 4 (2 * length c.name)  -- FileNameLength
    ∷ []

-- FileFullDirectoryInformation, class 2 (2.4.14): there are no extended attributes
abbrev pub full_directory_fields : ℕ → Candidate → List Field
full_directory_fields next c =
    directory_fields next c
    ++ num 64 4 0  -- EaSize
    ∷ []

-- FileBothDirectoryInformation, class 3 (2.4.8): there are no short names
abbrev pub both_directory_fields : ℕ → Candidate → List Field
both_directory_fields next c =
    full_directory_fields next c
    ++ num 68 1 0  -- ShortNameLength
    ∷ num 69 1 0  -- Reserved
    ∷ num 70 24 0  -- ShortName
    ∷ []

-- the fields of a class
abbrev pub fields_of : DirectoryInformationClass → ℕ → Candidate → List Field
fields_of FileDirectory next c = directory_fields next c
fields_of FileFullDirectory next c = full_directory_fields next c
fields_of FileBothDirectory next c = both_directory_fields next c
-- FileNamesInformation, class 12 (2.4.28)
fields_of FileNames next c =
    num 0 4 next  -- NextEntryOffset
    ∷ num 4 4 0  -- FileIndex
    ∷ num 8 4 (2 * length c.name)  -- FileNameLength
    ∷ []
-- FileIdBothDirectoryInformation, class 37 (2.4.17)
fields_of FileIdBothDirectory next c =
    both_directory_fields next c
    ++ num 94 2 0  -- Reserved2
    ∷ num 96 8 c.entry.number  -- FileId
    ∷ []
-- FileIdFullDirectoryInformation, class 38 (2.4.18)
fields_of FileIdFullDirectory next c =
    full_directory_fields next c
    ++ num 68 4 0  -- Reserved
    ∷ num 72 8 c.entry.number  -- FileId
    ∷ []

-- entries one behind the other ([MS-SMB2] 3.3.5.18), each with its fields and behind them its name as it is spelled.
-- NextEntryOffset is the distance to the next one, the length of the entry rounded up to a multiple of 8, and there are
-- zeros up to that; it is 0 in the last, behind which there are no zeros
unfoldable pub laid : DirectoryInformationClass → List Candidate → List ℕ
laid class [] = []
laid class (last ∷ []) = joined (fields_of class 0 last) ++ unit_bytes last.name
laid class (c ∷ next ∷ rest) =
    let size = directory_length class + 2 * length c.name in
    let distance = (size + 7) / 8 * 8 in
    joined (fields_of class distance c) ++ unit_bytes c.name ++ replicate (distance - size) 0
    ++ laid class (next ∷ rest)
