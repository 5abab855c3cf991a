-- What is answered of a file or a folder ([MS-FSCC] 2.4). A row is a field: its offset, its width, its value.
use Rattle.std.specs.Prelude.{ℕ, List, [], ◌∷◌, ◌++◌, length, ◌==◌, if◌then◌else◌, Option, None, Some}
use Rattle.std.specs.Option.{option_map}
use Rattle.smb_wire.specs.Fields.{Field, num}
use Rattle.smb_tree.specs.WholeNames.{Copied}
use Rattle.smb_tree.specs.Entries.{is_folder_kind, allocation_size, shown_attributes}
use Rattle.smb_info.specs.Information.{Information}
use Rattle.smb_info.specs.declared.file_class.FileInformationClass.{FileInformationClass}
use Rattle.smb_info.specs.declared.file_class.FileInformationClass.TheVariants.{FileBasic, FileStandard, FileInternal, FileEa, FileAccess, FilePosition, FileMode, FileAlignment, FileAll, FileNetworkOpen, FileAttributeTag}

-- the classes that can be asked for, by their numbers
abbrev pub file_class : ℕ → Option FileInformationClass
file_class number =
    if number == 4 then Some FileBasic else
    if number == 5 then Some FileStandard else
    if number == 6 then Some FileInternal else
    if number == 7 then Some FileEa else
    if number == 8 then Some FileAccess else
    if number == 14 then Some FilePosition else
    if number == 16 then Some FileMode else
    if number == 17 then Some FileAlignment else
    if number == 18 then Some FileAll else
    if number == 34 then Some FileNetworkOpen else
    if number == 35 then Some FileAttributeTag else None

-- FileBasicInformation, class 4
abbrev pub basic_fields : Copied → List Field
basic_fields e =
    num 0 8 e.basic.creation_time  -- CreationTime
    ∷ num 8 8 e.basic.last_access_time  -- LastAccessTime
    ∷ num 16 8 e.basic.last_write_time  -- LastWriteTime
    ∷ num 24 8 e.basic.change_time  -- ChangeTime
    ∷ num 32 4 (shown_attributes e.kind e.basic.attributes.0)  -- FileAttributes
    ∷ num 36 4 0  -- Reserved
    ∷ []

-- what a class tells of an entry through an open with this access
abbrev pub file_information_of : FileInformationClass → Copied → ℕ → Information
file_information_of FileBasic e access = record { fields = basic_fields e; name = [] }
-- FileStandardInformation, class 5; a yes is 1, a no 0
file_information_of FileStandard e access = record {
  fields =
      num 0 8 (allocation_size e.size)  -- AllocationSize
      ∷ num 8 8 e.size  -- EndOfFile
      ∷ num 16 4 1  -- NumberOfLinks
      ∷ num 20 1 (if e.mark then 1 else 0)  -- DeletePending
      ∷ num 21 1 (if is_folder_kind e.kind then 1 else 0)  -- Directory
      ∷ num 22 2 0  -- Reserved
      ∷ [];
  name = [];
}
-- FileInternalInformation, class 6: IndexNumber
file_information_of FileInternal e access = record { fields = num 0 8 e.number ∷ []; name = [] }
-- FileEaInformation, class 7: EaSize; there are no extended attributes
file_information_of FileEa e access = record { fields = num 0 4 0 ∷ []; name = [] }
-- FileAccessInformation, class 8: AccessFlags
file_information_of FileAccess e access = record { fields = num 0 4 access ∷ []; name = [] }
-- FilePositionInformation, class 14: CurrentByteOffset; an open has no place of its own
file_information_of FilePosition e access = record { fields = num 0 8 0 ∷ []; name = [] }
-- FileModeInformation, class 16: Mode
file_information_of FileMode e access = record { fields = num 0 4 0 ∷ []; name = [] }
-- FileAlignmentInformation, class 17: AlignmentRequirement; a buffer may begin anywhere
file_information_of FileAlignment e access = record { fields = num 0 4 0 ∷ []; name = [] }
-- FileAllInformation, class 18: the classes before it, one behind the other, and the name from the root of the share
-- on: a separator, two bytes, and the components of the path
file_information_of FileAll e access = record {
  fields =
      basic_fields e
      ++ num 40 8 (allocation_size e.size)  -- AllocationSize
      ∷ num 48 8 e.size  -- EndOfFile
      ∷ num 56 4 1  -- NumberOfLinks
      ∷ num 60 1 (if e.mark then 1 else 0)  -- DeletePending
      ∷ num 61 1 (if is_folder_kind e.kind then 1 else 0)  -- Directory
      ∷ num 62 2 0  -- Reserved
      ∷ num 64 8 e.number  -- IndexNumber
      ∷ num 72 4 0  -- EaSize
      ∷ num 76 4 access  -- AccessFlags
      ∷ num 80 8 0  -- CurrentByteOffset
      ∷ num 88 4 0  -- Mode
      ∷ num 92 4 0  -- AlignmentRequirement
      ∷ num 96 4 (length (92 ∷ 0 ∷ e.name))  -- FileNameLength
      ∷ [];
  name = 92 ∷ 0 ∷ e.name;
}
-- FileNetworkOpenInformation, class 34
file_information_of FileNetworkOpen e access = record {
  fields =
      num 0 8 e.basic.creation_time  -- CreationTime
      ∷ num 8 8 e.basic.last_access_time  -- LastAccessTime
      ∷ num 16 8 e.basic.last_write_time  -- LastWriteTime
      ∷ num 24 8 e.basic.change_time  -- ChangeTime
      ∷ num 32 8 (allocation_size e.size)  -- AllocationSize
      ∷ num 40 8 e.size  -- EndOfFile
      ∷ num 48 4 (shown_attributes e.kind e.basic.attributes.0)  -- FileAttributes
      ∷ num 52 4 0  -- Reserved
      ∷ [];
  name = [];
}
-- FileAttributeTagInformation, class 35
file_information_of FileAttributeTag e access = record {
  fields =
      num 0 4 (shown_attributes e.kind e.basic.attributes.0)  -- FileAttributes
      ∷ num 4 4 0  -- ReparseTag
      ∷ [];
  name = [];
}

-- what the class of a number tells, if there is one
abbrev pub file_information : ℕ → Copied → ℕ → Option Information
file_information number e access = option_map (λ class. file_information_of class e access) (file_class number)
