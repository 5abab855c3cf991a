-- For the proofs; nothing here need be believed.
-- Tables and steps by names that the code and the proofs speak of.
use Rattle.std.specs.Prelude.{ℕ, ◌*◌, List, [], ◌∷◌, length, ◌+◌, ◌-◌, ◌++◌, ◌/◌, ◌%◌, take, drop, replicate, Bool, not, nat_le, ◌==◌, ◌&&◌, ◌||◌, if◌then◌else◌, nat_lt, Option, None, Some}
use Rattle.smb_wire.specs.Fields.{Field, num, raw, number_in, joined, width_of}
use Rattle.smb_info.specs.Information.{Information}
use Rattle.smb_info.specs.declared.written.Truncation.{Truncation}
use Rattle.smb_info.specs.declared.written.Truncation.TheVariants.{Whole, Cut}
use Rattle.smb_info.specs.FileSystemInformation.{VolumeFacts}
use Rattle.smb_tree.specs.Content.{Row}
use Rattle.smb_tree.specs.WholeNames.{Copied}
use Rattle.smb_tree.specs.Views.{Shown}
use Rattle.smb_tree.specs.Entries.{is_folder_kind, allocation_size, shown_attributes}
use Rattle.smb_info.specs.FileInformation.{basic_fields}
use Rattle.smb_info.specs.Candidates.{Candidate}
use Rattle.smb_info.specs.DirectoryInformation.{both_directory_fields, full_directory_fields, directory_length, fields_of, laid}
use Rattle.smb_wire.specs.Pairs.{units_in, unit_bytes}
use Rattle.smb_entry.specs.declared.ask.BasicAsk.{BasicAsk}
use Rattle.smb_wire.specs.Access.{has_any}
use Rattle.smb_wire.specs.QueryDirectoryFlags.{RESTART_SCANS, RETURN_SINGLE_ENTRY, REOPEN}
use Rattle.smb_access.specs.declared.scan.Scan.{Scan}
use Rattle.smb_access.specs.declared.scan.ScanLast.{ScanLast}
use Rattle.smb_info.specs.declared.fault.InfoFault.{InfoFault}
use Rattle.smb_info.specs.declared.fault.InfoFault.TheVariants.{BadClass, BadPattern, TooSmall, NoMatch, NoMore}
use Rattle.smb_info.specs.Queries.{ListAsked, is_started_by, pattern_by, scan_by}
use Rattle.smb_info.specs.declared.directory_class.DirectoryInformationClass.{DirectoryInformationClass}
use Rattle.smb_info.specs.declared.scan.Search.{Search}
use Rattle.smb_info.specs.Listing.{matching, fitting}

-- an entry as a candidate; where there is no entry, none
abbrev pub listed_as : ScanLast → List ℕ → Option Shown → List Candidate
listed_as behind name None = []
listed_as behind name (Some entry) = record { behind = behind; name = name; entry = entry } ∷ []

-- how many bytes the fixed part has
abbrev pub fixed_length : Information → ℕ
fixed_length info = width_of info.fields

-- the whole spelling
abbrev pub whole : Information → List ℕ
whole info = joined info.fields ++ info.name

-- so many bytes, where there is so much room
abbrev pub written_of : ℕ → ℕ → Truncation
written_of room size = if nat_le size room then Whole else Cut

-- an allocation unit is 8 sectors of 512 bytes
abbrev pub total_units : VolumeFacts → ℕ
total_units v = v.capacity / 4096

abbrev pub available_units : VolumeFacts → ℕ
available_units v = (v.capacity - v.used) / 4096

-- the attributes that are shown of an entry
abbrev pub attributes_of : Copied → ℕ
attributes_of e = shown_attributes e.kind e.basic.attributes.0

-- a yes is 1, a no 0
abbrev pub flag : Bool → ℕ
flag b = if b then 1 else 0

-- FileStandardInformation, class 5
abbrev pub standard_fields : Copied → List Field
standard_fields e =
    num 0 8 (allocation_size e.size)  -- AllocationSize
    ∷ num 8 8 e.size  -- EndOfFile
    ∷ num 16 4 1  -- NumberOfLinks
    ∷ num 20 1 (flag e.mark)  -- DeletePending
    ∷ num 21 1 (flag (is_folder_kind e.kind))  -- Directory
    ∷ num 22 2 0  -- Reserved
    ∷ []

-- FileInternalInformation, class 6
abbrev pub internal_fields : Copied → List Field
internal_fields e =
    num 0 8 e.number  -- IndexNumber
    ∷ []

-- FileEaInformation, class 7: there are no extended attributes
abbrev pub ea_fields : List Field
ea_fields =
    num 0 4 0  -- EaSize
    ∷ []

-- FileAccessInformation, class 8
abbrev pub access_fields : ℕ → List Field
access_fields access =
    num 0 4 access  -- AccessFlags
    ∷ []

-- FilePositionInformation, class 14: an open has no place of its own
abbrev pub position_fields : List Field
position_fields =
    num 0 8 0  -- CurrentByteOffset
    ∷ []

-- FileModeInformation, class 16
abbrev pub mode_fields : List Field
mode_fields =
    num 0 4 0  -- Mode
    ∷ []

-- FileAlignmentInformation, class 17: a buffer may begin anywhere
abbrev pub alignment_fields : List Field
alignment_fields =
    num 0 4 0  -- AlignmentRequirement
    ∷ []

-- fields that begin so many bytes further on
abbrev pub further : ℕ → List Field → List Field
further n [] = []
further n (num place w value ∷ fields) = num (n + place) w value ∷ further n fields
further n (raw place w text ∷ fields) = raw (n + place) w text ∷ further n fields

-- the name of an entry from the root of the share on: a separator, two bytes, and the components of its path
abbrev pub full_name : Copied → List ℕ
full_name e = 92 ∷ 0 ∷ e.name

-- what a class tells of an entry: its fields, and behind them the name as it is spelled
abbrev pub directory_information_of : DirectoryInformationClass → ℕ → Candidate → Information
directory_information_of class next c = record { fields = fields_of class next c; name = unit_bytes c.name }

-- how many bytes that is
abbrev pub entry_length : DirectoryInformationClass → List ℕ → ℕ
entry_length class name = directory_length class + 2 * length name

-- how far behind the beginning of an entry the next one begins: its length, rounded up to a multiple of 8
abbrev pub distance : DirectoryInformationClass → List ℕ → ℕ
distance class name = (entry_length class name + 7) / 8 * 8

-- an entry that another one follows, with zeros up to that
abbrev pub followed : DirectoryInformationClass → Candidate → List ℕ
followed class c =
    whole (directory_information_of class (distance class c.name) c)
    ++ replicate (distance class c.name - entry_length class c.name) 0

-- what is sought in a directory: the number of its entry, the pattern of the names, behind which entry the scan goes on,
-- whether at most one entry is wanted, and how many bytes there may be at most
pub record Sought : Type 0 where
  pub folder : ℕ
  pub pattern : List ℕ
  pub last : ScanLast
  pub single : Bool
  pub room : ℕ

-- at most one, where one is wanted
abbrev pub at_most_one : Bool → List Candidate → List Candidate
at_most_one single cs = if single then take 1 cs else cs

-- what is wanted
abbrev pub wanted : List Row → Sought → List Candidate
wanted rows sought = at_most_one sought.single (matching rows sought.folder sought.pattern sought.last)

-- the entries that are given: the longest front of what is wanted that is laid in the room
abbrev pub given : List Row → DirectoryInformationClass → Sought → List Candidate
given rows class sought = fitting class sought.room (wanted rows sought) (length (wanted rows sought))

-- how far a scan is that has given these; where it gave none, as far as it was
abbrev pub reached : ScanLast → List Candidate → ScanLast
reached last [] = last
reached last (c ∷ cs) = reached c.behind cs

-- what is sought, without where its pattern lies in memory
abbrev pub sought : Search → Sought
sought search = record {
  folder = search.folder;
  pattern = search.pattern.now;
  last = search.last;
  single = search.single;
  room = search.room;
}

-- what it seeks in a directory; RETURN_SINGLE_ENTRY asks for one entry at most (2.2.33)
abbrev pub sought_by : ℕ → Scan → ListAsked → Sought
sought_by folder scan ask = record {
  folder = folder;
  pattern = pattern_by scan ask;
  last = (scan_by scan ask).last;
  single = has_any ask.flags RETURN_SINGLE_ENTRY;
  room = ask.room;
}

module _ (rows : List Row) (folder : ℕ) (scan : Scan) (ask : ListAsked) where
  -- why nothing is listed of what is wanted: no name is matched, which is NO_SUCH_FILE where the query starts the scan,
  -- and the scan is kept, and else NO_MORE_FILES; or the first entry does not fit whole, though it is the only one
  abbrev pub first_fault : DirectoryInformationClass → List Candidate → Option InfoFault
  first_fault class [] = Some (if is_started_by scan ask then NoMatch (scan_by scan ask) else NoMore)
  first_fault class (c ∷ cs) = if nat_lt ask.room (length (laid class (c ∷ []))) then Some TooSmall else None

  -- why nothing is listed by a class: the pattern has over 255 units, there is no room for the fixed part, or as above
  abbrev pub class_fault : DirectoryInformationClass → Option InfoFault
  class_fault class =
      if nat_lt 255 (length ask.pattern) then Some BadPattern else
      if nat_lt ask.room (directory_length class) then Some TooSmall else
      first_fault class (wanted rows (sought_by folder scan ask))

  -- why nothing is listed, by the class that has the number: there is none, or as above
  abbrev pub fault_by : Option DirectoryInformationClass → Option InfoFault
  fault_by None = Some BadClass
  fault_by (Some class) = class_fault class

  -- the entries that are listed, by the class that has the number: as many as fit
  abbrev pub listed_by : Option DirectoryInformationClass → List Candidate
  listed_by None = []
  listed_by (Some class) = given rows class (sought_by folder scan ask)

  -- their bytes, by the class that has the number
  abbrev pub bytes_by : Option DirectoryInformationClass → List ℕ
  bytes_by None = []
  bytes_by (Some class) = laid class (given rows class (sought_by folder scan ask))

-- FileNameLength of a rename, in bytes
abbrev pub name_length : List ℕ → ℕ
name_length = number_in 4 16

-- FileFsVolumeInformation, class 1; the label follows
abbrev pub volume_fields : VolumeFacts → List Field
volume_fields v =
    num 0 8 v.created  -- VolumeCreationTime
    ∷ num 8 4 1  -- VolumeSerialNumber
    ∷ num 12 4 (2 * length v.label)  -- VolumeLabelLength
    ∷ num 16 1 0  -- SupportsObjects
    ∷ num 17 1 0  -- Reserved
    ∷ []

-- FileFsSizeInformation, class 3
abbrev pub size_fields : VolumeFacts → List Field
size_fields v =
    num 0 8 (total_units v)  -- TotalAllocationUnits
    ∷ num 8 8 (available_units v)  -- AvailableAllocationUnits
    ∷ num 16 4 8  -- SectorsPerAllocationUnit
    ∷ num 20 4 512  -- BytesPerSector
    ∷ []

-- FileFsDeviceInformation, class 4: a disk, which is mounted
abbrev pub device_fields : List Field
device_fields =
    num 0 4 7  -- DeviceType
    ∷ num 4 4 0x20  -- Characteristics
    ∷ []

-- FileFsAttributeInformation, class 5: names keep their case 2 and are Unicode 4; the name follows
abbrev pub attribute_fields : List Field
attribute_fields =
    num 0 4 6  -- FileSystemAttributes
    ∷ num 4 4 255  -- MaximumComponentNameLength
    ∷ num 8 4 10  -- FileSystemNameLength
    ∷ []

-- FileFsFullSizeInformation, class 7
abbrev pub full_size_fields : VolumeFacts → List Field
full_size_fields v =
    num 0 8 (total_units v)  -- TotalAllocationUnits
    ∷ num 8 8 (available_units v)  -- CallerAvailableAllocationUnits
    ∷ num 16 8 (available_units v)  -- ActualAvailableAllocationUnits
    ∷ num 24 4 8  -- SectorsPerAllocationUnit
    ∷ num 28 4 512  -- BytesPerSector
    ∷ []

-- MEMFS
abbrev pub file_system_name : List ℕ
file_system_name = 77 ∷ 69 ∷ 77 ∷ 70 ∷ 83 ∷ []

-- FileAttributeTagInformation, class 35
abbrev pub attribute_tag_fields : Copied → List Field
attribute_tag_fields e =
    num 0 4 (attributes_of e)  -- FileAttributes
    ∷ num 4 4 0  -- ReparseTag
    ∷ []

-- FileNetworkOpenInformation, class 34
abbrev pub network_open_fields : Copied → List Field
network_open_fields e =
    num 0 8 e.basic.creation_time  -- CreationTime
    ∷ num 8 8 e.basic.last_access_time  -- LastAccessTime
    ∷ num 16 8 e.basic.last_write_time  -- LastWriteTime
    ∷ num 24 8 e.basic.change_time  -- ChangeTime
    ∷ num 32 8 (allocation_size e.size)  -- AllocationSize
    ∷ num 40 8 e.size  -- EndOfFile
    ∷ num 48 4 (attributes_of e)  -- FileAttributes
    ∷ num 52 4 0  -- Reserved
    ∷ []

-- the classes before it, one behind the other, and FileNameLength; the name follows
abbrev pub all_fields : Copied → ℕ → List Field
all_fields e access =
    basic_fields e ++ (further 40 (standard_fields e) ++ (further 64 (internal_fields e) ++ (further 72 ea_fields
    ++ (further 76 (access_fields access) ++ (further 80 position_fields ++ (further 88 mode_fields
    ++ (further 92 alignment_fields ++ num 96 4 (length (full_name e)) ∷ [])))))))

-- FileNamesInformation, class 12 (2.4.28)
abbrev pub names_fields : ℕ → Candidate → List Field
names_fields next c =
    num 0 4 next  -- NextEntryOffset
    ∷ num 4 4 0  -- FileIndex
    ∷ num 8 4 (2 * length c.name)  -- FileNameLength
    ∷ []

-- FileIdBothDirectoryInformation, class 37 (2.4.17)
abbrev pub id_both_directory_fields : ℕ → Candidate → List Field
id_both_directory_fields next c =
    both_directory_fields next c
    ++ num 94 2 0  -- Reserved2
    ∷ num 96 8 c.entry.number  -- FileId
    ∷ []

-- FileIdFullDirectoryInformation, class 38 (2.4.18)
abbrev pub id_full_directory_fields : ℕ → Candidate → List Field
id_full_directory_fields next c =
    full_directory_fields next c
    ++ num 68 4 0  -- Reserved
    ∷ num 72 8 c.entry.number  -- FileId
    ∷ []

-- the next multiple of 8, or the number itself where it is one
abbrev pub rounded_up : ℕ → ℕ
rounded_up n = (n + 7) / 8 * 8

-- CreationTime, LastAccessTime, LastWriteTime, ChangeTime, FileAttributes; 4 bytes are reserved
abbrev pub basic_of : List ℕ → BasicAsk
basic_of bytes = record {
  creation_time = number_in 8 0 bytes;
  last_access_time = number_in 8 8 bytes;
  last_write_time = number_in 8 16 bytes;
  change_time = number_in 8 24 bytes;
  attributes = record { 0 = number_in 4 32 bytes };
}

-- ReplaceIfExists and DeletePending: any number but 0 is yes
abbrev pub is_yes : List ℕ → Bool
is_yes bytes = not (number_in 1 0 bytes == 0)

-- RootDirectory of a rename
abbrev pub root_directory : List ℕ → ℕ
root_directory = number_in 8 8

-- a rename says a name: it counts from the share's root, has units, whole ones, and ends within the buffer
abbrev pub is_rename : List ℕ → Bool
is_rename bytes =
    (root_directory bytes == 0) && not (name_length bytes == 0)
    && nat_le (20 + name_length bytes) (length bytes) && (name_length bytes % 2 == 0)

-- the name of a rename
abbrev pub rename_of : List ℕ → List ℕ
rename_of bytes = units_in (take (name_length bytes) (drop 20 bytes))

-- the scan is to start anew (2.2.33)
abbrev pub restarts : ListAsked → Bool
restarts ask = has_any ask.flags RESTART_SCANS || has_any ask.flags REOPEN

-- at most one entry is wanted (2.2.33)
abbrev pub wants_one : ListAsked → Bool
wants_one ask = has_any ask.flags RETURN_SINGLE_ENTRY

-- why nothing is listed where no name is matched: NO_SUCH_FILE where the query starts the scan, which then stands; else
-- NO_MORE_FILES
abbrev pub unmatched_fault : Scan → ListAsked → InfoFault
unmatched_fault scan ask = if is_started_by scan ask then NoMatch (scan_by scan ask) else NoMore

-- the longest front of the candidates that is laid in the room
abbrev pub longest_front : DirectoryInformationClass → ℕ → List Candidate → List Candidate
longest_front class room cs = fitting class room cs (length cs)

-- an entry does not fit whole, though it stands alone
abbrev pub is_too_long : DirectoryInformationClass → ℕ → Candidate → Bool
is_too_long class room c = nat_lt room (length (laid class (c ∷ [])))
