-- What is answered of a share as a file system ([MS-FSCC] 2.5). A row is a field: its offset, its width, its value.
use Rattle.std.specs.Prelude.{ℕ, ◌-◌, ◌*◌, ◌/◌, List, [], ◌∷◌, length, Bool, nat_le, ◌==◌, ◌&&◌, if◌then◌else◌, Option, None, Some}
use Rattle.std.specs.Option.{option_map}
use Rattle.std.specs.List.{list_all}
use Rattle.smb_wire.specs.Fields.{num}
use Rattle.smb_wire.specs.Pairs.{unit_bytes}
use Rattle.smb_info.specs.Information.{Information}
use Rattle.smb_info.specs.declared.file_system_class.FileSystemInformationClass.{FileSystemInformationClass}
use Rattle.smb_info.specs.declared.file_system_class.FileSystemInformationClass.TheVariants.{FileFsVolume, FileFsSize, FileFsDevice, FileFsAttribute, FileFsFullSize}

-- a volume: when it was created in units of 100 ns since 1601, the characters of its label, and how many bytes of
-- space there are and are used
pub record VolumeFacts : Type 0 where
  pub created : ℕ
  pub label : List ℕ
  pub capacity : ℕ
  pub used : ℕ

-- a label: up to 32 characters from 0x20 to 0x7E
abbrev pub is_volume_label : List ℕ → Bool
is_volume_label label = nat_le (length label) 32 && list_all (λ character. nat_le 0x20 character && nat_le character 0x7E) label

-- the classes that can be asked for, by their numbers
abbrev pub fs_class : ℕ → Option FileSystemInformationClass
fs_class number =
    if number == 1 then Some FileFsVolume else
    if number == 3 then Some FileFsSize else
    if number == 4 then Some FileFsDevice else
    if number == 5 then Some FileFsAttribute else
    if number == 7 then Some FileFsFullSize else None

-- what a class tells of a volume (2.5): its fields, and the text behind them; an allocation unit is 8 sectors of 512
-- bytes
abbrev pub fs_information_of : FileSystemInformationClass → VolumeFacts → Information
-- FileFsVolumeInformation, class 1; the label follows
fs_information_of FileFsVolume v = record {
  fields =
      num 0 8 v.created  -- VolumeCreationTime
      ∷ num 8 4 1  -- VolumeSerialNumber
      ∷ num 12 4 (2 * length v.label)  -- VolumeLabelLength
      ∷ num 16 1 0  -- SupportsObjects
      ∷ num 17 1 0  -- Reserved
      ∷ [];
  name = unit_bytes v.label;
}
-- FileFsSizeInformation, class 3
fs_information_of FileFsSize v = record {
  fields =
      num 0 8 (v.capacity / 4096)  -- TotalAllocationUnits
      ∷ num 8 8 ((v.capacity - v.used) / 4096)  -- AvailableAllocationUnits
      ∷ num 16 4 8  -- SectorsPerAllocationUnit
      ∷ num 20 4 512  -- BytesPerSector
      ∷ [];
  name = [];
}
-- FileFsDeviceInformation, class 4: a disk, which is mounted
fs_information_of FileFsDevice v = record {
  fields =
      num 0 4 7  -- DeviceType
      ∷ num 4 4 0x20  -- Characteristics
      ∷ [];
  name = [];
}
-- FileFsAttributeInformation, class 5: names keep their case 2 and are Unicode 4; the name MEMFS follows
fs_information_of FileFsAttribute v = record {
  fields =
      num 0 4 6  -- FileSystemAttributes
      ∷ num 4 4 255  -- MaximumComponentNameLength
      ∷ num 8 4 10  -- FileSystemNameLength
      ∷ [];
  name = unit_bytes (77 ∷ 69 ∷ 77 ∷ 70 ∷ 83 ∷ []);
}
-- FileFsFullSizeInformation, class 7
fs_information_of FileFsFullSize v = record {
  fields =
      num 0 8 (v.capacity / 4096)  -- TotalAllocationUnits
      ∷ num 8 8 ((v.capacity - v.used) / 4096)  -- CallerAvailableAllocationUnits
      ∷ num 16 8 ((v.capacity - v.used) / 4096)  -- ActualAvailableAllocationUnits
      ∷ num 24 4 8  -- SectorsPerAllocationUnit
      ∷ num 28 4 512  -- BytesPerSector
      ∷ [];
  name = [];
}

-- what the class of a number tells, if there is one
abbrev pub fs_information : ℕ → VolumeFacts → Option Information
fs_information number v = option_map (λ class. fs_information_of class v) (fs_class number)
