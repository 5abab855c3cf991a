-- Entries: files and folders, and the space that they use.
use Rattle.std.specs.Prelude.{ℕ, ◌+◌, ◌-◌, ◌*◌, ◌/◌, List, [], length, slice_index_or, Bool, true, false, Option, None, Some, bit_and, bit_or, ◌==◌, if◌then◌else◌}
use Rattle.smb_wire.specs.Attributes.{FILE_ATTRIBUTE_DIRECTORY, FILE_ATTRIBUTE_NORMAL}
use Rattle.smb_tree.specs.declared.entry.Basic.{Basic}
use Rattle.smb_tree.specs.declared.entry.Kind.{Kind}
use Rattle.smb_tree.specs.declared.entry.Kind.TheVariants.{File, Folder}

-- an entry: its number, file or folder, the units that spell it, a file's bytes, its times and attributes
-- ([MS-FSCC] 2.4.7), and whether it goes once its last open is closed
pub record Entry : Type 0 where
  pub number : ℕ
  pub kind : Kind
  pub spelling : List ℕ
  pub bytes : List ℕ
  pub basic : Basic
  pub mark : Bool

abbrev pub is_folder_kind : Kind → Bool
is_folder_kind File = false
is_folder_kind Folder = true

-- whether there is an entry, and it is a folder
abbrev pub is_folder : Option Entry → Bool
is_folder None = false
is_folder (Some entry) = is_folder_kind entry.kind

-- READONLY 1, HIDDEN 2, SYSTEM 4 and ARCHIVE 0x20 are kept, other attributes dropped ([MS-FSCC] 2.6)
abbrev pub kept_attributes : ℕ → ℕ
kept_attributes attributes = bit_and attributes 0x27

-- the attributes that are shown: of a folder FILE_ATTRIBUTE_DIRECTORY besides the kept ones, of a file that keeps none
-- FILE_ATTRIBUTE_NORMAL ([MS-FSCC] 2.6)
abbrev pub shown_attributes : Kind → ℕ → ℕ
shown_attributes Folder attributes = bit_or attributes FILE_ATTRIBUTE_DIRECTORY
shown_attributes File attributes = if attributes == 0 then FILE_ATTRIBUTE_NORMAL else attributes

-- times and attributes as they are kept
abbrev pub kept_basic : Basic → Basic
kept_basic basic = record basic { attributes = record { 0 = kept_attributes basic.attributes.0 } }

-- the last component of a path; the root has none
abbrev pub last_part : List (List ℕ) → List ℕ
last_part parts = slice_index_or parts (length parts - 1) []

-- an entry as it is added: spelled as the path's last component, with no bytes and no mark; its four times are this
-- moment, and of these attributes it has those that are kept
abbrev pub new_entry : ℕ → List (List ℕ) → Kind → ℕ → ℕ → Entry
new_entry number parts kind attributes moment = record {
  number = number;
  kind = kind;
  spelling = last_part parts;
  bytes = [];
  basic = record {
    creation_time = moment;
    last_access_time = moment;
    last_write_time = moment;
    change_time = moment;
    attributes = record { 0 = kept_attributes attributes };
  };
  mark = false;
}

-- the space that so many bytes take: whole clusters of 4,096 bytes ([MS-FSCC] 2.4.4, AllocationSize)
abbrev pub allocation_size : ℕ → ℕ
allocation_size size = (size + 4095) / 4096 * 4096
