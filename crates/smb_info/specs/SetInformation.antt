-- What a SET_INFO asks, as its buffer says it ([MS-FSCC] 2.4). A row is a value: the width and the offset of its field.
use Rattle.std.specs.Prelude.{ℕ, ◌+◌, ◌%◌, List, length, take, drop, Bool, true, not, nat_lt, nat_le, ◌==◌, ◌&&◌, if◌then◌else◌, Option, None, Some}
use Rattle.std.specs.Option.{option_map}
use Rattle.smb_wire.specs.Fields.{number_in}
use Rattle.smb_wire.specs.Pairs.{units_in}
use Rattle.smb_info.specs.declared.fault.InfoFault.{InfoFault}
use Rattle.smb_info.specs.declared.fault.InfoFault.TheVariants.{BadClass, TooSmall, Unreadable}
use Rattle.smb_entry.specs.declared.ask.BasicAsk.{BasicAsk}
use Rattle.smb_info.specs.declared.set_info.SetInformationClass.{SetInformationClass}
use Rattle.smb_info.specs.declared.set_info.SetInformationClass.TheVariants.{FileBasic, FileRename, FileDisposition, FileAllocation, FileEndOfFile}

-- the classes that can be set, by their numbers
abbrev pub set_class : ℕ → Option SetInformationClass
set_class number =
    if number == 4 then Some FileBasic else
    if number == 10 then Some FileRename else
    if number == 13 then Some FileDisposition else
    if number == 19 then Some FileAllocation else
    if number == 20 then Some FileEndOfFile else None

-- how many bytes the fixed part has
abbrev pub set_length : SetInformationClass → ℕ
set_length FileBasic = 40
set_length FileRename = 20
set_length FileDisposition = 1
set_length FileAllocation = 8
set_length FileEndOfFile = 8

-- what is asked: times and attributes; a name, and whether what stands there is replaced; that the entry goes once
-- its last open is closed; how much space it takes; its size
pub data SetAsked : Type 0 where
  asks_basic : BasicAsk → SetAsked
  asks_rename : Bool → List ℕ → SetAsked
  asks_mark : Bool → SetAsked
  asks_allocation : ℕ → SetAsked
  asks_end : ℕ → SetAsked

-- what the buffer of a class asks
abbrev pub asked_of : List ℕ → SetInformationClass → SetAsked
-- CreationTime, LastAccessTime, LastWriteTime, ChangeTime, FileAttributes; 4 bytes are reserved
asked_of bytes FileBasic = asks_basic (record {
  creation_time = number_in 8 0 bytes;
  last_access_time = number_in 8 8 bytes;
  last_write_time = number_in 8 16 bytes;
  change_time = number_in 8 24 bytes;
  attributes = record { 0 = number_in 4 32 bytes };
})
-- ReplaceIfExists: any number but 0 is yes; FileNameLength, in bytes, and FileName
asked_of bytes FileRename =
    asks_rename (not (number_in 1 0 bytes == 0)) (units_in (take (number_in 4 16 bytes) (drop 20 bytes)))
-- DeletePending: any number but 0 is yes
asked_of bytes FileDisposition = asks_mark (not (number_in 1 0 bytes == 0))
asked_of bytes FileAllocation = asks_allocation (number_in 8 0 bytes)
asked_of bytes FileEndOfFile = asks_end (number_in 8 0 bytes)

-- what the buffer of the class of a number asks, if there is one
abbrev pub set_of : ℕ → List ℕ → Option SetAsked
set_of number bytes = option_map (asked_of bytes) (set_class number)

-- the buffer of a class says something, where it has the fixed part: a rename has to say a name, which counts from the
-- share's root (RootDirectory is 0), has units, whole ones, and ends within the buffer
abbrev pub is_readable : List ℕ → SetInformationClass → Bool
is_readable bytes FileRename =
    let name_length = number_in 4 16 bytes in
    (number_in 8 8 bytes == 0) && not (name_length == 0)
    && nat_le (20 + name_length) (length bytes) && (name_length % 2 == 0)
is_readable bytes _ = true

-- why nothing is asked: no class that can be set has the number, the fixed part is not whole, or a rename says no name
abbrev pub set_fault : ℕ → List ℕ → Option InfoFault
set_fault number bytes = elim (set_class number) as (λ it. Option InfoFault) [
  | None ↦ Some BadClass
  | Some class ↦
      if nat_lt (length bytes) (set_length class) then Some TooSmall else
      if is_readable bytes class then None else Some Unreadable
]
