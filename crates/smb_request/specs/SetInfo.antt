-- SET_INFO ([MS-SMB2] 3.3.5.21).
use Rattle.std.specs.Prelude.{◌==◌, ◌||◌, true, false, not, nat_lt, length, Option, Some, None, if◌then◌else◌}
use Rattle.std.specs.Option.{option_map, option_map_or}
use Rattle.smb_body.specs.SetInfo.{SetInfoAsked}
use Rattle.smb_body.specs.Replies.{answers_set_info}
use Rattle.smb_info.specs.declared.set_info.SetInformationClass.{SetInformationClass}
use Rattle.smb_info.specs.SetInformation.{asks_basic, asks_rename, asks_mark, asks_allocation, asks_end, set_class, set_length, is_readable, asked_of}
use Rattle.smb_opens.specs.Renames.{rename_refusal, renamed_through}
use Rattle.smb_opens.specs.SetInfo.{delete_refusal, delete_set_through, size_refusal, size_set_through, basic_refusal, basic_set_through}
use Rattle.smb_opens.specs.State.{StoreState}
use Rattle.smb_wire.specs.declared.nt_status.NtStatus.TheVariants.{Success}
use Rattle.smb_refusals.specs.declared.refusal.Refusal.{Refusal}
use Rattle.smb_refusals.specs.declared.set_info.SetInfoRefusal.TheVariants.{TypeNotSupported, UnknownType, UnknownClass, BufferTooShort, RenameSaysNoName}
use Rattle.smb_request.specs.declared.call.Call.{Call}
use Rattle.smb_request.specs.InfoTypes.{FILE, FILESYSTEM, SECURITY, QUOTA}
use Rattle.smb_request.specs.Response.{CommandStep, with_body, refused, through_open, unless_refused}
use Rattle.smb_request.specs.State.{ServerState}

-- SET_INFO (3.3.5.21): the first row that holds, or what is asked; a refusal changes nothing
unfoldable pub information_set : {S : Type 0} → ServerState S → Call → SetInfoAsked → CommandStep S
information_set server call asked =
    let info_type = asked.info_type.0 in
    option_map_or
    (λ refusal. refused server call.ids (Refusal.SetInfo refusal))
    -- SI1. the share as a file system, a security descriptor, or quotas (3.3.5.21.2 to 3.3.5.21.4)
    (if info_type == FILESYSTEM || info_type == SECURITY || info_type == QUOTA then Some TypeNotSupported else
    -- SI2. no InfoType (2.2.39)
    if not (info_type == FILE) then Some UnknownType else None)
    (option_map_or
    (λ (class : SetInformationClass).
    -- SI4. the buffer is shorter than the fixed part (3.3.5.21.1)
    if nat_lt (length asked.buffer) (set_length class) then refused server call.ids (Refusal.SetInfo BufferTooShort) else
    -- N1. a rename says no name ([MS-FSCC] 2.4.42)
    if not (is_readable asked.buffer class) then refused server call.ids (Refusal.SetInfo RenameSaysNoName) else
    -- the class as its buffer asks ([MS-FSCC] 2.4), of the entry of the open: why the store refuses it, and the store
    -- with it set (3.3.5.21.1)
    let ask = asked_of asked.buffer class in
    let refusal : Option Refusal = elim ask [
      | asks_basic it ↦ option_map (λ row. Refusal.SetBasic row) (basic_refusal server.store call.open_number it)
      | asks_rename replace name ↦
          option_map (λ row. Refusal.Rename row) (rename_refusal server.store call.open_number name replace)
      | asks_mark mark ↦ option_map (λ row. Refusal.SetDisposition row) (delete_refusal server.store call.open_number mark)
      | asks_allocation size ↦ option_map (λ row. Refusal.SetSize row) (size_refusal server.store call.open_number size)
      | asks_end size ↦ option_map (λ row. Refusal.SetSize row) (size_refusal server.store call.open_number size)
    ] in
    let store : StoreState = elim ask [
      | asks_basic it ↦ basic_set_through server.store call.open_number it call.moment
      | asks_rename replace name ↦ renamed_through server.store call.open_number name call.moment
      | asks_mark mark ↦ delete_set_through server.store call.open_number mark
      | asks_allocation size ↦ size_set_through server.store call.open_number size true call.moment
      | asks_end size ↦ size_set_through server.store call.open_number size false call.moment
    ] in
    unless_refused server call.ids (through_open server.store call.open_number refusal) (record {
      server = record server { store = store };
      response = with_body call.ids Success answers_set_info;
    }))
    (set_class asked.file_info_class.0)
    -- SI3. no class that can be set has the number (3.3.5.21.1)
    (refused server call.ids (Refusal.SetInfo UnknownClass)))
