-- QUERY_INFO ([MS-SMB2] 3.3.5.20).
use Rattle.std.specs.Prelude.{◌==◌, ◌||◌, not, nat_lt, Option, Some, None, option_and_then, if◌then◌else◌}
use Rattle.std.specs.Option.{option_map, option_map_or}
use Rattle.smb_wire.specs.Limits.{most_at_once}
use Rattle.smb_wire.specs.Fields.{width_of}
use Rattle.smb_tree.specs.Content.{used_space}
use Rattle.smb_tree.specs.WholeNames.{entry_copied}
use Rattle.smb_body.specs.declared.query_info.QueryInfoRequest.{QueryInfoRequest}
use Rattle.smb_body.specs.Replies.{answers_query_info}
use Rattle.smb_info.specs.declared.written.Truncation.TheVariants.{Whole, Cut}
use Rattle.smb_info.specs.Information.{Information, told, information_written}
use Rattle.smb_info.specs.FileInformation.{file_class, file_information_of}
use Rattle.smb_info.specs.FileSystemInformation.{VolumeFacts, fs_class, fs_information_of}
use Rattle.smb_access.specs.declared.open_row.OpenRow.{OpenRow}
use Rattle.smb_access.specs.Opens.{open_of}
use Rattle.smb_wire.specs.declared.nt_status.NtStatus.TheVariants.{Success, BufferOverflow}
use Rattle.smb_refusals.specs.declared.refusal.Refusal.{Refusal}
use Rattle.smb_refusals.specs.declared.query.QueryInfoRefusal.{QueryInfoRefusal}
use Rattle.smb_refusals.specs.declared.query.QueryInfoRefusal.TheVariants.{TypeNotSupported, UnknownType, LengthTooGreat, UnknownClass, NoRoomForFields}
use Rattle.smb_request.specs.declared.call.Call.{Call}
use Rattle.smb_request.specs.InfoTypes.{FILE, FILESYSTEM, SECURITY, QUOTA}
use Rattle.smb_request.specs.Response.{CommandStep, with_body, failure}
use Rattle.smb_request.specs.State.{ServerState}

-- QUERY_INFO (3.3.5.20): it changes nothing, and is answered by the first bytes of the information, as many as there is
-- room for (2.2.38). Where it is cut the status is BUFFER_OVERFLOW, which is no failure (3.3.4.4)
unfoldable pub information_queried : {S : Type 0} → ServerState S → Call → QueryInfoRequest → CommandStep S
information_queried server call asked =
    -- what a class says of the entry of the open, if there is such a class (3.3.5.20.1, [MS-FSCC] 2.4), or of the
    -- share as a volume (3.3.5.20.2, [MS-FSCC] 2.5)
    let information : Option Information =
    if asked.info_type.0 == FILE
    then option_and_then
    (λ (row : OpenRow). option_and_then
    (λ entry. option_map
    (λ class. file_information_of class entry row.access.0)
    (file_class asked.file_info_class.0))
    (entry_copied server.store.tree.rows row.entry))
    (open_of server.store.opens call.open_number)
    else
    let volume : VolumeFacts = record {
      created = server.settings.created;
      label = server.settings.label;
      capacity = server.store.tree.capacity;
      used = used_space server.store.tree.rows;
    } in
    option_map (λ class. fs_information_of class volume) (fs_class asked.file_info_class.0) in
    let room = asked.output_buffer_length in
    -- whatever information is asked for, the first row that holds
    let refusal : Option QueryInfoRefusal =
    -- QI1. a security descriptor, or quotas (3.3.5.20.3, 3.3.5.20.4)
    if asked.info_type.0 == SECURITY || asked.info_type.0 == QUOTA then Some TypeNotSupported else
    -- QI2. no InfoType (2.2.37)
    if not (asked.info_type.0 == FILE || asked.info_type.0 == FILESYSTEM) then Some UnknownType else
    -- QI3. room for more than MaxTransactSize (3.3.5.20)
    if nat_lt (most_at_once call.dialect) room then Some LengthTooGreat else None in
    record {
      server = server;
      response = option_map_or
          (λ refusal. failure call.ids (Refusal.QueryInfo refusal))
          refusal
          (option_map_or
          (λ refusal. failure call.ids (Refusal.QueryInfo refusal))
          -- QI4. there is no such class; QI5. no room for its fixed part ([MS-FSCC] 2.4, 2.5)
          (option_map_or
          (λ (known : Information). if nat_lt room (width_of known.fields) then Some NoRoomForFields else None)
          information
          (Some UnknownClass))
          (with_body
          call.ids
          (elim (information_written information room) [ Whole ↦ Success | Cut ↦ BufferOverflow ])
          (answers_query_info (told information room))));
    }
