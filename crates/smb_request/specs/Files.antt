-- CREATE and CLOSE ([MS-SMB2] 3.3.5.9, 3.3.5.10).
use Rattle.std.specs.Prelude.{◌==◌, bit_and, if◌then◌else◌}
use Rattle.std.specs.Option.{option_map, option_map_or}
use Rattle.smb_body.specs.declared.close.CloseFlags.{CloseFlags}
use Rattle.smb_body.specs.Create.{CreateAsked}
use Rattle.smb_body.specs.Replies.{answers_create, answers_close}
use Rattle.smb_access.specs.Asked.{FileAsked}
use Rattle.smb_opens.specs.Create.{create_refusal}
use Rattle.smb_opens.specs.Effect.{created, create_result}
use Rattle.smb_opens.specs.Views.{open_view}
use Rattle.smb_opens.specs.Close.{closed}
use Rattle.smb_wire.specs.declared.nt_status.NtStatus.TheVariants.{Success}
use Rattle.smb_request.specs.declared.call.Call.{Call}
use Rattle.smb_request.specs.State.{ServerState}
use Rattle.smb_request.specs.Response.{CommandStep, with_body, refused, unless_refused}
use Rattle.smb_refusals.specs.declared.refusal.Refusal.{Refusal}
use Rattle.smb_refusals.specs.declared.file.CloseRefusal.{CloseRefusal}
use Rattle.smb_request.specs.Session.{may_only_read}

-- CREATE (3.3.5.9), under a session, which may only read or write too, and a tree. Where it succeeds it is answered: no
-- oplock, what was done, the entry as it is afterwards, and as FileId the open's number twice (2.2.14)
unfoldable pub file_created : {S : Type 0} → ServerState S → Call → CreateAsked → CommandStep S
file_created server call asked =
    let ask : FileAsked = record {
      name = asked.name;
      access = asked.desired_access.0;
      attributes = asked.file_attributes.0;
      share = asked.share_access.0;
      disposition = asked.create_disposition.0;
      options = asked.create_options.0;
      session = call.ids.session_id;
      tree = call.ids.tree_id;
      read_only = may_only_read server call;
    } in
    let done = create_result server.store ask call.moment in
    unless_refused server call.ids (option_map (λ refusal. Refusal.Create refusal) (create_refusal server.store ask)) (record {
      server = record server { store = created server.store ask call.moment };
      response = with_body call.ids Success (answers_create (record {
        oplock_level = record { 0 = 0 };
        create_action = done.action;
        creation_time = done.view.creation_time;
        last_access_time = done.view.last_access_time;
        last_write_time = done.view.last_write_time;
        change_time = done.view.change_time;
        allocation_size = done.view.allocation_size;
        end_of_file = done.view.size;
        file_attributes = done.view.attributes;
        file_id = record { persistent = done.number; volatile = done.number };
      }));
    })

-- CLOSE (3.3.5.10) of the open of a number; where there is none it is refused. It is answered, with POSTQUERY_ATTRIB
-- (1) set, by what the open showed before, else by zeros (2.2.16)
unfoldable pub file_closed : {S : Type 0} → ServerState S → Call → CloseFlags → CommandStep S
file_closed server call flags = option_map_or
    (λ view. record {
      server = record server { store = closed server.store call.open_number };
      response = with_body call.ids Success (answers_close (if bit_and flags.0 1 == 0
          then record {
            flags = record { 0 = 0 };
            creation_time = 0;
            last_access_time = 0;
            last_write_time = 0;
            change_time = 0;
            allocation_size = 0;
            end_of_file = 0;
            file_attributes = record { 0 = 0 };
          }
          else record {
            flags = record { 0 = 1 };
            creation_time = view.creation_time;
            last_access_time = view.last_access_time;
            last_write_time = view.last_write_time;
            change_time = view.change_time;
            allocation_size = view.allocation_size;
            end_of_file = view.size;
            file_attributes = view.attributes;
          }));
    })
    (open_view server.store call.open_number)
    (refused server call.ids (Refusal.Close CloseRefusal.UnknownOpen))
