-- READ and WRITE ([MS-SMB2] 3.3.5.12, 3.3.5.13).
use Rattle.std.specs.Prelude.{length}
use Rattle.std.specs.Option.{option_map}
use Rattle.smb_wire.specs.Limits.{most_at_once}
use Rattle.smb_body.specs.declared.read.ReadRequest.{ReadRequest}
use Rattle.smb_body.specs.Write.{WriteAsked}
use Rattle.smb_body.specs.Replies.{answers_read, answers_write}
use Rattle.smb_wire.specs.declared.nt_status.NtStatus.TheVariants.{Success}
use Rattle.smb_opens.specs.Bytes.{read_refusal, file_bytes, write_refusal, written_to}
use Rattle.smb_request.specs.declared.call.Call.{Call}
use Rattle.smb_request.specs.State.{ServerState}
use Rattle.smb_request.specs.Response.{CommandStep, with_body, through_open, unless_refused}
use Rattle.smb_refusals.specs.declared.refusal.Refusal.{Refusal}

-- READ (3.3.5.12) through the open that the request names: it is answered by the bytes of its file, from its Offset on, at
-- most its Length; all else about a READ is in `read_refusals`
unfoldable pub file_read : {S : Type 0} → ServerState S → Call → ReadRequest → CommandStep S
file_read server call asked = unless_refused server call.ids
    (through_open server.store call.open_number (option_map
    (λ refusal. Refusal.Read refusal)
    (read_refusal server.store (most_at_once call.dialect) call.open_number asked.offset asked.length asked.minimum_count)))
    (record {
      server = server;
      response = with_body call.ids Success
          (answers_read (file_bytes server.store call.open_number asked.offset asked.length));
    })

-- WRITE (3.3.5.13) through the open that the request names: it is answered by how many bytes were written
unfoldable pub file_written : {S : Type 0} → ServerState S → Call → WriteAsked → CommandStep S
file_written server call asked = unless_refused server call.ids
    (through_open server.store call.open_number (option_map
    (λ refusal. Refusal.Write refusal)
    (write_refusal server.store (most_at_once call.dialect) call.open_number asked.offset asked.buffer)))
    (record {
      server = record server { store = written_to server.store call.open_number asked.offset asked.buffer call.moment };
      response = with_body call.ids Success (answers_write (record { count = length asked.buffer }));
    })
