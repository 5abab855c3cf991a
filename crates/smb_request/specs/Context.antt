-- What one request of a chain hands on to the next ([MS-SMB2] 3.3.5.2.7.2).
use Rattle.std.specs.Prelude.{ℕ, ◌-◌, ◌^◌, ◌==◌, ◌&&◌, if◌then◌else◌, Option, None, Some, unwrap_or}
use Rattle.smb_wire.specs.declared.command.Command.{Command}
use Rattle.smb_wire.specs.declared.command.Command.TheVariants.{Create}
use Rattle.smb_wire.specs.declared.file_id.FileId.{FileId}
use Rattle.smb_request.specs.declared.context.Context.{Context}
use Rattle.smb_request.specs.declared.context.ContextOpen.{ContextOpen}
use Rattle.smb_request.specs.declared.context.ContextOpen.TheVariants.{Nothing, Named, Refused}
use Rattle.smb_wire.specs.declared.nt_status.NtStatus.{NtStatus}
use Rattle.smb_wire.specs.declared.nt_status.NtStatus.TheVariants.{Success}

-- a chain begins with no session, no tree connect and no open
abbrev pub first_context : Context
first_context = record { ids = record { session_id = 0; tree_id = 0 }; last_open = Nothing }

-- a request other than CREATE hands on the open of its FileId, whatever its status; without a FileId, or with one of
-- all ones, the open that it inherited
abbrev pub named_on : Option ContextOpen → Option FileId → ContextOpen
named_on inherited None = unwrap_or inherited Nothing
named_on inherited (Some id) =
    if id.persistent == 2 ^ 64 - 1 && id.volatile == 2 ^ 64 - 1 then unwrap_or inherited Nothing else Named id

-- the open that a FileId names: in a related request one of all ones names the inherited open
abbrev pub open_named : Option ContextOpen → FileId → ContextOpen
open_named None id = Named id
open_named (Some inherited) id = named_on (Some inherited) (Some id)

-- the open that a request hands on, by its command, its FileId and its status: a CREATE the open that it made, which
-- has the next number, or the status that refused it
abbrev pub open_for_next_related : Option ContextOpen → ℕ → Option Command → Option FileId → NtStatus → ContextOpen
open_for_next_related inherited next (Some Create) id Success = Named (record { persistent = next; volatile = next })
open_for_next_related inherited next (Some Create) id status = Refused status
open_for_next_related inherited next command id status = named_on inherited id
