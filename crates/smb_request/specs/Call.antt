-- A request as it was read: what its header, the requests before it in its chain and its body say ([MS-SMB2] 3.3.5.2).
use Rattle.std.specs.Prelude.{ℕ, List, Option, Some, None, if◌then◌else◌}
use Rattle.std.specs.Option.{option_map, option_map_or, option_and_then}
use Rattle.smb_head.specs.Headers.{header_of}
use Rattle.smb_head.specs.Chains.{is_related}
use Rattle.smb_wire.specs.Commands.{code_of, known_command}
use Rattle.smb_wire.specs.declared.command.Command.{Command}
use Rattle.smb_wire.specs.declared.dialect.Dialect.{Dialect}
use Rattle.smb_body.specs.Requests.{RequestValue, file_id_of, request_of}
use Rattle.smb_request.specs.declared.call.Call.{Call}
use Rattle.smb_request.specs.declared.context.Context.{Context}
use Rattle.smb_request.specs.declared.context.HeaderIds.{HeaderIds}
use Rattle.smb_request.specs.declared.context.ContextOpen.TheVariants.{Nothing, Named, Refused}
use Rattle.smb_request.specs.Charge.{charge_of}
use Rattle.smb_request.specs.Context.{open_named}

-- what the body of a request of a command says; None where it says nothing, or the command is not known
abbrev pub body_of : Option Command → List ℕ → Option RequestValue
body_of command request = option_and_then (λ known. request_of (code_of known) request) command

-- the session and the tree connect that a request acts under: its own, or of a related one those of the request before
-- (3.3.5.2.7.2)
abbrev pub request_ids : Context → List ℕ → HeaderIds
request_ids context request =
    if is_related request then context.ids
    else record { session_id = (header_of request).session_id; tree_id = (header_of request).tree_id }

-- a request on a connection of a dialect at a moment, but for its body. One that is related inherits the open that the
-- request before it hands on (3.3.5.2.7.2). The open that a request names, by its FileId, has a number, and 0 is that of none
abbrev pub call_of : ℕ → ℕ → Option Dialect → Context → List ℕ → Call
call_of connection moment dialect context request =
    let command = known_command (header_of request).command.0 in
    let inherited = if is_related request then Some context.last_open else None in
    let body = option_and_then (λ known. request_of (code_of known) request) command in
    let file_id = option_and_then file_id_of body in
    record {
      connection = connection;
      moment = moment;
      dialect = dialect;
      charge = charge_of dialect (header_of request).credit_charge;
      command = command;
      ids = request_ids context request;
      inherited = inherited;
      file_id = file_id;
      open_number = option_map_or
          (λ named. elim named [ Nothing ↦ 0 | Named id ↦ id.persistent | Refused status ↦ 0 ])
          (option_map (open_named inherited) file_id)
          0;
    }
