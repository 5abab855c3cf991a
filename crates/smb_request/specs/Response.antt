-- The response to a request, and what the request leaves.
use Rattle.std.specs.Prelude.{ℕ, List, Option, Some, None, is_some, if◌then◌else◌}
use Rattle.std.specs.Option.{option_map_or}
use Rattle.smb_body.specs.Replies.{ReplyValue, answers_error, reply_spelling}
use Rattle.smb_wire.specs.declared.dialect.Dialect.{Dialect}
use Rattle.smb_wire.specs.declared.nt_status.NtStatus.{NtStatus}
use Rattle.smb_request.specs.declared.context.HeaderIds.{HeaderIds}
use Rattle.smb_request.specs.declared.context.Context.{Context}
use Rattle.smb_refusals.specs.declared.refusal.Refusal.{Refusal}
use Rattle.smb_refusals.specs.Refusals.{refusal_status}
use Rattle.smb_request.specs.State.{ServerState}
use Rattle.smb_opens.specs.State.{StoreState}
use Rattle.smb_opens.specs.Views.{open_view}
use Rattle.smb_refusals.specs.declared.request.RequestRefusal.TheVariants.{UnknownOpen}

-- a response: its status, by which row its request was refused, its SessionId and TreeId, and its body
pub record ResponseState : Type 0 where
  pub status : NtStatus
  pub refusal : Option Refusal
  pub ids : HeaderIds
  pub body : List ℕ

-- what a command leaves of the server, and its response
pub record CommandStep (S : Type 0) : Type 0 where
  pub server : ServerState S
  pub response : ResponseState

-- what a request leaves, and its response; a CANCEL has none
pub record Performed (S : Type 0) : Type 0 where
  pub server : ServerState S
  pub dialect : Option Dialect
  pub context : Context
  pub response : Option ResponseState

-- the response of a status and a body under a session and a tree connect
abbrev pub with_body : HeaderIds → NtStatus → ReplyValue → ResponseState
with_body ids status reply = record { status = status; refusal = None; ids = ids; body = reply_spelling reply }

-- the response to a request that is refused by a row: its status is the row's, and it has the error body, whatever its
-- command (2.2.2)
abbrev pub failure : HeaderIds → Refusal → ResponseState
failure ids refusal = record {
  status = refusal_status refusal;
  refusal = Some refusal;
  ids = ids;
  body = reply_spelling answers_error;
}

-- a request that is refused changes nothing
abbrev pub refused : {S : Type 0} → ServerState S → HeaderIds → Refusal → CommandStep S
refused server ids refusal = record { server = server; response = failure ids refusal }

-- why what is asked through the open of a number is refused: where no such open exists as P8 has it (3.3.5.10), else by
-- a row of its table
abbrev pub through_open : StoreState → ℕ → Option Refusal → Option Refusal
through_open store number refusal =
    if is_some (open_view store number) then refusal else Some (Refusal.Request UnknownOpen)

-- a request that a row refuses, or else what is done
abbrev pub unless_refused : {S : Type 0} → ServerState S → HeaderIds → Option Refusal → CommandStep S → CommandStep S
unless_refused server ids refusal done = option_map_or (refused server ids) refusal done
