-- Responses whose bodies stand behind what stood where they are sent from: what the code holds of the definitions' values.
use Rattle.std.specs.Prelude.{ℕ, List, ◌++◌, Option}
use Rattle.std.specs.Option.{option_map}
use Rattle.smb_wire.specs.declared.dialect.Dialect.{Dialect}
use Rattle.smb_wire.specs.declared.nt_status.NtStatus.{NtStatus}
use Rattle.smb_request.specs.declared.context.HeaderIds.{HeaderIds}
use Rattle.smb_request.specs.declared.context.Context.{Context}
use Rattle.smb_request.specs.declared.response.Answered.{Answered}
use Rattle.smb_refusals.specs.declared.refusal.Refusal.{Refusal}
use Rattle.smb_request.specs.State.{ServerState}
use Rattle.smb_request.specs.Response.{ResponseState, Performed}

-- a response, with all that stands where its body was added
pub record AnswerHeld : Type 0 where
  pub status : NtStatus
  pub refusal : Option Refusal
  pub ids : HeaderIds
  pub out : List ℕ

abbrev pub answer_held : Answered → List ℕ → AnswerHeld
answer_held answered out = record { status = answered.status; refusal = answered.refusal; ids = answered.ids; out = out }

-- a response behind a front
abbrev pub answer_behind : List ℕ → ResponseState → AnswerHeld
answer_behind front response = record { status = response.status; refusal = response.refusal; ids = response.ids; out = front ++ response.body }

-- a request's step, with its body behind a front
pub record PerformedHeld (S : Type 0) : Type 0 where
  pub server : ServerState S
  pub dialect : Option Dialect
  pub context : Context
  pub response : Option AnswerHeld

abbrev pub performed_behind : {S : Type 0} → List ℕ → Performed S → PerformedHeld S
performed_behind front step = record {
  server = step.server;
  dialect = step.dialect;
  context = step.context;
  response = option_map (answer_behind front) step.response;
}
