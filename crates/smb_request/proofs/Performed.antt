-- One request as the code performs it: what its call and its body say.
use Rattle.std.proofs.Common.{◌≡◌, ◌≤◌, ℕ, true, false, if◌then◌else◌, List, Option, None, Some, refl, sym, subst, ap, ◌∙◌, arith}
use Rattle.std.specs.Option.{option_map_or}
use Rattle.smb_wire.specs.Commands.{code_of}
use Rattle.smb_wire.specs.declared.command.Command.{Command}
use Rattle.smb_wire.specs.declared.command.Command.TheVariants.{Ioctl, ChangeNotify, OplockBreak}
use Rattle.smb_wire.specs.declared.dialect.Dialect.{Dialect}
use Rattle.smb_wire.specs.declared.dialect.Dialect.TheVariants.{Smb202, Smb210}
use Rattle.smb_body.specs.Requests.{RequestValue, request_of}
use Rattle.smb_session.specs.Authenticator.{Meaning}
use Rattle.smb_request.specs.declared.call.Call.{Call}
use Rattle.smb_request.specs.declared.context.Context.{Context}
use Rattle.smb_request.specs.declared.response.NoReply.{NoReply}
use Rattle.smb_request.specs.declared.response.Response.{Response}
use Rattle.smb_request.specs.declared.response.Response.TheVariants.{Ready, Dialects, Token, Information, Bytes, Listing}
use Rattle.smb_request.specs.Bodies.{response_step, is_listing, IsStill, no_reply_of}
use Rattle.smb_head.specs.Headers.{header_of}
use Rattle.smb_request.specs.Charge.{charge_of}
use Rattle.smb_request.specs.Call.{body_of, call_of}
use Rattle.smb_request.specs.Context.{named_on, open_for_next_related}
use Rattle.smb_request.specs.Held.{is_performed, IsCallOf}
use Rattle.smb_request.specs.InPlace.{AnswerHeld, answer_behind, PerformedHeld, performed_behind}
use Rattle.smb_request.specs.Parts.{is_unsupported, is_cancel_command, dialect_after, performed_by}
use Rattle.smb_request.specs.Request.{verified}
use Rattle.smb_request.specs.Response.{Performed}
use Rattle.smb_request.specs.State.{ServerState}

-- a command that is not performed has no body
unread : (command : Command) (request : List ℕ) → is_unsupported command ≡ true → request_of (code_of command) request ≡ None
unfolding request_of
unread Ioctl request e = refl
unread ChangeNotify request e = refl
unread OplockBreak request e = refl
unread other request e = cc

unsupported_unread : (command : Option Command) (request : List ℕ) → option_map_or is_unsupported command false ≡ true → body_of command request ≡ None
unsupported_unread None request e = cc
unsupported_unread (Some command) request e = unread command request e

-- each request takes a MessageId
charge_some : (dialect : Option Dialect) (credit_charge : ℕ) → 1 ≤ charge_of dialect credit_charge
charge_some None credit_charge = omega arith
charge_some (Some Smb202) credit_charge = omega arith
charge_some (Some Smb210) credit_charge = omega arith

-- what was read of a request
pub call_read : (connection moment : ℕ) (dialect : Option Dialect) (context : Context) (request : List ℕ) → IsCallOf (call_of connection moment dialect context request) (body_of (call_of connection moment dialect context request).command request)
call_read connection moment dialect context request = record {
  file_id = refl;
  open_number = refl;
  charged = charge_some dialect (header_of request).credit_charge;
  unsupported = λ e. unsupported_unread (call_of connection moment dialect context request).command request e;
}

-- where no response could be written: a listing was not performed, and left the dialect
pub dialect_unwritten : (response : Response) (no_reply : NoReply) (before after is : Option Dialect) → no_reply ≡ no_reply_of response → is ≡ after → (is_listing response ≡ true → is ≡ before) →
    is ≡ (if is_performed no_reply then after else before)
dialect_unwritten (Ready answered reply) no_reply before after is e f g = rw e f
dialect_unwritten (Dialects dialect) no_reply before after is e f g = rw e f
dialect_unwritten (Token answered flags token) no_reply before after is e f g = rw e f
dialect_unwritten (Information answered bytes) no_reply before after is e f g = rw e f
dialect_unwritten (Bytes range) no_reply before after is e f g = rw e f
dialect_unwritten (Listing asked) no_reply before after is e f g = rw e (g refl)

-- and it left the server
pub server_unwritten : {S : Type 0} (m : Meaning S) (call : Call) (response : Response) (no_reply : NoReply) (before is whole : ServerState S) → no_reply ≡ no_reply_of response →
    (response_step m is call response).server ≡ whole → (is_listing response ≡ true → is ≡ before) → is ≡ (if is_performed no_reply then whole else before)
server_unwritten m call (Ready answered reply) no_reply before is whole e f g = rw e f
server_unwritten m call (Dialects dialect) no_reply before is whole e f g = rw e f
server_unwritten m call (Token answered flags token) no_reply before is whole e f g = rw e f
server_unwritten m call (Information answered bytes) no_reply before is whole e f g = rw e f
server_unwritten m call (Bytes range) no_reply before is whole e f g = rw e f
server_unwritten m call (Listing asked) no_reply before is whole e f g = rw e (g refl)

-- a listing that is still to be performed changed nothing
pub still_listing : {S : Type 0} (before after : ServerState S) (response : Response) → IsStill before after response → is_listing response ≡ true → after ≡ before
still_listing before after (Ready answered reply) s e = absurd (cc)
still_listing before after (Dialects dialect) s e = absurd (cc)
still_listing before after (Token answered flags token) s e = absurd (cc)
still_listing before after (Information answered bytes) s e = absurd (cc)
still_listing before after (Bytes range) s e = absurd (cc)
still_listing before after (Listing asked) s e = s

module _ {S : Type 0} (m : Meaning S) (connection moment : ℕ) (server : ServerState S) (dialect : Option Dialect) (context : Context) (request : List ℕ) (call : Call) (is : call ≡ call_of connection moment dialect context request) where
  pub cancelled : is_cancel_command call.command ≡ true → verified m connection moment server dialect context request
      ≡ record { server = server; dialect = dialect; context = record { ids = call.ids; last_open = named_on call.inherited call.file_id }; response = None }
  unfolding verified
  cancelled e =
      let cancel : is_cancel_command (call_of connection moment dialect context request).command ≡ true = ap (λ (c : Call). is_cancel_command c.command) (sym is) ∙ e in
      rw (cancel, is) refl

  -- what a request is, by its parts
  same_step : verified m connection moment server dialect context request
      ≡ (let call = call_of connection moment dialect context request in
      let step = performed_by m server call (body_of call.command request) in
      let x : Performed S = if is_cancel_command call.command
      then record { server = server; dialect = dialect; context = record { ids = call.ids; last_open = named_on call.inherited call.file_id }; response = None }
      else record {
        server = step.server;
        dialect = option_map_or (dialect_after dialect) (body_of call.command request) dialect;
        context = record {
          ids = step.response.ids;
          last_open = open_for_next_related call.inherited server.store.next call.command call.file_id step.response.status;
        };
        response = Some step.response;
      } in x)
  unfolding verified
  same_step = refl

  answered : is_cancel_command call.command ≡ false → verified m connection moment server dialect context request
      ≡ (let step = performed_by m server call (body_of call.command request) in let x : Performed S = record {
        server = step.server;
        dialect = option_map_or (dialect_after dialect) (body_of call.command request) dialect;
        context = record {
          ids = step.response.ids;
          last_open = open_for_next_related call.inherited server.store.next call.command call.file_id step.response.status;
        };
        response = Some step.response;
      } in x)
  answered e =
      let cancel : is_cancel_command (call_of connection moment dialect context request).command ≡ false = ap (λ (c : Call). is_cancel_command c.command) (sym is) ∙ e in
      let P : Call → Type 0 = λ c. verified m connection moment server dialect context request
      ≡ (let step = performed_by m server c (body_of c.command request) in let x : Performed S = record {
        server = step.server;
        dialect = option_map_or (dialect_after dialect) (body_of c.command request) dialect;
        context = record {
          ids = step.response.ids;
          last_open = open_for_next_related c.inherited server.store.next c.command c.file_id step.response.status;
        };
        response = Some step.response;
      } in x) in
      subst P (sym is) (same_step ∙ rw cancel refl)

  -- a request with its response, whose body is behind what was in the vector
  pub performed_put : (body : Option RequestValue) → body ≡ body_of call.command request → is_cancel_command call.command ≡ false →
      (front : List ℕ) (server' : ServerState S) (dialect' : Option Dialect) (context' : Context) (held : AnswerHeld) → server' ≡ (performed_by m server call body).server →
      dialect' ≡ option_map_or (dialect_after dialect) body dialect → held ≡ answer_behind front (performed_by m server call body).response →
      context' ≡ record { ids = held.ids; last_open = open_for_next_related call.inherited server.store.next call.command call.file_id held.status } →
      (let x : PerformedHeld S = record { server = server'; dialect = dialect'; context = context'; response = Some held } in x)
      ≡ performed_behind front (verified m connection moment server dialect context request)
  performed_put body b e front server' dialect' context' held s d h c = rw (answered e, c, s, d, h, b) refl

  pub performed_server : (body : Option RequestValue) → body ≡ body_of call.command request → is_cancel_command call.command ≡ false →
      (performed_by m server call body).server ≡ (verified m connection moment server dialect context request).server
  performed_server body b e = rw (answered e, b) refl

  pub performed_dialect : (body : Option RequestValue) → body ≡ body_of call.command request → is_cancel_command call.command ≡ false →
      option_map_or (dialect_after dialect) body dialect ≡ (verified m connection moment server dialect context request).dialect
  performed_dialect body b e = rw (answered e, b) refl
