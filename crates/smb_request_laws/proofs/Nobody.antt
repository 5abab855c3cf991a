-- A connection on which no session is finished changes nothing, but by a SESSION_SETUP.
use Rattle.std.proofs.Common.{◌≡◌, ◌≢◌, ◌-◌, ◌/◌, ◌+◌, ◌∙◌, ℕ, true, false, nat_lt, List, Option, None, Some, refl, sym}
use Rattle.std.specs.Option.{option_map_or}
use Rattle.smb_wire.specs.declared.command.Command.TheVariants.{SessionSetup}
use Rattle.smb_wire.specs.declared.dialect.Dialect.{Dialect}
use Rattle.smb_refusals.specs.declared.refusal.Refusal.{Refusal}
use Rattle.smb_refusals.specs.declared.request.NegotiateRefusal.TheVariants.{NoDialect}
use Rattle.smb_refusals.specs.declared.request.RequestRefusal.{RequestRefusal}
use Rattle.smb_body.specs.Requests.{RequestValue, payload_of, asks_negotiate, asks_session_setup, asks_cancel, asks_echo}
use Rattle.smb_session.specs.Authenticator.{Meaning}
use Rattle.smb_session.specs.Negotiate.{best_of}
use Rattle.smb_session.specs.Table.{knows_session}
use Rattle.smb_request.specs.declared.context.Context.{Context}
use Rattle.smb_request.specs.declared.context.HeaderIds.{HeaderIds}
use Rattle.smb_request.specs.Call.{call_of}
use Rattle.smb_request.specs.Laws.{request_ids}
use Rattle.smb_body.specs.Needs.{needs_of}
use Rattle.smb_request.specs.Parts.{needs_session}
use Rattle.smb_request.specs.Request.{check_request, acted, performed}
use Rattle.smb_request.specs.Response.{CommandStep, ResponseState, refused}
use Rattle.smb_request.specs.State.{ServerState}
use Rattle.smb_request_laws.specs.Acting.{command_in}
use Rattle.smb_request_laws.proofs.Turned.{no_session}
use Rattle.smb_request_laws.proofs.Under.{and_not}
use Rattle.smb_request_laws.proofs.Answered.{step_by, comes_to, command_for, says_command}

none_some : (row : RequestRefusal) (o : Option RequestRefusal) → o ≡ None → o ≡ Some row → ⊥
none_some row o e f = let both : None ≡ Some row = sym e ∙ f in cc

negotiated_same : {S : Type 0} (server : ServerState S) (ids : HeaderIds) (answer : Dialect → ResponseState) (best : Option Dialect) →
    (option_map_or (λ best. let x : CommandStep S = record { server = server; response = answer best } in x) best (refused server ids (Refusal.Negotiate NoDialect))).server ≡ server
negotiated_same server ids answer None = refl
negotiated_same server ids answer (Some best) = refl

module _ {S : Type 0} (m : Meaning S) (connection moment : ℕ) (server : ServerState S) (dialect : Option Dialect) (context : Context) (request : List ℕ) (none : (session : ℕ) → knows_session server.sessions.table connection session ≡ false) (other : command_in request ≢ Some SessionSetup) where
  passed_not : (asked : RequestValue) → needs_session (needs_of asked) ≡ true → check_request server (call_of connection moment dialect context request) asked ≡ None → ⊥
  passed_not asked needed e =
      let call = call_of connection moment dialect context request in
      let fails = no_session (nat_lt call.charge ((payload_of asked - 1) / 65536 + 1)) _ _ (and_not (needs_session (needs_of asked)) (knows_session server.sessions.table connection (request_ids context request).session_id) needed (none (request_ids context request).session_id)) in
      none_some fails.0 (check_request server call asked) e fails.1

  act_same : (asked : RequestValue) → command_in request ≡ Some (command_for asked) → check_request server (call_of connection moment dialect context request) asked ≡ None →
      (acted m server (call_of connection moment dialect context request) asked).server ≡ server
  act_same (asks_negotiate x) says e = negotiated_same server (request_ids context request) _ (best_of x.dialects)
  act_same (asks_session_setup x) says e = absurd (other says)
  act_same (asks_cancel x) says e = refl
  act_same (asks_echo x) says e = refl
  act_same asked says e = absurd (passed_not asked refl e)

  pub nobody_changes : (performed m connection moment server dialect context request).server ≡ server
  nobody_changes =
      comes_to m connection moment server dialect context request (λ after response. after ≡ server) refl
      (step_by m connection moment server dialect context request (λ step. step.server ≡ server)
      (λ refusal fails. refl)
      (λ asked says t. act_same asked (says_command (command_in request) request asked says) t))
