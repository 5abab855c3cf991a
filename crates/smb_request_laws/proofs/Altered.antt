-- What a request leaves, by definitions of who may act and of what is done: the right ones, or others.
use Rattle.std.proofs.Common.{◌≡◌, ◌==◌, ◌&&◌, ◌-◌, ◌/◌, ◌+◌, ℕ, nat_lt, Bool, false, not, if◌then◌else◌, List, Option, None, Some, refl}
use Rattle.std.specs.Option.{is_none, option_map, option_map_or, option_and_then}
use Rattle.smb_wire.specs.declared.dialect.Dialect.{Dialect}
use Rattle.smb_refusals.specs.declared.refusal.Refusal.{Refusal}
use Rattle.smb_refusals.specs.declared.request.RequestRefusal.{RequestRefusal}
use Rattle.smb_refusals.specs.declared.request.RequestRefusal.TheVariants.{UnknownCommand, CommandNotPerformed, BodyUnreadable, ChargeTooSmall, UnknownTreeConnect, NoOpenHandedOn, CreateBeforeRefused, UnknownOpen}
use Rattle.smb_body.specs.Requests.{RequestValue, payload_of}
use Rattle.smb_session.specs.Authenticator.{Meaning}
use Rattle.smb_session.specs.Table.{knows_session, knows_tree, signing_of}
use Rattle.smb_access.specs.declared.open_row.OpenRow.{OpenRow}
use Rattle.smb_access.specs.declared.open_row.Owner.TheVariants.{Tree}
use Rattle.smb_access.specs.Opens.{open_of, is_held_by}
use Rattle.smb_request.specs.declared.context.Context.{Context}
use Rattle.smb_request.specs.declared.context.HeaderIds.{HeaderIds}
use Rattle.smb_request.specs.declared.context.ContextOpen.{ContextOpen}
use Rattle.smb_request.specs.declared.context.ContextOpen.TheVariants.{Nothing, Named, Refused}
use Rattle.smb_request.specs.Call.{body_of, call_of}
use Rattle.smb_request.specs.Context.{named_on, open_named, open_for_next_related}
use Rattle.smb_body.specs.Needs.{needs_of}
use Rattle.smb_request.specs.Parts.{needs_session, needs_tree, is_unsupported, is_cancel_command, dialect_after}
use Rattle.smb_request.specs.Request.{acted, signature_refusal, refused_by_signature, verified, performed}
use Rattle.smb_request.specs.Response.{CommandStep, Performed, refused, unless_refused}
use Rattle.smb_request.specs.State.{ServerState}

-- what needs a session, what needs a tree connect, whose an open is, and what becomes of what is done
pub record Rules (S : Type 0) : Type 0 where
  pub session : RequestValue → Bool
  pub tree : RequestValue → Bool
  pub held : HeaderIds → OpenRow → Bool
  pub done : ServerState S → HeaderIds → RequestValue → CommandStep S → CommandStep S

-- the right ones
abbrev pub right : {S : Type 0} → Rules S
right = record {
  session = λ asked. needs_session (needs_of asked);
  tree = λ asked. needs_tree (needs_of asked);
  held = λ ids row. is_held_by (Tree ids.session_id ids.tree_id) row;
  done = λ server ids asked step. step;
}

module _ {S : Type 0} (m : Meaning S) (rules : Rules S) where
  abbrev check : ServerState S → ℕ → ℕ → HeaderIds → Option ContextOpen → RequestValue → Option RequestRefusal
  check server connection charge ids opened asked =
      if nat_lt charge ((payload_of asked - 1) / 65536 + 1) then Some ChargeTooSmall else
      if rules.session asked && not (knows_session server.sessions.table connection ids.session_id) then Some RequestRefusal.UnknownSession else
      if rules.tree asked && not (knows_tree server.sessions.table ids.session_id ids.tree_id) then Some UnknownTreeConnect else
      option_and_then
      (λ (named : ContextOpen). elim named [
        | Nothing ↦ Some NoOpenHandedOn
        | Refused status ↦ Some (CreateBeforeRefused status)
        | Named id ↦
            if id.persistent == id.volatile && option_map_or (rules.held ids) (open_of server.store.opens id.persistent) false
            then None else Some UnknownOpen
      ])
      opened

  -- what a request leaves by these rules
  abbrev pub performed_by_rules : ℕ → ℕ → ServerState S → Option Dialect → Context → List ℕ → Performed S
  performed_by_rules connection moment server dialect context request =
      let call = call_of connection moment dialect context request in
      let body = body_of call.command request in
      let step : CommandStep S =
      if option_map_or is_unsupported call.command false then refused server call.ids (Refusal.Request CommandNotPerformed) else
      option_map_or
      (λ asked. unless_refused server call.ids
      (option_map (λ refusal. Refusal.Request refusal) (check server connection call.charge call.ids (option_map (open_named call.inherited) call.file_id) asked))
      (rules.done server call.ids asked (acted m server call asked)))
      body
      (refused server call.ids (Refusal.Request (if is_none call.command then UnknownCommand else BodyUnreadable))) in
      option_map_or
      (refused_by_signature server call dialect)
      (if is_cancel_command call.command then None else signature_refusal (signing_of server.sessions.table connection call.ids.session_id) request)
      (if is_cancel_command call.command
      then record { server = server; dialect = dialect; context = record { ids = call.ids; last_open = named_on call.inherited call.file_id }; response = None }
      else record {
        server = step.server;
        dialect = option_map_or (dialect_after dialect) body dialect;
        context = record {
          ids = step.response.ids;
          last_open = open_for_next_related call.inherited server.store.next call.command call.file_id step.response.status;
        };
        response = Some step.response;
      })

pub right_rules : {S : Type 0} (m : Meaning S) (connection moment : ℕ) (server : ServerState S) (dialect : Option Dialect) (context : Context) (request : List ℕ) →
    performed m connection moment server dialect context request ≡ performed_by_rules m right connection moment server dialect context request
unfolding performed verified
right_rules m connection moment server dialect context request = refl
