-- A request that is refused before it is performed.
use Rattle.std.proofs.Common.{◌≡◌, ◌≢◌, ℕ, Bool, true, false, not, if◌then◌else◌, List, Option, None, Some, is_some, refl, sym, ap, ◌∙◌}
use Rattle.std.specs.Option.{is_none, option_map, option_map_or}
use Rattle.smb_wire.specs.Commands.{code_of}
use Rattle.smb_wire.specs.declared.command.Command.{Command}
use Rattle.smb_wire.specs.declared.command.Command.TheVariants.{Negotiate, SessionSetup, Logoff, TreeConnect, TreeDisconnect, Create, Close, Flush, Read, Write, Lock, Ioctl, Cancel, Echo, QueryDirectory, ChangeNotify, QueryInfo, SetInfo, OplockBreak}
use Rattle.smb_wire.specs.declared.dialect.Dialect.{Dialect}
use Rattle.smb_wire.specs.declared.nt_status.NtStatus.TheVariants.{Success}
use Rattle.smb_refusals.specs.declared.refusal.Refusal.{Refusal}
use Rattle.smb_refusals.specs.declared.request.RequestRefusal.{RequestRefusal}
use Rattle.smb_refusals.specs.declared.request.RequestRefusal.TheVariants.{UnknownCommand, CommandNotPerformed, BodyUnreadable, ChargeTooSmall, UnknownTreeConnect}
use Rattle.smb_refusals.specs.Refusals.{refusal_status}
use Rattle.smb_body.specs.Replies.{reply_spelling, answers_error}
use Rattle.smb_body.specs.Requests.{RequestValue, request_of, file_id_of, asks_negotiate, asks_session_setup, asks_logoff, asks_tree_connect, asks_tree_disconnect, asks_create, asks_close, asks_flush, asks_read, asks_write, asks_lock, asks_cancel, asks_echo, asks_query_directory, asks_query_info, asks_set_info}
use Rattle.smb_session.specs.Authenticator.{Meaning}
use Rattle.smb_request.specs.declared.context.Context.{Context}
use Rattle.smb_request.specs.declared.context.HeaderIds.{HeaderIds}
use Rattle.smb_request.specs.Call.{body_of, call_of}
use Rattle.smb_request.specs.Context.{named_on, open_for_next_related}
use Rattle.smb_body.specs.Needs.{needs_of}
use Rattle.smb_request.specs.Parts.{needs_session, needs_tree, is_unsupported, is_cancel_command, dialect_after, performed_by}
use Rattle.smb_request.specs.Request.{check_request, acted, verified, performed}
use Rattle.smb_request.specs.Response.{CommandStep, Performed, refused, unless_refused}
use Rattle.smb_request.specs.State.{ServerState}
use Rattle.smb_request_laws.specs.Acting.{IsTurnedAway}
use Rattle.smb_request_laws.proofs.Signed.{by_refusal}

-- what a request needs: a session, a tree connect, an open
abbrev pub needs : RequestValue → Bool × Bool × Bool
needs asked = (needs_session (needs_of asked), needs_tree (needs_of asked), is_some (file_id_of asked))

-- by its command
abbrev pub need_of : Command → Bool × Bool × Bool
need_of Negotiate = (false, false, false)
need_of SessionSetup = (false, false, false)
need_of Logoff = (true, false, false)
need_of TreeConnect = (true, false, false)
need_of TreeDisconnect = (true, true, false)
need_of Create = (true, true, false)
need_of Ioctl = (false, false, false)
need_of Cancel = (false, false, false)
need_of Echo = (false, false, false)
need_of ChangeNotify = (false, false, false)
need_of OplockBreak = (false, false, false)
need_of other = (true, true, true)

mapped : {X : Type 0} (f : X → RequestValue) (need : Bool × Bool × Bool) → ((x : X) → needs (f x) ≡ need) → (o : Option X) (asked : RequestValue) → option_map f o ≡ Some asked → needs asked ≡ need
mapped f need all None asked e = cc
mapped f need all (Some x) asked e = let is : f x ≡ asked = cc in ap needs (sym is) ∙ all x

needs_as : (command : Command) (request : List ℕ) (asked : RequestValue) → request_of (code_of command) request ≡ Some asked → needs asked ≡ need_of command
unfolding request_of
needs_as Negotiate request asked e = mapped asks_negotiate (need_of Negotiate) (λ x. refl) _ asked e
needs_as SessionSetup request asked e = mapped asks_session_setup (need_of SessionSetup) (λ x. refl) _ asked e
needs_as Logoff request asked e = mapped asks_logoff (need_of Logoff) (λ x. refl) _ asked e
needs_as TreeConnect request asked e = mapped asks_tree_connect (need_of TreeConnect) (λ x. refl) _ asked e
needs_as TreeDisconnect request asked e = mapped asks_tree_disconnect (need_of TreeDisconnect) (λ x. refl) _ asked e
needs_as Create request asked e = mapped asks_create (need_of Create) (λ x. refl) _ asked e
needs_as Close request asked e = mapped asks_close (need_of Close) (λ x. refl) _ asked e
needs_as Flush request asked e = mapped asks_flush (need_of Flush) (λ x. refl) _ asked e
needs_as Read request asked e = mapped asks_read (need_of Read) (λ x. refl) _ asked e
needs_as Write request asked e = mapped asks_write (need_of Write) (λ x. refl) _ asked e
needs_as Lock request asked e = mapped asks_lock (need_of Lock) (λ x. refl) _ asked e
needs_as Cancel request asked e = mapped asks_cancel (need_of Cancel) (λ x. refl) _ asked e
needs_as Echo request asked e = mapped asks_echo (need_of Echo) (λ x. refl) _ asked e
needs_as QueryDirectory request asked e = mapped asks_query_directory (need_of QueryDirectory) (λ x. refl) _ asked e
needs_as QueryInfo request asked e = mapped asks_query_info (need_of QueryInfo) (λ x. refl) _ asked e
needs_as SetInfo request asked e = mapped asks_set_info (need_of SetInfo) (λ x. refl) _ asked e
needs_as Ioctl request asked e = cc
needs_as ChangeNotify request asked e = cc
needs_as OplockBreak request asked e = cc

-- a body is that of its command
pub needs_by : (P : Bool × Bool × Bool → Bool) (is_of : Command → Bool) →
    ((command : Command) → is_of command ≡ false → is_cancel_command (Some command) ≡ false → is_unsupported command ≡ false → P (need_of command) ≡ true) →
    (command : Option Command) (request : List ℕ) (asked : RequestValue) → option_map_or is_of command false ≡ false → is_cancel_command command ≡ false → option_map_or is_unsupported command false ≡ false →
    body_of command request ≡ Some asked → P (needs asked) ≡ true
needs_by P is_of all None request asked other cancel unsupported e = cc
needs_by P is_of all (Some command) request asked other cancel unsupported e = ap P (needs_as command request asked e) ∙ all command other cancel unsupported

-- a refusal by a row whose status is not SUCCESS
abbrev pub IsFailure : Option RequestRefusal → Type 0
IsFailure o = (refusal : RequestRefusal) × (o ≡ Some refusal) × (refusal_status (Refusal.Request refusal) ≢ Success)

pub no_session : (charge session : Bool) (rest : Option RequestRefusal) → session ≡ true → IsFailure (if charge then Some ChargeTooSmall else if session then Some RequestRefusal.UnknownSession else rest)
no_session true session rest e = (ChargeTooSmall, refl, λ h. cc)
no_session false true rest e = (RequestRefusal.UnknownSession, refl, λ h. cc)
no_session false false rest e = cc

pub no_tree : (charge session joined : Bool) (rest : Option RequestRefusal) → joined ≡ true →
    IsFailure (if charge then Some ChargeTooSmall else if session then Some RequestRefusal.UnknownSession else if joined then Some UnknownTreeConnect else rest)
no_tree true session joined rest e = (ChargeTooSmall, refl, λ h. cc)
no_tree false true joined rest e = (RequestRefusal.UnknownSession, refl, λ h. cc)
no_tree false false true rest e = (UnknownTreeConnect, refl, λ h. cc)
no_tree false false false rest e = cc

pub no_open : (charge session joined : Bool) (rest : Option RequestRefusal) → IsFailure rest →
    IsFailure (if charge then Some ChargeTooSmall else if session then Some RequestRefusal.UnknownSession else if joined then Some UnknownTreeConnect else rest)
no_open true session joined rest h = (ChargeTooSmall, refl, λ h. cc)
no_open false true joined rest h = (RequestRefusal.UnknownSession, refl, λ h. cc)
no_open false false true rest h = (UnknownTreeConnect, refl, λ h. cc)
no_open false false false rest h = h

-- a request whose body is not read is not refused by SUCCESS
pub unread_fails : (unknown : Bool) → refusal_status (Refusal.Request (if unknown then UnknownCommand else BodyUnreadable)) ≢ Success
unread_fails true h = cc
unread_fails false h = cc

-- a step that does nothing and tells nothing
abbrev pub IsTurnedStep : {S : Type 0} → ServerState S → CommandStep S → Type 0
IsTurnedStep server step = (step.server ≡ server) × (step.response.status ≢ Success) × (step.response.body ≡ reply_spelling answers_error)

module _ {S : Type 0} (server : ServerState S) (ids : HeaderIds) where
  refused_turned : (refusal : Refusal) → refusal_status refusal ≢ Success → IsTurnedStep server (refused server ids refusal)
  refused_turned refusal not = (refl, not, refl)

  checked_turned : (refusal : Option RequestRefusal) (step : CommandStep S) → IsFailure refusal → IsTurnedStep server (unless_refused server ids (option_map (λ refusal. Refusal.Request refusal) refusal) step)
  checked_turned None step h = let no = h.1 in cc
  checked_turned (Some refusal) step h =
      let is : refusal ≡ h.0 = (let e = h.1 in cc) in
      refused_turned (Refusal.Request refusal) (λ e. h.2 (ap (λ (r : RequestRefusal). refusal_status (Refusal.Request r)) (sym is) ∙ e))

  body_turned : (check : RequestValue → Option RequestRefusal) (act : RequestValue → CommandStep S) (unsupported unknown : Bool) (body : Option RequestValue) →
      (unsupported ≡ false → (asked : RequestValue) → body ≡ Some asked → IsFailure (check asked)) →
      IsTurnedStep server (let x : CommandStep S = if unsupported then refused server ids (Refusal.Request CommandNotPerformed) else
      option_map_or (λ asked. unless_refused server ids (option_map (λ refusal. Refusal.Request refusal) (check asked)) (act asked)) body
      (refused server ids (Refusal.Request (if unknown then UnknownCommand else BodyUnreadable))) in x)
  body_turned check act true unknown body h = refused_turned (Refusal.Request CommandNotPerformed) (λ e. cc)
  body_turned check act false unknown None h = refused_turned (Refusal.Request (if unknown then UnknownCommand else BodyUnreadable)) (unread_fails unknown)
  body_turned check act false unknown (Some asked) h = checked_turned (check asked) (act asked) (h refl asked refl)

module _ {S : Type 0} (m : Meaning S) (connection moment : ℕ) (server : ServerState S) (dialect : Option Dialect) (context : Context) (request : List ℕ) where
  -- a request whose body is read fails by its checks
  abbrev pub FailsItsChecks : Type 0
  FailsItsChecks =
      let call = call_of connection moment dialect context request in
      is_cancel_command call.command ≡ false → option_map_or is_unsupported call.command false ≡ false → (asked : RequestValue) → body_of call.command request ≡ Some asked → IsFailure (check_request server call asked)

  verified_turned : FailsItsChecks → IsTurnedAway server (verified m connection moment server dialect context request)
  unfolding verified
  verified_turned h =
      let call = call_of connection moment dialect context request in
      elim (is_cancel_command call.command) as (λ b. is_cancel_command call.command ≡ b → IsTurnedAway server (let x : Performed S = if b then record {
        server = server;
        dialect = dialect;
        context = record { ids = call.ids; last_open = named_on call.inherited call.file_id };
        response = None;
      } else record {
        server = (performed_by m server call (body_of call.command request)).server;
        dialect = option_map_or (dialect_after dialect) (body_of call.command request) dialect;
        context = record {
          ids = (performed_by m server call (body_of call.command request)).response.ids;
          last_open = open_for_next_related call.inherited server.store.next call.command call.file_id (performed_by m server call (body_of call.command request)).response.status;
        };
        response = Some (performed_by m server call (body_of call.command request)).response;
      } in x)) [
        | true ↦ λ t. record { unchanged = refl; response = tt }
        | false ↦ λ t. (
            let step = body_turned server call.ids (check_request server call) (acted m server call) (option_map_or is_unsupported call.command false) (is_none call.command) (body_of call.command request) (λ u asked e. h t u asked e) in
            record { unchanged = step.0; response = (step.1, step.2) })
      ] refl

  pub turned : FailsItsChecks → IsTurnedAway server (performed m connection moment server dialect context request)
  turned h =
      by_refusal m connection moment server dialect context request (IsTurnedAway server)
      (λ refusal fails. record { unchanged = refl; response = (fails, refl) })
      (verified_turned h)
