-- A request that is answered: by its checks, or by its command.
use Rattle.std.proofs.Common.{◌≡◌, ◌≢◌, ◌==◌, ◌&&◌, ◌-◌, ◌/◌, ◌+◌, ℕ, nat_lt, Bool, true, false, not, if◌then◌else◌, List, Option, None, Some, is_some, IfSome, refl, sym, ap, ◌∙◌}
use Rattle.std.specs.Option.{is_none, option_map, option_map_or, option_and_then}
use Rattle.smb_wire.specs.Commands.{code_of}
use Rattle.smb_wire.specs.declared.command.Command.{Command}
use Rattle.smb_wire.specs.declared.command.Command.TheVariants.{Negotiate, SessionSetup, Logoff, TreeConnect, TreeDisconnect, Create, Close, Flush, Read, Write, Lock, Ioctl, Cancel, Echo, QueryDirectory, ChangeNotify, QueryInfo, SetInfo, OplockBreak}
use Rattle.smb_wire.specs.declared.dialect.Dialect.{Dialect}
use Rattle.smb_wire.specs.declared.nt_status.NtStatus.{NtStatus}
use Rattle.smb_wire.specs.declared.nt_status.NtStatus.TheVariants.{Success}
use Rattle.smb_refusals.specs.declared.refusal.Refusal.{Refusal}
use Rattle.smb_refusals.specs.declared.request.RequestRefusal.{RequestRefusal}
use Rattle.smb_refusals.specs.declared.request.RequestRefusal.TheVariants.{UnknownCommand, CommandNotPerformed, BodyUnreadable, ChargeTooSmall, UnknownTreeConnect, UnknownOpen}
use Rattle.smb_refusals.specs.Refusals.{refusal_status}
use Rattle.smb_refusals.proofs.Fails.{set_basic_fails, set_disposition_fails, set_size_fails, rename_fails}
use Rattle.smb_body.specs.Requests.{RequestValue, request_of, payload_of, asks_negotiate, asks_session_setup, asks_logoff, asks_tree_connect, asks_tree_disconnect, asks_create, asks_close, asks_flush, asks_read, asks_write, asks_lock, asks_cancel, asks_echo, asks_query_directory, asks_query_info, asks_set_info}
use Rattle.smb_session.specs.Authenticator.{Meaning}
use Rattle.smb_session.specs.Table.{knows_session, knows_tree, signing_of}
use Rattle.smb_access.specs.declared.open_row.OpenRow.{OpenRow}
use Rattle.smb_access.specs.declared.open_row.Owner.TheVariants.{Tree}
use Rattle.smb_access.specs.Opens.{open_of, is_held_by}
use Rattle.smb_info.specs.SetInformation.{SetAsked, asks_basic, asks_rename, asks_mark, asks_allocation, asks_end}
use Rattle.smb_opens.specs.Renames.{rename_refusal}
use Rattle.smb_opens.specs.SetInfo.{basic_refusal, delete_refusal, size_refusal}
use Rattle.smb_opens.specs.State.{StoreState}
use Rattle.smb_opens.specs.Views.{open_view}
use Rattle.smb_request.specs.declared.context.Context.{Context}
use Rattle.smb_request.specs.declared.context.HeaderIds.{HeaderIds}
use Rattle.smb_request.specs.declared.context.ContextOpen.{ContextOpen}
use Rattle.smb_request.specs.declared.context.ContextOpen.TheVariants.{Nothing, Named, Refused}
use Rattle.smb_request.specs.Call.{body_of, call_of}
use Rattle.smb_request.specs.Context.{named_on, open_named, open_for_next_related}
use Rattle.smb_request.specs.Laws.{request_ids}
use Rattle.smb_body.specs.Needs.{needs_of}
use Rattle.smb_request.specs.Parts.{needs_session, needs_tree, is_unsupported, is_cancel_command, dialect_after, open_refusal, performed_by, set_refusal}
use Rattle.smb_request.specs.Request.{signature_refusal, refused_by_signature, check_request, acted, verified, performed}
use Rattle.smb_request.specs.Response.{CommandStep, Performed, ResponseState, refused, through_open, unless_refused}
use Rattle.smb_request.specs.State.{ServerState}
use Rattle.smb_request_laws.specs.Acting.{command_in, IsNotRefusedBySuccess}
use Rattle.smb_request_laws.proofs.Signed.{IsNoSuccess, signature_fails}
use Rattle.smb_request_laws.proofs.Turned.{unread_fails}
use Rattle.smb_request_laws.proofs.Under.{AreFair, named_fair}

-- the command of what a request asks
abbrev pub command_for : RequestValue → Command
command_for (asks_negotiate x) = Negotiate
command_for (asks_session_setup x) = SessionSetup
command_for (asks_logoff x) = Logoff
command_for (asks_tree_connect x) = TreeConnect
command_for (asks_tree_disconnect x) = TreeDisconnect
command_for (asks_create x) = Create
command_for (asks_close x) = Close
command_for (asks_flush x) = Flush
command_for (asks_read x) = Read
command_for (asks_write x) = Write
command_for (asks_lock x) = Lock
command_for (asks_cancel x) = Cancel
command_for (asks_echo x) = Echo
command_for (asks_query_directory x) = QueryDirectory
command_for (asks_query_info x) = QueryInfo
command_for (asks_set_info x) = SetInfo

mapped : {X : Type 0} (f : X → RequestValue) (command : Command) → ((x : X) → command_for (f x) ≡ command) → (o : Option X) (asked : RequestValue) → option_map f o ≡ Some asked → command_for asked ≡ command
mapped f command all None asked e = cc
mapped f command all (Some x) asked e = let is : f x ≡ asked = cc in ap command_for (sym is) ∙ all x

says_at : (command : Command) (request : List ℕ) (asked : RequestValue) → request_of (code_of command) request ≡ Some asked → command_for asked ≡ command
unfolding request_of
says_at Negotiate request asked e = mapped asks_negotiate Negotiate (λ x. refl) _ asked e
says_at SessionSetup request asked e = mapped asks_session_setup SessionSetup (λ x. refl) _ asked e
says_at Logoff request asked e = mapped asks_logoff Logoff (λ x. refl) _ asked e
says_at TreeConnect request asked e = mapped asks_tree_connect TreeConnect (λ x. refl) _ asked e
says_at TreeDisconnect request asked e = mapped asks_tree_disconnect TreeDisconnect (λ x. refl) _ asked e
says_at Create request asked e = mapped asks_create Create (λ x. refl) _ asked e
says_at Close request asked e = mapped asks_close Close (λ x. refl) _ asked e
says_at Flush request asked e = mapped asks_flush Flush (λ x. refl) _ asked e
says_at Read request asked e = mapped asks_read Read (λ x. refl) _ asked e
says_at Write request asked e = mapped asks_write Write (λ x. refl) _ asked e
says_at Lock request asked e = mapped asks_lock Lock (λ x. refl) _ asked e
says_at Cancel request asked e = mapped asks_cancel Cancel (λ x. refl) _ asked e
says_at Echo request asked e = mapped asks_echo Echo (λ x. refl) _ asked e
says_at QueryDirectory request asked e = mapped asks_query_directory QueryDirectory (λ x. refl) _ asked e
says_at QueryInfo request asked e = mapped asks_query_info QueryInfo (λ x. refl) _ asked e
says_at SetInfo request asked e = mapped asks_set_info SetInfo (λ x. refl) _ asked e
says_at Ioctl request asked e = cc
says_at ChangeNotify request asked e = cc
says_at OplockBreak request asked e = cc

-- a body is that of its command
pub says_command : (command : Option Command) (request : List ℕ) (asked : RequestValue) → body_of command request ≡ Some asked → command ≡ Some (command_for asked)
says_command None request asked e = cc
says_command (Some command) request asked e = ap (λ (c : Command). Some c) (sym (says_at command request asked e))

-- no row of these refuses by SUCCESS
abbrev pub NoneIsSuccess : Option Refusal → Type 0
NoneIsSuccess refusal = IfSome refusal (λ row. refusal_status row ≢ Success)

abbrev CheckFails : Option RequestRefusal → Type 0
CheckFails refusal = NoneIsSuccess (option_map (λ row. Refusal.Request row) refusal)

-- no check refuses by SUCCESS
held_fails : (b : Bool) → CheckFails (if b then None else Some UnknownOpen)
held_fails true = tt
held_fails false = λ e. cc

open_fails : (opens : List OpenRow) (ids : HeaderIds) (named : ContextOpen) → named ≢ Refused Success → CheckFails (open_refusal opens ids named)
open_fails opens ids Nothing fair = λ e. cc
open_fails opens ids (Refused status) fair = λ e. fair (ap (λ (s : NtStatus). Refused s) e)
open_fails opens ids (Named id) fair = held_fails (id.persistent == id.volatile && option_map_or (is_held_by (Tree ids.session_id ids.tree_id)) (open_of opens id.persistent) false)

named_fails : (opens : List OpenRow) (ids : HeaderIds) (named : Option ContextOpen) → AreFair named → CheckFails (option_and_then (open_refusal opens ids) named)
named_fails opens ids None fair = tt
named_fails opens ids (Some it) fair = open_fails opens ids it (fair it refl)

checks_fail : (charge session joined : Bool) (rest : Option RequestRefusal) → CheckFails rest →
    CheckFails (if charge then Some ChargeTooSmall else if session then Some RequestRefusal.UnknownSession else if joined then Some UnknownTreeConnect else rest)
checks_fail true session joined rest h = λ e. cc
checks_fail false true joined rest h = λ e. cc
checks_fail false false true rest h = λ e. cc
checks_fail false false false rest h = h

check_fails : (refusal : RequestRefusal) (check : Option RequestRefusal) → CheckFails check → check ≡ Some refusal → refusal_status (Refusal.Request refusal) ≢ Success
check_fails refusal None h e = cc
check_fails refusal (Some row) h e = let is : row ≡ refusal = cc in λ q. h (ap (λ (r : RequestRefusal). refusal_status (Refusal.Request r)) is ∙ q)

-- a step: refused by a check, or by what its body asks
module _ {S : Type 0} (server : ServerState S) (ids : HeaderIds) (check : RequestValue → Option RequestRefusal) (act : RequestValue → CommandStep S) (P : CommandStep S → Type 0) (fails : (refusal : Refusal) → refusal_status refusal ≢ Success → P (refused server ids refusal)) where
  checked_by : (asked : RequestValue) (refusal : Option RequestRefusal) → check asked ≡ refusal → ((row : RequestRefusal) → check asked ≡ Some row → P (refused server ids (Refusal.Request row))) → (check asked ≡ None → P (act asked)) →
      P (unless_refused server ids (option_map (λ refusal. Refusal.Request refusal) refusal) (act asked))
  checked_by asked None e off on = on e
  checked_by asked (Some row) e off on = off row e

  body_by : (unsupported unknown : Bool) (body : Option RequestValue) → ((asked : RequestValue) → body ≡ Some asked → (row : RequestRefusal) → check asked ≡ Some row → P (refused server ids (Refusal.Request row))) →
      ((asked : RequestValue) → body ≡ Some asked → check asked ≡ None → P (act asked)) →
      P (let x : CommandStep S = if unsupported then refused server ids (Refusal.Request CommandNotPerformed) else
      option_map_or (λ asked. unless_refused server ids (option_map (λ refusal. Refusal.Request refusal) (check asked)) (act asked)) body
      (refused server ids (Refusal.Request (if unknown then UnknownCommand else BodyUnreadable))) in x)
  body_by true unknown body off on = fails (Refusal.Request CommandNotPerformed) (λ e. cc)
  body_by false unknown None off on = fails (Refusal.Request (if unknown then UnknownCommand else BodyUnreadable)) (unread_fails unknown)
  body_by false unknown (Some asked) off on = checked_by asked (check asked) refl (off asked refl) (on asked refl)

module _ {S : Type 0} (m : Meaning S) (connection moment : ℕ) (server : ServerState S) (dialect : Option Dialect) (context : Context) (request : List ℕ) where
  -- a request's step, by why its signature refuses it
  abbrev pub signed_step : Option RequestRefusal → CommandStep S
  signed_step refusal =
      let call = call_of connection moment dialect context request in
      option_map_or (λ row. refused server call.ids (Refusal.Request row)) refusal (performed_by m server call (body_of call.command request))

  -- what a request is, by whether it is a CANCEL, and by why its signature refuses it
  abbrev by_parts : Bool → Option RequestRefusal → Performed S
  by_parts is_cancel refusal =
      let call = call_of connection moment dialect context request in
      let step = performed_by m server call (body_of call.command request) in
      option_map_or (refused_by_signature server call dialect) (if is_cancel then None else refusal) (if is_cancel then record {
        server = server;
        dialect = dialect;
        context = record { ids = call.ids; last_open = named_on call.inherited call.file_id };
        response = None;
      } else record {
        server = step.server;
        dialect = option_map_or (dialect_after dialect) (body_of call.command request) dialect;
        context = record {
          ids = step.response.ids;
          last_open = open_for_next_related call.inherited server.store.next call.command call.file_id step.response.status;
        };
        response = Some step.response;
      })

  comes_by : (P : ServerState S → Option ResponseState → Type 0) (is_cancel : Bool) (refusal : Option RequestRefusal) → P server None → P (signed_step refusal).server (Some (signed_step refusal).response) →
      P (by_parts is_cancel refusal).server (by_parts is_cancel refusal).response
  comes_by P true refusal cancelled done = cancelled
  comes_by P false None cancelled done = done
  comes_by P false (Some row) cancelled done = done

  -- what a request comes to: nothing, where it is a CANCEL, or its step
  abbrev pub step : CommandStep S
  step =
      let call = call_of connection moment dialect context request in
      signed_step (signature_refusal (signing_of server.sessions.table connection call.ids.session_id) request)

  pub comes_to : (P : ServerState S → Option ResponseState → Type 0) → P server None → P step.server (Some step.response) →
      P (performed m connection moment server dialect context request).server (performed m connection moment server dialect context request).response
  unfolding performed verified
  comes_to P cancelled done =
      let call = call_of connection moment dialect context request in
      comes_by P (is_cancel_command call.command) (signature_refusal (signing_of server.sessions.table connection call.ids.session_id) request) cancelled done

  checks_by : (P : CommandStep S → Type 0) → ((refusal : Refusal) → (IsNotRefusedBySuccess context → refusal_status refusal ≢ Success) → P (refused server (request_ids context request) refusal)) →
      ((asked : RequestValue) → body_of (command_in request) request ≡ Some asked → check_request server (call_of connection moment dialect context request) asked ≡ None → P (acted m server (call_of connection moment dialect context request) asked)) →
      P (performed_by m server (call_of connection moment dialect context request) (body_of (command_in request) request))
  checks_by P off on =
      let call = call_of connection moment dialect context request in
      body_by server call.ids (check_request server call) (acted m server call) P (λ refusal not. off refusal (λ fair. not)) (option_map_or is_unsupported call.command false) (is_none call.command) (body_of call.command request)
      (λ asked e row t. off (Refusal.Request row) (λ fair. check_fails row (check_request server call asked) (checks_fail
      (nat_lt call.charge ((payload_of asked - 1) / 65536 + 1))
      (needs_session (needs_of asked) && not (knows_session server.sessions.table connection call.ids.session_id))
      (needs_tree (needs_of asked) && not (knows_tree server.sessions.table call.ids.session_id call.ids.tree_id))
      (option_and_then (open_refusal server.store.opens call.ids) (option_map (open_named call.inherited) call.file_id))
      (named_fails server.store.opens call.ids (option_map (open_named call.inherited) call.file_id) (named_fair m connection moment server dialect context request fair))) t))
      on

  signed_by : (P : CommandStep S → Type 0) (refusal : Option RequestRefusal) → IsNoSuccess refusal → ((row : RequestRefusal) → refusal_status (Refusal.Request row) ≢ Success → P (refused server (request_ids context request) (Refusal.Request row))) →
      P (performed_by m server (call_of connection moment dialect context request) (body_of (command_in request) request)) → P (signed_step refusal)
  signed_by P None fails off on = on
  signed_by P (Some row) fails off on = off row fails

  -- and the step: a refusal, or what its command does
  pub step_by : (P : CommandStep S → Type 0) → ((refusal : Refusal) → (IsNotRefusedBySuccess context → refusal_status refusal ≢ Success) → P (refused server (request_ids context request) refusal)) →
      ((asked : RequestValue) → body_of (command_in request) request ≡ Some asked → check_request server (call_of connection moment dialect context request) asked ≡ None → P (acted m server (call_of connection moment dialect context request) asked)) →
      P step
  step_by P off on =
      let signing = signing_of server.sessions.table connection (request_ids context request).session_id in
      signed_by P (signature_refusal signing request) (signature_fails signing request) (λ row fails. off (Refusal.Request row) (λ fair. fails)) (checks_by P off on)

-- what is done where no row refuses
pub row_done : {S : Type 0} (server : ServerState S) (ids : HeaderIds) (refusal : Option Refusal) (done : CommandStep S) → NoneIsSuccess refusal → (unless_refused server ids refusal done).response.status ≡ Success →
    (refusal ≡ None) × (unless_refused server ids refusal done ≡ done)
row_done server ids None done fails h = (refl, refl)
row_done server ids (Some row) done fails h = absurd (fails h)

-- a table whose rows are not answered by SUCCESS, also through an open
pub table_fails : {R : Type 0} (name : R → Refusal) → ((row : R) → refusal_status (name row) ≢ Success) → (refusal : Option R) → NoneIsSuccess (option_map name refusal)
table_fails name fails None = tt
table_fails name fails (Some row) = fails row

shown_fails : (refusal : Option Refusal) → NoneIsSuccess refusal → (b : Bool) → NoneIsSuccess (let x : Option Refusal = if b then refusal else Some (Refusal.Request UnknownOpen) in x)
shown_fails refusal fails true = fails
shown_fails refusal fails false = λ e. cc

pub through_fails : (store : StoreState) (number : ℕ) (refusal : Option Refusal) → NoneIsSuccess refusal → NoneIsSuccess (through_open store number refusal)
through_fails store number refusal fails = shown_fails refusal fails (is_some (open_view store number))

pub set_fails : (store : StoreState) (number : ℕ) (ask : SetAsked) → NoneIsSuccess (set_refusal store number ask)
set_fails store number (asks_basic ask) = table_fails (λ row. Refusal.SetBasic row) set_basic_fails (basic_refusal store number ask)
set_fails store number (asks_rename replace name) = table_fails (λ row. Refusal.Rename row) rename_fails (rename_refusal store number name replace)
set_fails store number (asks_mark mark) = table_fails (λ row. Refusal.SetDisposition row) set_disposition_fails (delete_refusal store number mark)
set_fails store number (asks_allocation size) = table_fails (λ row. Refusal.SetSize row) set_size_fails (size_refusal store number size)
set_fails store number (asks_end size) = table_fails (λ row. Refusal.SetSize row) set_size_fails (size_refusal store number size)
