-- A request acts under a session, a tree connect and an open, or is refused.
use Rattle.std.proofs.Common.{◌≡◌, ◌≢◌, ◌==◌, ◌&&◌, ◌-◌, ◌/◌, ◌+◌, ◌^◌, ℕ, nat_lt, Bool, true, false, not, if◌then◌else◌, List, Option, None, Some, is_some, unwrap_or, refl, ap, ◌∙◌}
use Rattle.std.specs.Option.{option_map, option_map_or, option_and_then}
use Rattle.smb_wire.specs.declared.command.Command.{Command}
use Rattle.smb_wire.specs.declared.command.Command.TheVariants.{Negotiate, SessionSetup, Logoff, TreeConnect, TreeDisconnect, Create, Ioctl, Cancel, Echo, ChangeNotify, OplockBreak}
use Rattle.smb_wire.specs.declared.dialect.Dialect.{Dialect}
use Rattle.smb_wire.specs.declared.file_id.FileId.{FileId}
use Rattle.smb_wire.specs.declared.nt_status.NtStatus.{NtStatus}
use Rattle.smb_wire.specs.declared.nt_status.NtStatus.TheVariants.{Success}
use Rattle.smb_refusals.specs.declared.request.RequestRefusal.TheVariants.{NoOpenHandedOn, CreateBeforeRefused, UnknownOpen}
use Rattle.smb_head.specs.Chains.{is_related}
use Rattle.smb_body.specs.Requests.{RequestValue, payload_of, file_id_of}
use Rattle.smb_session.specs.Authenticator.{Meaning}
use Rattle.smb_session.specs.Table.{knows_session, knows_tree}
use Rattle.smb_access.specs.declared.open_row.OpenRow.{OpenRow}
use Rattle.smb_access.specs.declared.open_row.Owner.TheVariants.{Tree as TreeOf}
use Rattle.smb_access.specs.Opens.{open_of, is_held_by}
use Rattle.smb_request.specs.declared.context.HeaderIds.{HeaderIds}
use Rattle.smb_request.specs.declared.context.Context.{Context}
use Rattle.smb_request.specs.declared.context.ContextOpen.{ContextOpen}
use Rattle.smb_request.specs.declared.context.ContextOpen.TheVariants.{Nothing as NoOpen, Named, Refused}
use Rattle.smb_request.specs.Call.{body_of, call_of}
use Rattle.smb_request.specs.Context.{first_context, named_on, open_named, open_for_next_related}
use Rattle.smb_request.specs.Laws.{request_ids}
use Rattle.smb_body.specs.Needs.{needs_of}
use Rattle.smb_request.specs.Parts.{needs_session, needs_tree, is_unsupported, is_cancel_command, dialect_after, open_refusal, number_named, performed_by}
use Rattle.smb_request.specs.Request.{verified, performed}
use Rattle.smb_request.specs.Response.{Performed}
use Rattle.smb_request.specs.State.{ServerState}
use Rattle.smb_request.proofs.Handed.{mapped_there}
use Rattle.smb_request.proofs.Verified.{by_signature}
use Rattle.smb_request_laws.specs.Acting.{command_in, is_of_anyone, is_of_a_session, is_of_a_tree, IsTurnedAway, IsNotRefusedBySuccess}
use Rattle.smb_request_laws.proofs.Turned.{need_of, needs_by, IsFailure, no_session, no_tree, no_open, turned}

-- the commands, by what they need
abbrev anyones : Command → Bool
anyones command = elim command [ Negotiate ↦ true | SessionSetup ↦ true | Echo ↦ true | _ ↦ false ]

abbrev sessions : Command → Bool
sessions command = elim command [ Negotiate ↦ true | SessionSetup ↦ true | Echo ↦ true | Logoff ↦ true | TreeConnect ↦ true | _ ↦ false ]

abbrev trees : Command → Bool
trees command = elim command [ Negotiate ↦ true | SessionSetup ↦ true | Echo ↦ true | Logoff ↦ true | TreeConnect ↦ true | TreeDisconnect ↦ true | Create ↦ true | _ ↦ false ]

session_needed : (command : Command) → anyones command ≡ false → is_cancel_command (Some command) ≡ false → is_unsupported command ≡ false → (need_of command).0 ≡ true
session_needed Negotiate a b c = cc
session_needed SessionSetup a b c = cc
session_needed Echo a b c = cc
session_needed Cancel a b c = cc
session_needed Ioctl a b c = cc
session_needed ChangeNotify a b c = cc
session_needed OplockBreak a b c = cc
session_needed other a b c = refl

tree_needed : (command : Command) → sessions command ≡ false → is_cancel_command (Some command) ≡ false → is_unsupported command ≡ false → (need_of command).1 ≡ true
tree_needed Negotiate a b c = cc
tree_needed SessionSetup a b c = cc
tree_needed Echo a b c = cc
tree_needed Logoff a b c = cc
tree_needed TreeConnect a b c = cc
tree_needed Cancel a b c = cc
tree_needed Ioctl a b c = cc
tree_needed ChangeNotify a b c = cc
tree_needed OplockBreak a b c = cc
tree_needed other a b c = refl

open_needed : (command : Command) → trees command ≡ false → is_cancel_command (Some command) ≡ false → is_unsupported command ≡ false → (need_of command).2 ≡ true
open_needed Negotiate a b c = cc
open_needed SessionSetup a b c = cc
open_needed Echo a b c = cc
open_needed Logoff a b c = cc
open_needed TreeConnect a b c = cc
open_needed TreeDisconnect a b c = cc
open_needed Create a b c = cc
open_needed Cancel a b c = cc
open_needed Ioctl a b c = cc
open_needed ChangeNotify a b c = cc
open_needed OplockBreak a b c = cc
open_needed other a b c = refl

pub and_not : (a b : Bool) → a ≡ true → b ≡ false → (a && not b) ≡ true
and_not true false p q = refl
and_not true true p q = cc
and_not false b p q = cc

-- an open that is not held is refused
not_held : (b held : Bool) → held ≡ false → IsFailure (if b && held then None else Some UnknownOpen)
not_held true held e = rw e (UnknownOpen, refl, λ h. cc)
not_held false held e = (UnknownOpen, refl, λ h. cc)

open_fails : (opens : List OpenRow) (ids : HeaderIds) (named : ContextOpen) → named ≢ Refused Success →
    option_map_or (is_held_by (TreeOf ids.session_id ids.tree_id)) (open_of opens (number_named (Some named))) false ≡ false → IsFailure (open_refusal opens ids named)
open_fails opens ids NoOpen fair e = (NoOpenHandedOn, refl, λ h. cc)
open_fails opens ids (Refused status) fair e = (CreateBeforeRefused status, refl, λ h. fair (ap (λ (s : NtStatus). Refused s) h))
open_fails opens ids (Named id) fair e = not_held (id.persistent == id.volatile) (option_map_or (is_held_by (TreeOf ids.session_id ids.tree_id)) (open_of opens id.persistent) false) e

named_fails : (opens : List OpenRow) (ids : HeaderIds) (named : Option ContextOpen) → is_some named ≡ true → ((it : ContextOpen) → named ≡ Some it → it ≢ Refused Success) →
    option_map_or (is_held_by (TreeOf ids.session_id ids.tree_id)) (open_of opens (number_named named)) false ≡ false → IsFailure (option_and_then (open_refusal opens ids) named)
named_fails opens ids None there fair e = cc
named_fails opens ids (Some it) there fair e = open_fails opens ids it (fair it refl) e

pub begins_fair : IsNotRefusedBySuccess first_context
begins_fair e = cc

-- the open that a request names is fair where that is which it inherits
abbrev pub AreFair : Option ContextOpen → Type 0
AreFair inherited = (it : ContextOpen) → inherited ≡ Some it → it ≢ Refused Success

inherited_fair : (inherited : Option ContextOpen) → AreFair inherited → unwrap_or inherited NoOpen ≢ Refused Success
inherited_fair None fair = λ h. cc
inherited_fair (Some it) fair = fair it refl

ones_fair : (inherited : Option ContextOpen) (id : FileId) (b : Bool) → AreFair inherited → (if b then unwrap_or inherited NoOpen else Named id) ≢ Refused Success
ones_fair inherited id true fair = inherited_fair inherited fair
ones_fair inherited id false fair = λ h. cc

on_fair : (inherited : Option ContextOpen) (id : Option FileId) → AreFair inherited → named_on inherited id ≢ Refused Success
on_fair inherited None fair = inherited_fair inherited fair
on_fair inherited (Some id) fair = ones_fair inherited id (id.persistent == 2 ^ 64 - 1 && id.volatile == 2 ^ 64 - 1) fair

open_fair : (inherited : Option ContextOpen) (id : FileId) → AreFair inherited → open_named inherited id ≢ Refused Success
open_fair None id fair = λ h. cc
open_fair (Some it) id fair = on_fair (Some it) (Some id) fair

mapped_fair : (inherited : Option ContextOpen) (id : Option FileId) → AreFair inherited → AreFair (option_map (open_named inherited) id)
mapped_fair inherited None fair it e = cc
mapped_fair inherited (Some id) fair it e = let is : open_named inherited id ≡ it = cc in λ h. open_fair inherited id fair (is ∙ h)

next_fair : (inherited : Option ContextOpen) (next : ℕ) (command : Option Command) (id : Option FileId) (status : NtStatus) → AreFair inherited → open_for_next_related inherited next command id status ≢ Refused Success
next_fair inherited next (Some Create) id Success fair = λ h. cc
next_fair inherited next (Some Create) id status fair = λ h. cc
next_fair inherited next command id status fair = on_fair inherited id fair

related_fair : (context : Context) (b : Bool) → IsNotRefusedBySuccess context → AreFair (if b then Some context.last_open else None)
related_fair context true fair it e = let is : context.last_open ≡ it = cc in λ h. fair (is ∙ h)
related_fair context false fair it e = cc

module _ {S : Type 0} (m : Meaning S) (connection moment : ℕ) (server : ServerState S) (dialect : Option Dialect) (context : Context) (request : List ℕ) where
  abbrev inherited : Option ContextOpen
  inherited = (call_of connection moment dialect context request).inherited

  abbrev file_id : Option FileId
  file_id = (call_of connection moment dialect context request).file_id

  abbrev charge : ℕ
  charge = (call_of connection moment dialect context request).charge

  pub without_session : is_of_anyone request ≡ false → knows_session server.sessions.table connection (request_ids context request).session_id ≡ false → IsTurnedAway server (performed m connection moment server dialect context request)
  without_session other unknown = turned m connection moment server dialect context request (λ cancel unsupported asked e.
      let needed = needs_by (λ n. n.0) anyones session_needed (command_in request) request asked other cancel unsupported e in
      no_session (nat_lt charge ((payload_of asked - 1) / 65536 + 1)) _ _ (and_not (needs_session (needs_of asked)) (knows_session server.sessions.table connection (request_ids context request).session_id) needed unknown))

  pub without_tree : is_of_a_session request ≡ false → knows_tree server.sessions.table (request_ids context request).session_id (request_ids context request).tree_id ≡ false →
      IsTurnedAway server (performed m connection moment server dialect context request)
  without_tree other unknown = turned m connection moment server dialect context request (λ cancel unsupported asked e.
      let needed = needs_by (λ n. n.1) sessions tree_needed (command_in request) request asked other cancel unsupported e in
      no_tree (nat_lt charge ((payload_of asked - 1) / 65536 + 1)) _ _ _ (and_not (needs_tree (needs_of asked)) (knows_tree server.sessions.table (request_ids context request).session_id (request_ids context request).tree_id) needed unknown))

  pub call_fair : IsNotRefusedBySuccess context → AreFair inherited
  call_fair fair = related_fair context (is_related request) fair

  pub named_fair : IsNotRefusedBySuccess context → AreFair (option_map (open_named inherited) file_id)
  named_fair fair = mapped_fair inherited file_id (call_fair fair)

  pub without_open : IsNotRefusedBySuccess context → is_of_a_tree request ≡ false →
      option_map_or (is_held_by (TreeOf (request_ids context request).session_id (request_ids context request).tree_id)) (open_of server.store.opens (call_of connection moment dialect context request).open_number) false ≡ false →
      IsTurnedAway server (performed m connection moment server dialect context request)
  without_open fair other none = turned m connection moment server dialect context request (λ cancel unsupported asked e.
      let needed = needs_by (λ n. n.2) trees open_needed (command_in request) request asked other cancel unsupported e in
      let id : is_some file_id ≡ true = ap (λ (o : Option RequestValue). is_some (option_and_then file_id_of o)) e ∙ needed in
      no_open (nat_lt charge ((payload_of asked - 1) / 65536 + 1)) _ _ _ (named_fails server.store.opens (request_ids context request) (option_map (open_named inherited) file_id) (mapped_there (open_named inherited) file_id id) (named_fair fair) none))

  verified_stays_fair : IsNotRefusedBySuccess context → IsNotRefusedBySuccess (verified m connection moment server dialect context request).context
  unfolding verified
  verified_stays_fair fair =
      let call = call_of connection moment dialect context request in
      elim (is_cancel_command call.command) as (λ b. IsNotRefusedBySuccess (let x : Performed S = if b then record {
        server = server;
        dialect = dialect;
        context = record { ids = call.ids; last_open = named_on call.inherited call.file_id };
        response = None;
      } else record {
        server = (performed_by m server call (body_of call.command request)).server;
        dialect = option_map_or (dialect_after dialect) (body_of call.command request) dialect;
        context = record {
          ids = (performed_by m server call (body_of call.command request)).response.ids;
          last_open = open_for_next_related call.inherited server.store.next call.command call.file_id (performed_by m server call (body_of call.command request)).response.status;
        };
        response = Some (performed_by m server call (body_of call.command request)).response;
      } in x).context) [
        | true ↦ on_fair call.inherited call.file_id (call_fair fair)
        | false ↦ next_fair call.inherited server.store.next call.command call.file_id _ (call_fair fair)
      ]

  pub stays_fair : IsNotRefusedBySuccess context → IsNotRefusedBySuccess (performed m connection moment server dialect context request).context
  stays_fair fair =
      by_signature m connection moment server dialect context request (λ done. IsNotRefusedBySuccess done.context)
      (λ refusal. next_fair inherited server.store.next (command_in request) file_id _ (call_fair fair))
      (verified_stays_fair fair)
