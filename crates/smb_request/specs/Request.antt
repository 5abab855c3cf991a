-- One request: the checks in their order, and the table of commands ([MS-SMB2] 3.3.5.2).
use Rattle.std.specs.Prelude.{ℕ, ◌+◌, ◌-◌, ◌/◌, ◌==◌, Bool, ◌&&◌, true, false, not, nat_lt, List, Option, Some, None, is_some, if◌then◌else◌}
use Rattle.std.specs.Option.{is_none, option_map, option_map_or, option_and_then}
use Rattle.std.specs.Str.{bytes_eq}
use Rattle.smb_wire.specs.Dialects.{revision_of}
use Rattle.smb_wire.specs.declared.dialect.Dialect.{Dialect}
use Rattle.smb_session.specs.Authenticator.{Meaning}
use Rattle.smb_session.specs.Negotiate.{best_of}
use Rattle.smb_session.specs.Table.{knows_session, knows_tree, signing_of}
use Rattle.smb_session.specs.declared.signing.Signing.{Signing}
use Rattle.smb_signing.specs.Signature.{signature}
use Rattle.smb_signing.specs.declared.key.Key.{Key}
use Rattle.smb_head.specs.Headers.{header_of}
use Rattle.smb_head.specs.Chains.{is_signed}
use Rattle.smb_wire.specs.declared.command.Command.{Command}
use Rattle.smb_wire.specs.declared.command.Command.TheVariants.{Ioctl, Cancel, ChangeNotify, OplockBreak, SessionSetup}
use Rattle.smb_access.specs.declared.open_row.Owner.{Owner}
use Rattle.smb_access.specs.Opens.{open_of, is_held_by}
use Rattle.smb_body.specs.Requests.{RequestValue, payload_of, request_of, asks_negotiate, asks_session_setup, asks_logoff, asks_tree_connect, asks_tree_disconnect, asks_create, asks_close, asks_flush, asks_read, asks_write, asks_lock, asks_cancel, asks_echo, asks_query_directory, asks_query_info, asks_set_info}
use Rattle.smb_body.specs.Replies.{answers_flush, answers_echo}
use Rattle.smb_request.specs.declared.call.Call.{Call}
use Rattle.smb_request.specs.declared.context.Context.{Context}
use Rattle.smb_request.specs.declared.context.HeaderIds.{HeaderIds}
use Rattle.smb_request.specs.declared.context.ContextOpen.{ContextOpen}
use Rattle.smb_request.specs.declared.context.ContextOpen.TheVariants.{Nothing, Named, Refused}
use Rattle.smb_wire.specs.declared.nt_status.NtStatus.{NtStatus}
use Rattle.smb_wire.specs.declared.nt_status.NtStatus.TheVariants.{Success}
use Rattle.smb_refusals.specs.declared.refusal.Refusal.{Refusal}
use Rattle.smb_refusals.specs.declared.request.RequestRefusal.{RequestRefusal}
use Rattle.smb_refusals.specs.declared.request.RequestRefusal.TheVariants.{NotSigned, SignatureWrong, UnknownCommand, CommandNotPerformed, BodyUnreadable, ChargeTooSmall, UnknownTreeConnect, NoOpenHandedOn, CreateBeforeRefused, UnknownOpen}
use Rattle.smb_refusals.specs.declared.request.NegotiateRefusal.TheVariants.{NoDialect}
use Rattle.smb_request.specs.Call.{call_of, request_ids}
use Rattle.smb_wire.specs.Commands.{code_of}
use Rattle.smb_request.specs.Context.{open_named, open_for_next_related, named_on}
use Rattle.smb_body.specs.Needs.{needs_of}
use Rattle.smb_body.specs.declared.needs.Needs.TheVariants.{Session, Tree, Open}
use Rattle.smb_request.specs.Negotiate.{negotiate_answer}
use Rattle.smb_request.specs.State.{ServerState}
use Rattle.smb_request.specs.Response.{CommandStep, Performed, with_body, failure, refused, unless_refused}
use Rattle.smb_request.specs.Session.{session_set_up, session_logged_off, tree_joined, tree_left}
use Rattle.smb_request.specs.Files.{file_created, file_closed}
use Rattle.smb_request.specs.Bytes.{file_read, file_written}
use Rattle.smb_request.specs.Locks.{locks_changed}
use Rattle.smb_request.specs.QueryDirectory.{directory_queried}
use Rattle.smb_request.specs.QueryInfo.{information_queried}
use Rattle.smb_request.specs.SetInfo.{information_set}

module _ {S : Type 0} (authenticator : Meaning S) (server : ServerState S) (call : Call) where
  -- the table of commands: a request that passed its checks. NEGOTIATE is answered by the greatest dialect of the
  -- server's that its body lists (3.3.5.4); FLUSH finds what was written in the store already (3.3.5.11)
  abbrev pub acted : RequestValue → CommandStep S
  acted (asks_negotiate asked) = option_map_or
      (λ best. record {
        server = server;
        response = with_body call.ids Success (negotiate_answer
            (authenticator.requires_signing server.sessions.authenticator)
            server.settings.guid
            (authenticator.hello server.sessions.authenticator)
            call.moment
            (Some best)
            (revision_of best));
      })
      (best_of asked.dialects)
      (refused server call.ids (Refusal.Negotiate NoDialect))
  acted (asks_session_setup asked) = session_set_up authenticator server call asked
  acted (asks_logoff asked) = session_logged_off server call
  acted (asks_tree_connect asked) = tree_joined server call asked.path
  acted (asks_tree_disconnect asked) = tree_left server call
  acted (asks_create asked) = file_created server call asked
  acted (asks_close asked) = file_closed server call asked.flags
  acted (asks_flush asked) = record { server = server; response = with_body call.ids Success answers_flush }
  acted (asks_read asked) = file_read server call asked
  acted (asks_write asked) = file_written server call asked
  acted (asks_lock asked) = locks_changed server call asked.locks
  -- never the step of a CANCEL, which `verified` passes over
  acted (asks_cancel asked) = refused server call.ids (Refusal.Request CommandNotPerformed)
  acted (asks_echo asked) = record { server = server; response = with_body call.ids Success answers_echo }
  acted (asks_query_directory asked) = directory_queried server call asked
  acted (asks_query_info asked) = information_queried server call asked
  acted (asks_set_info asked) = information_set server call asked

-- why a request whose body is read is refused, by the rows of docs/PROFILE.md
abbrev pub check_request : {S : Type 0} → ServerState S → Call → RequestValue → Option RequestRefusal
check_request server call asked =
    let ids = call.ids in
    -- P3b. it takes fewer MessageIds than it has to: 1, and 1 more for each further 65,536 bytes, begun or whole, that
    -- it sends or asks for (3.3.5.2.5)
    if nat_lt call.charge ((payload_of asked - 1) / 65536 + 1) then Some ChargeTooSmall else
    -- P4. it needs a session, and the SessionId is that of no finished session of the connection (3.3.5.2.9)
    let needs_session : Bool = elim (needs_of asked) [ Session ↦ true | Tree ↦ true | Open ↦ true | _ ↦ false ] in
    if needs_session && not (knows_session server.sessions.table call.connection ids.session_id)
    then Some RequestRefusal.UnknownSession else
    -- P5. it needs a tree connect, and the TreeId is that of none of the session (3.3.5.2.11)
    let needs_tree : Bool = elim (needs_of asked) [ Tree ↦ true | Open ↦ true | _ ↦ false ] in
    if needs_tree && not (knows_tree server.sessions.table ids.session_id ids.tree_id)
    then Some UnknownTreeConnect else
    -- by the open that its FileId names; in a related request one of all ones names that which it inherits
    option_and_then
    (λ (named : ContextOpen). elim named [
      -- P6. it inherits no open (3.3.5.2.7.2)
      | Nothing ↦ Some NoOpenHandedOn
      -- P7. it inherits the open that a CREATE was to make, which was refused by this status (3.3.5.2.7.2)
      | Refused status ↦ Some (CreateBeforeRefused status)
      -- P8. the FileId is that of no open of its session and tree connect: both its halves are the open's number
      -- (3.3.5.10)
      | Named id ↦
          if id.persistent == id.volatile
          && option_map_or
          (is_held_by (Owner.Tree ids.session_id ids.tree_id))
          (open_of server.store.opens id.persistent)
          false
          then None else Some UnknownOpen
    ])
    (option_map (open_named call.inherited) call.file_id)

-- a request whose signature does not refuse it: what it leaves, and its response. It is refused by the first row that
-- holds, or performed; but a CANCEL is passed over and not answered (3.3.5.16). The next related request acts under the
-- ids of the response (3.3.5.2.7.2), behind a CANCEL under those of the CANCEL
unfoldable pub verified : {S : Type 0} → Meaning S → ℕ → ℕ → ServerState S → Option Dialect → Context → List ℕ → Performed S
verified authenticator connection moment server dialect context request =
    let call = call_of connection moment dialect context request in
    let body : Option RequestValue = option_and_then (λ command. request_of (code_of command) request) call.command in
    let is_unsupported : Command → Bool =
    λ command. elim command [ Ioctl ↦ true | ChangeNotify ↦ true | OplockBreak ↦ true | _ ↦ false ] in
    let is_cancel : Bool = option_map_or (λ command. elim command [ Cancel ↦ true | _ ↦ false ]) call.command false in
    let step =
    -- P2. a command that this server does not perform
    if option_map_or is_unsupported call.command false then refused server call.ids (Refusal.Request CommandNotPerformed) else
    option_map_or
    (λ asked. unless_refused server call.ids
    (option_map (λ refusal. Refusal.Request refusal) (check_request server call asked))
    (acted authenticator server call asked))
    body
    -- P1. no such command; P3. a body that cannot be read
    (refused server call.ids (Refusal.Request (if is_none call.command then UnknownCommand else BodyUnreadable))) in
    if is_cancel
    then record {
      server = server;
      dialect = dialect;
      context = record { ids = call.ids; last_open = named_on call.inherited call.file_id };
      response = None;
    }
    else record {
      server = step.server;
      -- the dialect of the connection is that by which a NEGOTIATE was answered. No row refuses one whose body is read:
      -- it sends and asks for no bytes, needs no session and names no open
      dialect = option_map_or
          (λ (asked : RequestValue). elim asked [
            | asks_negotiate it ↦ option_map_or (λ best. Some best) (best_of it.dialects) dialect
            | _ ↦ dialect
          ])
          body
          dialect;
      context = record {
        ids = step.response.ids;
        last_open = open_for_next_related call.inherited server.store.next call.command call.file_id step.response.status;
      };
      response = Some step.response;
    }

-- why a request is refused by its signature, where the messages of its session are signed so (3.3.5.2.4)
abbrev pub signature_refusal : Option Signing → List ℕ → Option RequestRefusal
signature_refusal signing request = option_and_then
    (λ (signing : Signing).
    -- P0a. it is not signed, and each request of the session is to be
    if not (is_signed request) then (if signing.required then Some NotSigned else None) else
    -- P0b. its signature is another than the key's
    if bytes_eq (header_of request).signature (signature signing.key.bytes request) then None else Some SignatureWrong)
    signing

-- a request that is refused by its signature, which changes nothing
abbrev pub refused_by_signature : {S : Type 0} → ServerState S → Call → Option Dialect → RequestRefusal → Performed S
refused_by_signature server call dialect refusal =
    let response = failure call.ids (Refusal.Request refusal) in
    record {
      server = server;
      dialect = dialect;
      context = record {
        ids = call.ids;
        last_open = open_for_next_related call.inherited server.store.next call.command call.file_id response.status;
      };
      response = Some response;
    }

-- one request: what it leaves, and its response. It is refused by its signature, or else verified; a CANCEL is never
-- answered, whatever its signature
unfoldable pub performed : {S : Type 0} → Meaning S → ℕ → ℕ → ServerState S → Option Dialect → Context → List ℕ → Performed S
performed authenticator connection moment server dialect context request =
    let call = call_of connection moment dialect context request in
    let is_cancel : Bool = option_map_or (λ command. elim command [ Cancel ↦ true | _ ↦ false ]) call.command false in
    option_map_or
    (refused_by_signature server call dialect)
    (if is_cancel then None else
    signature_refusal (signing_of server.sessions.table connection call.ids.session_id) request)
    (verified authenticator connection moment server dialect context request)

-- a SESSION_SETUP that succeeds, by its command's code and its status: it lets a session in (3.3.5.5.3)
abbrev pub is_set_up : ℕ → NtStatus → Bool
is_set_up command status = elim status [ Success ↦ true | _ ↦ false ] && command == code_of SessionSetup

-- the key that the response to a request is signed by (3.3.4.1.1): to a request that is signed that of the session that
-- it acts under, as this was before the request; to a SESSION_SETUP that lets a session in that of this session. The
-- response has these ids and this status
abbrev pub response_key : {S : Type 0} → ServerState S → ServerState S → ℕ → Context → List ℕ → HeaderIds → NtStatus → Option Key
response_key before after connection context request ids status =
    let own = signing_of before.sessions.table connection (request_ids context request).session_id in
    option_map (λ (signing : Signing). signing.key) (
    if is_some own && is_signed request then own else
    if is_set_up (header_of request).command.0 status then signing_of after.sessions.table connection ids.session_id else
    None)
