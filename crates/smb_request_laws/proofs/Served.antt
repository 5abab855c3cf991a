-- Whoever may is served.
use Rattle.std.proofs.Common.{◌≡◌, ◌≢◌, ◌==◌, ◌&&◌, ◌-◌, ◌/◌, ◌+◌, ◌≤◌, ◌∙◌, ℕ, nat_lt, Bool, true, false, not, if◌then◌else◌, List, Option, None, Some, is_some, refl, ap, arith}
use Rattle.std.proofs.lemmas.Bool.{eq-eqb}
use Rattle.std.proofs.lemmas.Bool.Decides.{nat_tests}
use Rattle.std.specs.Option.{is_none, option_map, option_map_or, option_and_then}
use Rattle.smb_wire.specs.Limits.{most_at_once}
use Rattle.smb_wire.specs.declared.file_id.FileId.{FileId}
use Rattle.smb_wire.specs.declared.nt_status.NtStatus.{NtStatus}
use Rattle.smb_wire.specs.declared.nt_status.NtStatus.TheVariants.{Success, FileClosed}
use Rattle.smb_refusals.specs.declared.refusal.Refusal.{Refusal}
use Rattle.smb_refusals.specs.declared.request.RequestRefusal.{RequestRefusal}
use Rattle.smb_refusals.specs.declared.request.RequestRefusal.TheVariants.{UnknownCommand, CommandNotPerformed, BodyUnreadable, ChargeTooSmall, UnknownTreeConnect, UnknownOpen}
use Rattle.smb_refusals.specs.Refusals.{refusal_status}
use Rattle.smb_refusals.specs.Rows.{RefusalRow, first_refusal, first_status, with_statuses}
use Rattle.smb_refusals.proofs.Fails.{read_fails, write_fails}
use Rattle.smb_refusals.proofs.RowLemmas.{unrefused}
use Rattle.smb_head.specs.Headers.{header_of}
use Rattle.smb_body.specs.Requests.{RequestValue, payload_of, file_id_of, asks_session_setup, asks_read, asks_write, asks_echo}
use Rattle.smb_body.specs.SessionSetup.{SessionSetupAsked}
use Rattle.smb_body.specs.Write.{WriteAsked}
use Rattle.smb_body.specs.declared.read.ReadRequest.{ReadRequest}
use Rattle.smb_body.specs.declared.reserved.ReservedRequest.{ReservedRequest}
use Rattle.smb_session.specs.Authenticator.{Meaning, accepts}
use Rattle.smb_session.specs.Laws.{setup_number}
use Rattle.smb_session.specs.Setup.{setup_refusal}
use Rattle.smb_session.specs.Table.{knows_session, knows_tree, signing_of}
use Rattle.smb_session.specs.declared.signing.Signing.{Signing}
use Rattle.smb_access.specs.declared.view.View.{View}
use Rattle.smb_opens.specs.Bytes.{read_refusals, read_status, write_refusals, write_status}
use Rattle.smb_opens.specs.State.{StoreState}
use Rattle.smb_opens.specs.Views.{open_view, refusal_through, status_through}
use Rattle.smb_request.specs.declared.context.ContextOpen.{ContextOpen}
use Rattle.smb_request.specs.declared.context.ContextOpen.TheVariants.{Named}
use Rattle.smb_request.specs.declared.context.HeaderIds.{HeaderIds}
use Rattle.smb_request.specs.Bytes.{file_read, file_written}
use Rattle.smb_request.specs.Call.{body_of, call_of}
use Rattle.smb_request.specs.Charge.{charge_of}
use Rattle.smb_request.specs.Context.{open_named}
use Rattle.smb_request.specs.Laws.{request_ids}
use Rattle.smb_body.specs.Needs.{needs_of}
use Rattle.smb_request.specs.Parts.{needs_session, needs_tree, is_unsupported, is_cancel_command, open_refusal, number_named, performed_by}
use Rattle.smb_request.specs.Request.{check_request, acted, signature_refusal, verified, performed}
use Rattle.smb_request.specs.Response.{CommandStep, refused, through_open, unless_refused}
use Rattle.smb_request.specs.Session.{session_set_up}
use Rattle.smb_request.specs.State.{ServerState}
use Rattle.smb_request_laws.specs.Acting.{command_in}
use Rattle.smb_request_laws.specs.Doing.{Sent, answered}
use Rattle.smb_request_laws.specs.Serving.{Asks, IsOfItsOwn, response_status}
use Rattle.smb_request_laws.proofs.Answered.{command_for, says_command}
use Rattle.smb_request_laws.proofs.Done.{acts}

-- a step that no check refuses
acts_by : {S : Type 0} (server : ServerState S) (ids : HeaderIds) (check : RequestValue → Option RequestRefusal) (act : RequestValue → CommandStep S) (unsupported unknown : Bool) (body : Option RequestValue) (asked : RequestValue) →
    unsupported ≡ false → body ≡ Some asked → check asked ≡ None →
    (let x : CommandStep S = if unsupported then refused server ids (Refusal.Request CommandNotPerformed) else
    option_map_or (λ asked. unless_refused server ids (option_map (λ refusal. Refusal.Request refusal) (check asked)) (act asked)) body
    (refused server ids (Refusal.Request (if unknown then UnknownCommand else BodyUnreadable))) in x) ≡ act asked
acts_by server ids check act true unknown body asked u b c = cc
acts_by server ids check act false unknown None asked u b c = cc
acts_by server ids check act false unknown (Some other) asked u b c = let is : other ≡ asked = cc in rw is (rw c refl)

checks_pass : (charge session joined : Bool) (rest : Option RequestRefusal) → charge ≡ false → session ≡ false → joined ≡ false → rest ≡ None →
    (if charge then Some ChargeTooSmall else if session then Some RequestRefusal.UnknownSession else if joined then Some UnknownTreeConnect else rest) ≡ None
checks_pass true session joined rest c s j r = cc
checks_pass false true joined rest c s j r = cc
checks_pass false false true rest c s j r = cc
checks_pass false false false rest c s j r = r

-- what is asked through an open whose table has the status SUCCESS is not refused
passes_at : {R : Type 0} (name : R → Refusal) → ((row : R) → refusal_status (name row) ≢ Success) → (rows : View → List (RefusalRow R)) (o : Option View) →
    option_map_or (λ view. first_status (with_statuses name (rows view))) o FileClosed ≡ Success →
    (let x : Option Refusal = if is_some o then option_map name (option_and_then (λ view. first_refusal (rows view)) o) else Some (Refusal.Request UnknownOpen) in x) ≡ None
passes_at name fails rows None e = cc
passes_at name fails rows (Some view) e = ap (option_map name) (unrefused name fails (rows view) e)

table_passes : {R : Type 0} (name : R → Refusal) → ((row : R) → refusal_status (name row) ≢ Success) → (store : StoreState) (number : ℕ) (rows : View → List (RefusalRow R)) →
    status_through store number (λ view. with_statuses name (rows view)) ≡ Success → through_open store number (option_map name (refusal_through store number rows)) ≡ None
table_passes name fails store number rows e = passes_at name fails rows (open_view store number) e

supported : (asked : RequestValue) → is_unsupported (command_for asked) ≡ false
supported asked = grind (arith)

module _ {S : Type 0} (m : Meaning S) (it : Sent S) where
  -- its signature does not refuse it
  abbrev Passes : Type 0
  Passes = signature_refusal (signing_of it.server.sessions.table it.connection (request_ids it.context it.request).session_id) it.request ≡ None

  step_told : is_cancel_command (command_in it.request) ≡ false → Passes →
      response_status (answered m it) ≡ Some (performed_by m it.server (call_of it.connection it.moment it.dialect it.context it.request) (body_of (command_in it.request) it.request)).response.status
  unfolding performed verified
  step_told other passes = rw (other, passes) refl

  served : (asked : RequestValue) → body_of (command_in it.request) it.request ≡ Some asked → Passes → is_cancel_command (Some (command_for asked)) ≡ false →
      check_request it.server (call_of it.connection it.moment it.dialect it.context it.request) asked ≡ None → (acts m it asked).response.status ≡ Success → response_status (answered m it) ≡ Some Success
  served asked says passes other e h =
      let call = call_of it.connection it.moment it.dialect it.context it.request in
      let command = says_command (command_in it.request) it.request asked says in
      let cancel = ap is_cancel_command command ∙ other in
      let unsupported = ap (λ c. option_map_or is_unsupported c false) command ∙ supported asked in
      let step = acts_by it.server call.ids (check_request it.server call) (acted m it.server call) (option_map_or is_unsupported (command_in it.request) false) (is_none (command_in it.request)) (body_of (command_in it.request) it.request) asked unsupported says e in
      step_told cancel passes ∙ ap (λ (s : CommandStep S). Some s.response.status) step ∙ ap (λ (s : NtStatus). Some s) h

  not_less : (a b : ℕ) → a ≤ b → nat_lt b a ≡ false
  not_less a b h = grind (arith, nat_tests, h)

  abbrev ids : HeaderIds
  ids = request_ids it.context it.request

  abbrev inherited : Option ContextOpen
  inherited = (call_of it.connection it.moment it.dialect it.context it.request).inherited

  abbrev file_id : Option FileId
  file_id = (call_of it.connection it.moment it.dialect it.context it.request).file_id

  file_id_is : (asked : RequestValue) → body_of (command_in it.request) it.request ≡ Some asked → file_id ≡ file_id_of asked
  file_id_is asked says = ap (option_and_then file_id_of) says

  charge_passes : (asked : RequestValue) → Asks it asked → nat_lt (call_of it.connection it.moment it.dialect it.context it.request).charge ((payload_of asked - 1) / 65536 + 1) ≡ false
  charge_passes asked h = not_less ((payload_of asked - 1) / 65536 + 1) (charge_of it.dialect (header_of it.request).credit_charge) h.charged

  none_named : (id : Option FileId) → id ≡ None → option_and_then (open_refusal it.server.store.opens ids) (option_map (open_named inherited) id) ≡ None
  none_named id e = rw e refl

  -- ECHO
  pub echo_answered : (asked : ReservedRequest) → Asks it (asks_echo asked) → response_status (answered m it) ≡ Some Success
  echo_answered asked h =
      served (asks_echo asked) h.says h.passes refl (checks_pass
      (nat_lt (call_of it.connection it.moment it.dialect it.context it.request).charge ((payload_of (asks_echo asked) - 1) / 65536 + 1))
      false false
      (option_and_then (open_refusal it.server.store.opens ids) (option_map (open_named inherited) file_id))
      (charge_passes (asks_echo asked) h) refl refl (none_named file_id (file_id_is (asks_echo asked) h.says))) refl

  -- SESSION_SETUP
  set_up_succeeds : (asked : SessionSetupAsked) (user : List ℕ) (flags : ℕ) (read_only : Bool) (signing : Option Signing) (token : List ℕ) → setup_refusal it.server.sessions.table it.connection ids.session_id asked.flags.0 ≡ None →
      m.answer it.server.sessions.authenticator (setup_number it.server.sessions.table ids.session_id) asked.security_buffer ≡ accepts user flags read_only signing token → (acts m it (asks_session_setup asked)).response.status ≡ Success
  unfolding session_set_up
  set_up_succeeds asked user flags read_only signing token e a = rw (e, a) refl

  pub set_up_told : (asked : SessionSetupAsked) (user : List ℕ) (flags : ℕ) (read_only : Bool) (signing : Option Signing) (token : List ℕ) → Asks it (asks_session_setup asked) → setup_refusal it.server.sessions.table it.connection ids.session_id asked.flags.0 ≡ None →
      m.answer it.server.sessions.authenticator (setup_number it.server.sessions.table ids.session_id) asked.security_buffer ≡ accepts user flags read_only signing token → response_status (answered m it) ≡ Some Success
  set_up_told asked user flags read_only signing token h e a =
      served (asks_session_setup asked) h.says h.passes refl (checks_pass
      (nat_lt (call_of it.connection it.moment it.dialect it.context it.request).charge ((payload_of (asks_session_setup asked) - 1) / 65536 + 1))
      false false
      (option_and_then (open_refusal it.server.store.opens ids) (option_map (open_named inherited) file_id))
      (charge_passes (asks_session_setup asked) h) refl refl (none_named file_id (file_id_is (asks_session_setup asked) h.says))) (set_up_succeeds asked user flags read_only signing token e a)

  -- READ and WRITE
  named_is : (asked : RequestValue) (id : FileId) → Asks it asked → file_id_of asked ≡ Some id → IsOfItsOwn it id → option_map (open_named inherited) file_id ≡ Some (Named id)
  named_is asked id h e own = rw (file_id_is asked h.says, e, own.alone) refl

  held_passes : (id : FileId) → IsOfItsOwn it id → open_refusal it.server.store.opens ids (Named id) ≡ None
  held_passes id own =
      let halves : (id.persistent == id.volatile) ≡ true = eq-eqb id.persistent id.volatile own.halves in
      rw (halves, own.held) refl

  opened_is : (asked : RequestValue) (id : FileId) → Asks it asked → file_id_of asked ≡ Some id → IsOfItsOwn it id → (call_of it.connection it.moment it.dialect it.context it.request).open_number ≡ id.persistent
  opened_is asked id h e own = ap (λ (named : Option ContextOpen). number_named named) (named_is asked id h e own)

  own_passes : (asked : RequestValue) (id : FileId) → Asks it asked → file_id_of asked ≡ Some id → needs_session (needs_of asked) ≡ true → needs_tree (needs_of asked) ≡ true → IsOfItsOwn it id →
      check_request it.server (call_of it.connection it.moment it.dialect it.context it.request) asked ≡ None
  own_passes asked id h e s t own = checks_pass
      (nat_lt (call_of it.connection it.moment it.dialect it.context it.request).charge ((payload_of asked - 1) / 65536 + 1))
      (needs_session (needs_of asked) && not (knows_session it.server.sessions.table it.connection ids.session_id))
      (needs_tree (needs_of asked) && not (knows_tree it.server.sessions.table ids.session_id ids.tree_id))
      (option_and_then (open_refusal it.server.store.opens ids) (option_map (open_named inherited) file_id))
      (charge_passes asked h) (rw (s, own.session) refl) (rw (t, own.tree) refl) (ap (option_and_then (open_refusal it.server.store.opens ids)) (named_is asked id h e own) ∙ held_passes id own)

  row_served : (server : ServerState S) (refusal : Option Refusal) (done : CommandStep S) → refusal ≡ None → done.response.status ≡ Success → (unless_refused server ids refusal done).response.status ≡ Success
  row_served server refusal done e h = rw e h

  pub read_succeeds : (asked : ReadRequest) → Asks it (asks_read asked) → IsOfItsOwn it asked.file_id →
      read_status it.server.store (most_at_once it.dialect) asked.file_id.persistent asked.offset asked.length asked.minimum_count ≡ Success → response_status (answered m it) ≡ Some Success
  unfolding file_read
  read_succeeds asked h own e =
      let store = it.server.store in
      let number = (call_of it.connection it.moment it.dialect it.context it.request).open_number in
      let own_number = opened_is (asks_read asked) asked.file_id h refl own in
      let status = ap (λ n. read_status store (most_at_once it.dialect) n asked.offset asked.length asked.minimum_count) own_number ∙ e in
      served (asks_read asked) h.says h.passes refl (own_passes (asks_read asked) asked.file_id h refl refl refl own)
      (row_served it.server _ _ (table_passes (λ refusal. Refusal.Read refusal) read_fails store number (read_refusals store (most_at_once it.dialect) number asked.offset asked.length asked.minimum_count) status) refl)

  pub write_succeeds : (asked : WriteAsked) → Asks it (asks_write asked) → IsOfItsOwn it asked.file_id →
      write_status it.server.store (most_at_once it.dialect) asked.file_id.persistent asked.offset asked.buffer ≡ Success → response_status (answered m it) ≡ Some Success
  unfolding file_written
  write_succeeds asked h own e =
      let store = it.server.store in
      let number = (call_of it.connection it.moment it.dialect it.context it.request).open_number in
      let own_number = opened_is (asks_write asked) asked.file_id h refl own in
      let status = ap (λ n. write_status store (most_at_once it.dialect) n asked.offset asked.buffer) own_number ∙ e in
      served (asks_write asked) h.says h.passes refl (own_passes (asks_write asked) asked.file_id h refl refl refl own)
      (row_served it.server _ _ (table_passes (λ refusal. Refusal.Write refusal) write_fails store number (write_refusals store (most_at_once it.dialect) number asked.offset asked.buffer) status) refl)
