-- What a request does that is answered by SUCCESS.
use Rattle.std.proofs.Common.{◌≡◌, Bool, true, false, not, cond, List, [], ◌∷◌, length, filter, Option, None, Some, unwrap_or, refl, sym, ap, ◌∙◌}
use Rattle.std.specs.Option.{option_map, option_map_or}
use Rattle.smb_wire.specs.Limits.{most_at_once}
use Rattle.smb_wire.specs.declared.nt_status.NtStatus.TheVariants.{Success}
use Rattle.smb_refusals.specs.declared.refusal.Refusal.{Refusal}
use Rattle.smb_refusals.specs.declared.file.CloseRefusal.{CloseRefusal}
use Rattle.smb_refusals.proofs.Fails.{logoff_fails, create_fails, close_fails, read_fails, write_fails}
use Rattle.smb_body.specs.Create.{CreateAsked}
use Rattle.smb_body.specs.Replies.{reply_spelling, answers_read, answers_write, answers_close, answers_logoff}
use Rattle.smb_body.specs.Requests.{RequestValue, asks_logoff, asks_create, asks_close, asks_read, asks_write}
use Rattle.smb_body.specs.Write.{WriteAsked}
use Rattle.smb_body.specs.declared.close.CloseFlags.{CloseFlags}
use Rattle.smb_body.specs.declared.close.CloseRequest.{CloseRequest}
use Rattle.smb_body.specs.declared.read.ReadRequest.{ReadRequest}
use Rattle.smb_body.specs.declared.reserved.ReservedRequest.{ReservedRequest}
use Rattle.smb_session.specs.Authenticator.{Meaning}
use Rattle.smb_session.specs.Parts.{logoff_refusal}
use Rattle.smb_session.specs.Table.{read_only_of, session_ended}
use Rattle.smb_access.specs.declared.open_row.OpenRow.{OpenRow}
use Rattle.smb_access.specs.declared.open_row.Owner.TheVariants.{Session}
use Rattle.smb_access.specs.declared.view.View.{View}
use Rattle.smb_access.specs.Opens.{is_held_by}
use Rattle.smb_opens.specs.Bytes.{read_refusal, file_bytes, write_refusal, written_to}
use Rattle.smb_opens.specs.Close.{closed, closed_all}
use Rattle.smb_opens.specs.Create.{create_refusal}
use Rattle.smb_opens.specs.Effect.{created}
use Rattle.smb_opens.specs.Views.{open_view}
use Rattle.smb_request.specs.Bytes.{file_read, file_written}
use Rattle.smb_request.specs.Call.{call_of}
use Rattle.smb_request.specs.Files.{file_created, file_closed}
use Rattle.smb_request.specs.Laws.{IsInOrder, IsOver, request_ids}
use Rattle.smb_request.specs.Parts.{close_response, file_asked, success}
use Rattle.smb_request.specs.Request.{acted}
use Rattle.smb_request.specs.Response.{CommandStep, ResponseState, refused, through_open, with_body}
use Rattle.smb_request.specs.Session.{may_only_read, session_logged_off}
use Rattle.smb_request.specs.State.{ServerState}
use Rattle.smb_request.proofs.Leaving.{gone}
use Rattle.smb_request.proofs.Numbers.{others_left}
use Rattle.smb_request_laws.specs.Doing.{Sent, answered, open_asked, response_body, create_ask, Succeeds}
use Rattle.smb_request_laws.proofs.Answered.{step_by, comes_to, row_done, table_fails, through_fails}

-- a request that succeeds does what its command does
pub record IsActed {S : Type 0} (act : CommandStep S) (server : ServerState S) (response : Option ResponseState) : Type 0 where
  pub server_is : server ≡ act.server
  pub response_is : response ≡ Some act.response
  pub succeeded : act.response.status ≡ Success

some_is : {X : Type 0} (x y : X) → Some x ≡ Some y → x ≡ y
some_is x y e = cc

module _ {S : Type 0} (m : Meaning S) (it : Sent S) where
  abbrev pub acts : RequestValue → CommandStep S
  acts asked = acted m it.server (call_of it.connection it.moment it.dialect it.context it.request) asked

  pub is_acted : (asked : RequestValue) → Succeeds it (answered m it) asked → IsActed (acts asked) (answered m it).server (answered m it).response
  is_acted asked h =
      comes_to m it.connection it.moment it.server it.dialect it.context it.request
      (λ server response. option_map (λ r. r.status) response ≡ Some Success → IsActed (acts asked) server response)
      (λ e. cc)
      (λ e. step_by m it.connection it.moment it.server it.dialect it.context it.request
      (λ step. step.response.status ≡ Success → IsActed (acts asked) step.server (Some step.response))
      (λ refusal fails is. absurd (fails h.context is))
      (λ other says t is. (
      let same : other ≡ asked = some_is other asked (sym says ∙ h.says) in
      rw same (record { server_is = refl; response_is = refl; succeeded = ap (λ a. (acts a).response.status) (sym same) ∙ is })))
      (some_is _ _ e))
      h.status

-- each command
module _ {S : Type 0} (server : ServerState S) where
  read_done : (call : _) (asked : ReadRequest) → (file_read server call asked).response.status ≡ Success →
      ((file_read server call asked).response.body ≡ reply_spelling (answers_read (file_bytes server.store call.open_number asked.offset asked.length))) × ((file_read server call asked).server ≡ server)
  unfolding file_read
  read_done call asked h =
      let refusal = option_map (λ refusal. Refusal.Read refusal) (read_refusal server.store (most_at_once call.dialect) call.open_number asked.offset asked.length asked.minimum_count) in
      let is = (row_done server call.ids (through_open server.store call.open_number refusal) (record {
        server = server;
        response = with_body call.ids Success (answers_read (file_bytes server.store call.open_number asked.offset asked.length));
      }) (through_fails server.store call.open_number refusal (table_fails (λ refusal. Refusal.Read refusal) read_fails _)) h).1 in
      (ap (λ (s : CommandStep S). s.response.body) is, ap (λ (s : CommandStep S). s.server) is)

  written_done : (call : _) (asked : WriteAsked) → (file_written server call asked).response.status ≡ Success →
      ((file_written server call asked).server.store ≡ written_to server.store call.open_number asked.offset asked.buffer call.moment)
      × ((file_written server call asked).response.body ≡ reply_spelling (answers_write (record { count = length asked.buffer })))
  unfolding file_written
  written_done call asked h =
      let refusal = option_map (λ refusal. Refusal.Write refusal) (write_refusal server.store (most_at_once call.dialect) call.open_number asked.offset asked.buffer) in
      let is = (row_done server call.ids (through_open server.store call.open_number refusal) (record {
        server = record server { store = written_to server.store call.open_number asked.offset asked.buffer call.moment };
        response = with_body call.ids Success (answers_write (record { count = length asked.buffer }));
      }) (through_fails server.store call.open_number refusal (table_fails (λ refusal. Refusal.Write refusal) write_fails _)) h).1 in
      (ap (λ (s : CommandStep S). s.server.store) is, ap (λ (s : CommandStep S). s.response.body) is)

  created_done : (call : _) (asked : CreateAsked) → (file_created server call asked).response.status ≡ Success →
      (file_created server call asked).server.store ≡ created server.store (file_asked call.ids asked (may_only_read server call)) call.moment
  unfolding file_created
  created_done call asked h =
      let ask = file_asked call.ids asked (may_only_read server call) in
      ap (λ (s : CommandStep S). s.server.store) (row_done server call.ids (option_map (λ refusal. Refusal.Create refusal) (create_refusal server.store ask)) _
      (table_fails (λ refusal. Refusal.Create refusal) create_fails (create_refusal server.store ask)) h).1

  closed_at : (ids : _) (store' : _) (answer : View → ResponseState) (view : Option View) →
      (option_map_or (λ view. let x : CommandStep S = record { server = record server { store = store' }; response = answer view } in x) view (refused server ids (Refusal.Close CloseRefusal.UnknownOpen))).response.status ≡ Success →
      (option_map_or (λ view. let x : CommandStep S = record { server = record server { store = store' }; response = answer view } in x) view (refused server ids (Refusal.Close CloseRefusal.UnknownOpen))).server.store ≡ store'
  closed_at ids store' answer None h = absurd (close_fails CloseRefusal.UnknownOpen h)
  closed_at ids store' answer (Some view) h = refl

  closed_done : (call : _) (flags : CloseFlags) → (file_closed server call flags).response.status ≡ Success → (file_closed server call flags).server.store ≡ closed server.store call.open_number
  unfolding file_closed
  closed_done call flags h = closed_at call.ids (closed server.store call.open_number) (λ view. success call.ids (answers_close (close_response flags view))) (open_view server.store call.open_number) h

  logged_off_done : (call : _) → (session_logged_off server call).response.status ≡ Success →
      ((session_logged_off server call).server.sessions.table ≡ session_ended server.sessions.table call.ids.session_id)
      × ((session_logged_off server call).server.store ≡ closed_all server.store (Session call.ids.session_id))
  unfolding session_logged_off
  logged_off_done call h =
      let refusal = logoff_refusal server.sessions.table call.connection call.ids.session_id in
      let is = (row_done server call.ids (option_map (λ refusal. Refusal.Logoff refusal) refusal) (record {
        server = record server {
          sessions = record server.sessions { table = session_ended server.sessions.table call.ids.session_id };
          store = closed_all server.store (Session call.ids.session_id);
        };
        response = with_body call.ids Success answers_logoff;
      }) (table_fails (λ refusal. Refusal.Logoff refusal) logoff_fails refusal) h).1 in
      (ap (λ (s : CommandStep S). s.server.sessions.table) is, ap (λ (s : CommandStep S). s.server.store) is)

none_left : (P : OpenRow → Bool) (rows : List OpenRow) → filter P (filter (λ row. not (P row)) rows) ≡ []
none_left P [] = refl
none_left P (row ∷ rows) =
    elim (P row) as (λ b. P row ≡ b → filter P (cond (not b) (row ∷ filter (λ row. not (P row)) rows) (filter (λ row. not (P row)) rows)) ≡ []) [
      | true ↦ λ t. none_left P rows
      | false ↦ λ t. rw t (none_left P rows)
    ] refl

module _ {S : Type 0} (m : Meaning S) (it : Sent S) where
  pub read_tells : (asked : ReadRequest) → Succeeds it (answered m it) (asks_read asked) →
      (response_body (answered m it) ≡ reply_spelling (answers_read (file_bytes it.server.store (open_asked it) asked.offset asked.length))) × ((answered m it).server ≡ it.server)
  read_tells asked h =
      let act = is_acted m it (asks_read asked) h in
      let done = read_done it.server (call_of it.connection it.moment it.dialect it.context it.request) asked act.succeeded in
      (ap (λ (o : Option ResponseState). option_map_or (λ r. r.body) o []) act.response_is ∙ done.0, act.server_is ∙ done.1)

  pub write_leaves : (asked : WriteAsked) → Succeeds it (answered m it) (asks_write asked) →
      ((answered m it).server.store ≡ written_to it.server.store (open_asked it) asked.offset asked.buffer it.moment) × (response_body (answered m it) ≡ reply_spelling (answers_write (record { count = length asked.buffer })))
  write_leaves asked h =
      let act = is_acted m it (asks_write asked) h in
      let done = written_done it.server (call_of it.connection it.moment it.dialect it.context it.request) asked act.succeeded in
      (ap (λ (s : ServerState S). s.store) act.server_is ∙ done.0, ap (λ (o : Option ResponseState). option_map_or (λ r. r.body) o []) act.response_is ∙ done.1)

  pub create_opens : (asked : CreateAsked) (read_only : Bool) → Succeeds it (answered m it) (asks_create asked) → read_only_of it.server.sessions.table it.connection (request_ids it.context it.request).session_id ≡ Some read_only →
      (answered m it).server.store ≡ created it.server.store (create_ask it asked read_only) it.moment
  create_opens asked read_only h e =
      let act = is_acted m it (asks_create asked) h in
      let done = created_done it.server (call_of it.connection it.moment it.dialect it.context it.request) asked act.succeeded in
      ap (λ (s : ServerState S). s.store) act.server_is ∙ done ∙ ap (λ (o : Option Bool). created it.server.store (create_ask it asked (unwrap_or o false)) it.moment) e

  pub close_closes : (asked : CloseRequest) → Succeeds it (answered m it) (asks_close asked) → (answered m it).server.store ≡ closed it.server.store (open_asked it)
  close_closes asked h =
      let act = is_acted m it (asks_close asked) h in
      ap (λ (s : ServerState S). s.store) act.server_is ∙ closed_done it.server (call_of it.connection it.moment it.dialect it.context it.request) asked.flags act.succeeded

  pub logoff_ends : (asked : ReservedRequest) → IsInOrder it.server → Succeeds it (answered m it) (asks_logoff asked) → IsOver (answered m it).server (request_ids it.context it.request).session_id
  logoff_ends asked order h =
      let act = is_acted m it (asks_logoff asked) h in
      let number = (request_ids it.context it.request).session_id in
      let done = logged_off_done it.server (call_of it.connection it.moment it.dialect it.context it.request) act.succeeded in
      let table = ap (λ (s : ServerState S). s.sessions.table) act.server_is ∙ done.0 in
      let store = ap (λ (s : ServerState S). s.store) act.server_is ∙ done.1 in (
        rw table (gone number it.server.sessions.table.sessions order.sessions),
        rw (store, (others_left it.server.store (Session number) order.opens).opens) (none_left (is_held_by (Session number)) it.server.store.opens),
      )
