-- What is refused changes nothing.
use Rattle.std.proofs.Common.{◌≡◌, ◌≢◌, ◌∙◌, ℕ, Bool, true, false, not, nat_lt, if◌then◌else◌, List, length, Option, None, Some, IfSome, refl, sym, ap}
use Rattle.std.specs.Option.{option_map, option_map_or}
use Rattle.smb_wire.specs.Limits.{most_at_once}
use Rattle.smb_wire.specs.declared.command.Command.{Command}
use Rattle.smb_wire.specs.declared.command.Command.TheVariants.{SessionSetup, Lock, QueryDirectory}
use Rattle.smb_wire.specs.declared.dialect.Dialect.{Dialect}
use Rattle.smb_wire.specs.declared.nt_status.NtStatus.TheVariants.{Success}
use Rattle.smb_refusals.specs.declared.refusal.Refusal.{Refusal}
use Rattle.smb_refusals.specs.declared.file.CloseRefusal.{CloseRefusal}
use Rattle.smb_refusals.specs.declared.request.NegotiateRefusal.TheVariants.{NoDialect}
use Rattle.smb_refusals.specs.declared.set_info.SetInfoRefusal.{SetInfoRefusal}
use Rattle.smb_refusals.specs.declared.set_info.SetInfoRefusal.TheVariants.{UnknownClass, BufferTooShort, RenameSaysNoName}
use Rattle.smb_body.specs.Replies.{answers_close}
use Rattle.smb_body.specs.Requests.{RequestValue, asks_negotiate, asks_session_setup, asks_logoff, asks_tree_connect, asks_tree_disconnect, asks_create, asks_close, asks_flush, asks_read, asks_write, asks_lock, asks_cancel, asks_echo, asks_query_directory, asks_query_info, asks_set_info}
use Rattle.smb_session.specs.Authenticator.{Meaning}
use Rattle.smb_session.specs.Negotiate.{best_of}
use Rattle.smb_session.specs.Parts.{logoff_refusal}
use Rattle.smb_session.specs.Sessions.{tree_connect_refusal}
use Rattle.smb_session.specs.Table.{tree_disconnect_refusal}
use Rattle.smb_access.specs.declared.view.View.{View}
use Rattle.smb_info.specs.declared.set_info.SetInformationClass.{SetInformationClass}
use Rattle.smb_info.specs.SetInformation.{set_class, set_length, is_readable, asked_of}
use Rattle.smb_opens.specs.Bytes.{read_refusal, write_refusal}
use Rattle.smb_opens.specs.Create.{create_refusal}
use Rattle.smb_opens.specs.Views.{open_view}
use Rattle.smb_request.specs.declared.context.HeaderIds.{HeaderIds}
use Rattle.smb_request.specs.Bytes.{file_read, file_written}
use Rattle.smb_request.specs.Call.{call_of}
use Rattle.smb_request.specs.Files.{file_created, file_closed}
use Rattle.smb_request.specs.Parts.{file_asked, success, close_response, set_as_asked, set_refusal, set_type_refusal, class_set}
use Rattle.smb_request.specs.QueryInfo.{information_queried}
use Rattle.smb_request.specs.Request.{acted}
use Rattle.smb_request.specs.Response.{CommandStep, ResponseState, refused, through_open, unless_refused}
use Rattle.smb_request.specs.Session.{may_only_read, session_logged_off, tree_joined, tree_left}
use Rattle.smb_request.specs.SetInfo.{information_set}
use Rattle.smb_request.specs.State.{ServerState}
use Rattle.smb_request_laws.specs.Acting.{command_in}
use Rattle.smb_request_laws.specs.Doing.{Sent, answered, may_change_though_refused}
use Rattle.smb_request_laws.proofs.Answered.{step_by, comes_to, command_for, says_command}

-- a step that is refused changes nothing
abbrev IsKept : {S : Type 0} → ServerState S → CommandStep S → Type 0
IsKept server step = step.response.status ≢ Success → step.server ≡ server

abbrev may : Option Command → Bool
may command = option_map_or (λ command. elim command [ SessionSetup ↦ true | Lock ↦ true | QueryDirectory ↦ true | _ ↦ false ]) command false

module _ {S : Type 0} (server : ServerState S) where
  row_kept : (ids : HeaderIds) (done : CommandStep S) (refusal : Option Refusal) → done.response.status ≡ Success → IsKept server (unless_refused server ids refusal done)
  row_kept ids done None is h = absurd (h is)
  row_kept ids done (Some row) is h = refl

  negotiated_kept : (ids : HeaderIds) (answer : Dialect → ResponseState) (best : Option Dialect) →
      IsKept server (option_map_or (λ best. let x : CommandStep S = record { server = server; response = answer best } in x) best (refused server ids (Refusal.Negotiate NoDialect)))
  negotiated_kept ids answer None h = refl
  negotiated_kept ids answer (Some best) h = refl

  closed_kept : (ids : HeaderIds) (after : ServerState S) (answer : View → ResponseState) (view : Option View) → ((view : View) → (answer view).status ≡ Success) →
      IsKept server (option_map_or (λ view. let x : CommandStep S = record { server = after; response = answer view } in x) view (refused server ids (Refusal.Close CloseRefusal.UnknownOpen)))
  closed_kept ids after answer None is h = refl
  closed_kept ids after answer (Some view) is h = absurd (h (is view))

module _ {S : Type 0} (m : Meaning S) (it : Sent S) where
  abbrev server : ServerState S
  server = it.server

  abbrev act : RequestValue → CommandStep S
  act asked = acted m it.server (call_of it.connection it.moment it.dialect it.context it.request) asked

  abbrev ids : HeaderIds
  ids = (call_of it.connection it.moment it.dialect it.context it.request).ids

  abbrev opened : ℕ
  opened = (call_of it.connection it.moment it.dialect it.context it.request).open_number

  set_by_class : (buffer : List ℕ) (class : SetInformationClass) (b c : Bool) →
      IsKept server (let x : CommandStep S = if b then refused server ids (Refusal.SetInfo BufferTooShort) else if c then refused server ids (Refusal.SetInfo RenameSaysNoName) else
      set_as_asked server (call_of it.connection it.moment it.dialect it.context it.request) (asked_of buffer class) in x)
  set_by_class buffer class true c h = refl
  set_by_class buffer class false true h = refl
  set_by_class buffer class false false h = row_kept server ids _ (through_open server.store opened (set_refusal server.store opened (asked_of buffer class))) refl h

  set_by_type : (buffer : List ℕ) (class : Option SetInformationClass) (refusal : Option SetInfoRefusal) →
      IsKept server (option_map_or (λ refusal. refused server ids (Refusal.SetInfo refusal)) refusal (option_map_or (class_set server (call_of it.connection it.moment it.dialect it.context it.request) buffer) class (refused server ids (Refusal.SetInfo UnknownClass))))
  set_by_type buffer class (Some row) h = refl
  set_by_type buffer None None h = refl
  set_by_type buffer (Some class) None h = set_by_class buffer class (nat_lt (length buffer) (set_length class)) (not (is_readable buffer class)) h

  act_kept : (asked : RequestValue) → may (Some (command_for asked)) ≡ false → IsKept server (act asked)
  unfolding session_logged_off tree_joined tree_left file_created file_closed file_read file_written information_queried information_set
  act_kept (asks_negotiate x) other h = negotiated_kept server ids _ (best_of x.dialects) h
  act_kept (asks_session_setup x) other h = cc
  act_kept (asks_logoff x) other h = row_kept server ids _ (option_map (λ refusal. Refusal.Logoff refusal) (logoff_refusal server.sessions.table it.connection ids.session_id)) refl h
  act_kept (asks_tree_connect x) other h = row_kept server ids _ (option_map (λ refusal. Refusal.TreeConnect refusal) (tree_connect_refusal server.sessions it.connection ids.session_id x.path)) refl h
  act_kept (asks_tree_disconnect x) other h = row_kept server ids _ (option_map (λ refusal. Refusal.TreeDisconnect refusal) (tree_disconnect_refusal server.sessions.table it.connection ids.session_id ids.tree_id)) refl h
  act_kept (asks_create x) other h =
      row_kept server ids _ (option_map (λ refusal. Refusal.Create refusal) (create_refusal server.store (file_asked ids x (may_only_read server (call_of it.connection it.moment it.dialect it.context it.request))))) refl h
  act_kept (asks_close x) other h = closed_kept server ids _ (λ view. success ids (answers_close (close_response x.flags view))) (open_view server.store opened) (λ view. refl) h
  act_kept (asks_flush x) other h = refl
  act_kept (asks_read x) other h =
      row_kept server ids _ (through_open server.store opened (option_map (λ refusal. Refusal.Read refusal) (read_refusal server.store (most_at_once it.dialect) opened x.offset x.length x.minimum_count))) refl h
  act_kept (asks_write x) other h =
      row_kept server ids _ (through_open server.store opened (option_map (λ refusal. Refusal.Write refusal) (write_refusal server.store (most_at_once it.dialect) opened x.offset x.buffer))) refl h
  act_kept (asks_lock x) other h = cc
  act_kept (asks_cancel x) other h = refl
  act_kept (asks_echo x) other h = refl
  act_kept (asks_query_directory x) other h = cc
  act_kept (asks_query_info x) other h = refl
  act_kept (asks_set_info x) other h = set_by_type x.buffer (set_class x.file_info_class.0) (set_type_refusal x.info_type.0) h

  pub refusal_keeps : may_change_though_refused it.request ≡ false → IfSome (answered m it).response (λ response. response.status ≢ Success) → (answered m it).server ≡ it.server
  refusal_keeps other =
      comes_to m it.connection it.moment it.server it.dialect it.context it.request
      (λ after response. IfSome response (λ response. response.status ≢ Success) → after ≡ it.server)
      (λ h. refl)
      (step_by m it.connection it.moment it.server it.dialect it.context it.request (IsKept it.server)
      (λ refusal fails h. refl)
      (λ asked says t. act_kept asked (ap may (sym (says_command (command_in it.request) it.request asked says)) ∙ other)))
