-- Whom a request lets in.
use Rattle.std.proofs.Common.{◌≡◌, ◌≢◌, ◌==◌, ◌∙◌, ℕ, ◌<◌, ◌⊎◌, inl, inr, Bool, true, false, ◌||◌, if◌then◌else◌, List, [], ◌∷◌, ◌++◌, map, Option, None, Some, is_some, IfSome, refl, sym, ap, subst, arith}
use Rattle.std.proofs.lemmas.Bool.{eqb-true}
use Rattle.std.proofs.lemmas.Bool.Decides.{nat_tests}
use Rattle.std.specs.List.{AllByRecursion}
use Rattle.std.specs.Option.{option_map, option_map_or}
use Rattle.std.specs.Map.{lookup}
use Rattle.std.specs.BTreeMap.{is_at}
use Rattle.std.specs.Ordering.{nat_cmp}
use Rattle.smb_wire.specs.Limits.{most_at_once}
use Rattle.smb_wire.specs.declared.command.Command.TheVariants.{SessionSetup}
use Rattle.smb_wire.specs.declared.nt_status.NtStatus.TheVariants.{Success}
use Rattle.smb_body.specs.Requests.{RequestValue, asks_negotiate, asks_session_setup, asks_logoff, asks_tree_connect, asks_tree_disconnect, asks_create, asks_close, asks_flush, asks_read, asks_write, asks_lock, asks_cancel, asks_echo, asks_query_directory, asks_query_info, asks_set_info}
use Rattle.smb_body.specs.SessionSetup.{SessionSetupAsked}
use Rattle.smb_session.specs.Authenticator.{Answered, Meaning, continues, accepts, denies}
use Rattle.smb_session.specs.Laws.{setup_number, setup_table}
use Rattle.smb_session.specs.Negotiate.{best_of}
use Rattle.smb_session.specs.Numbers.{IsRising}
use Rattle.smb_session.specs.Parts.{fresh_session, finished_by, begun, known_session_refusal, logoff_refusal, with_tree, without_tree}
use Rattle.smb_session.specs.Session.{SessionState}
use Rattle.smb_session.specs.Sessions.{setup_step, tree_connect_refusal}
use Rattle.smb_session.specs.Setup.{setup_refusal, setup_result, signing_asked, table_answered}
use Rattle.smb_session.specs.declared.signing.Signing.{Signing}
use Rattle.smb_session.specs.Table.{TableState, session_at, session_ended, tree_disconnect_refusal}
use Rattle.smb_refusals.specs.declared.session.SetupRefusal.{SetupRefusal}
use Rattle.smb_refusals.specs.declared.refusal.Refusal.{Refusal}
use Rattle.smb_refusals.specs.declared.file.CloseRefusal.{CloseRefusal}
use Rattle.smb_refusals.specs.declared.request.NegotiateRefusal.TheVariants.{NoDialect}
use Rattle.smb_refusals.proofs.Fails.{setup_fails}
use Rattle.smb_request.proofs.Refused.{none_named}
use Rattle.smb_opens.specs.Bytes.{read_refusal, write_refusal}
use Rattle.smb_opens.specs.Create.{create_refusal}
use Rattle.smb_opens.specs.Locks.{lock_refusal, unlock_refusal}
use Rattle.smb_opens.specs.State.{StoreState}
use Rattle.smb_opens.specs.Views.{open_view}
use Rattle.smb_request.specs.declared.context.HeaderIds.{HeaderIds}
use Rattle.smb_request.specs.Bytes.{file_read, file_written}
use Rattle.smb_request.specs.Call.{body_of, call_of}
use Rattle.smb_request.specs.Files.{file_created, file_closed}
use Rattle.smb_request.specs.Laws.{IsInOrder, NumbersInOrder, request_ids}
use Rattle.smb_request.specs.Parts.{asks_unlock, file_asked, lock_asks, setup_answered, setup_response, closed_for, file_locked, file_unlocked}
use Rattle.smb_request.specs.Response.{CommandStep, ResponseState, refused, through_open, unless_refused}
use Rattle.smb_request.specs.Session.{asks_to_sign, may_only_read, session_set_up, session_logged_off, tree_joined, tree_left}
use Rattle.smb_request.specs.State.{ServerState}
use Rattle.smb_request.proofs.InfoApart.{queried_left, info_set_left}
use Rattle.smb_request.proofs.Leaving.{leaves_begun}
use Rattle.smb_request.proofs.Listings.{listed_left}
use Rattle.smb_request.proofs.Numbered.{at_is}
use Rattle.smb_request_laws.specs.Acting.{command_in}
use Rattle.smb_request_laws.specs.Admission.{WasIn, IsLetIn}
use Rattle.smb_request_laws.specs.Doing.{Sent, Succeeds, answered}
use Rattle.smb_request_laws.proofs.Answered.{step_by, comes_to, command_for, says_command}
use Rattle.smb_request_laws.proofs.Done.{acts, is_acted}
use Rattle.smb_request_laws.proofs.LetIn.{Keeps, keeps_same, keeps_then, keeps_ended, keeps_changed, keeps_begun, accepted_in, nobody_else}

-- what is given the next number is found there
at_last : (n : ℕ) (x : SessionState) (es : List (ℕ × SessionState)) → AllByRecursion (λ e. e.0 < n) es → lookup (is_at (nat_cmp n)) (es ++ (n, x) ∷ []) ≡ Some x
at_last n x [] a = (let key = at_is n n in grind (arith, nat_tests, key))
at_last n x (e ∷ es) a = (let key = at_is n e.0 in let less = a.0 in let ih = at_last n x es a.1 in grind (arith, nat_tests, key, less, ih))

-- the session that is set up: it is of its connection, and not finished
pub record IsBegun (table : TableState) (number c : ℕ) : Type 0 where
  pub state : SessionState
  pub at : session_at table number ≡ Some state
  pub connection : state.connection ≡ c
  pub user : state.user ≡ None

known_begun : (table : TableState) (c s : ℕ) (o : Option SessionState) → session_at table s ≡ o → option_map_or (known_session_refusal c) o (Some SetupRefusal.UnknownSession) ≡ None → IsBegun table s c
known_begun table c s None at e = cc
known_begun table c s (Some state) at e =
    let own : (state.connection == c) ≡ true = grind (arith, e) in
    record { state = state; at = at; connection = eqb-true state.connection c own; user = by_user state.user refl }
  where
    by_user : (user : Option (List ℕ)) → state.user ≡ user → state.user ≡ None
    by_user None t = t
    by_user (Some user) t =
        let some : is_some state.user ≡ true = ap (λ (u : Option (List ℕ)). is_some u) t in
        absurd (let own : (state.connection == c) ≡ true = grind (arith, e) in let none : is_some state.user ≡ false = grind (arith, e, own) in let both : true ≡ false = sym some ∙ none in cc)

module _ (table : TableState) (store : StoreState) (o : NumbersInOrder table store) (c : ℕ) where
  set_up_rising : (s : ℕ) → IsRising (map (λ e. e.0) (setup_table table c s).sessions)
  set_up_rising s = elim (s == 0) as (λ b. let x : TableState = if b then begun table c else table in IsRising (map (λ e. e.0) x.sessions)) [
    | true ↦ (leaves_begun {may = λ n session. ⊥} (λ x. true) table store o c).order.sessions
    | false ↦ o.sessions
  ]

  set_up_keeps : (s : ℕ) → Keeps table (setup_table table c s)
  set_up_keeps s = elim (s == 0) as (λ b. let x : TableState = if b then begun table c else table in Keeps table x) [ true ↦ keeps_begun table c | false ↦ keeps_same table ]

  set_up_begun : (s flags : ℕ) → setup_refusal table c s flags ≡ None → IsBegun (setup_table table c s) (setup_number table s) c
  set_up_begun s flags e = elim (s == 0) as (λ b. s == 0 ≡ b → (let x : TableState = if b then begun table c else table in let n : ℕ = if b then table.next else s in IsBegun x n c)) [
    | true ↦ λ t. record { state = fresh_session c; at = at_last table.next (fresh_session c) table.sessions o.sessions_given; connection = refl; user = refl }
    | false ↦ λ t. known_begun table c s (session_at table s) refl (grind (arith, e, t))
  ] refl

module _ {S : Type 0} (m : Meaning S) (it : Sent S) (o : IsInOrder it.server) where
  abbrev server : ServerState S
  server = it.server

  abbrev table : TableState
  table = it.server.sessions.table

  abbrev ids : HeaderIds
  ids = request_ids it.context it.request

  abbrev opened : ℕ
  opened = (call_of it.connection it.moment it.dialect it.context it.request).open_number

  abbrev Left : ServerState S → Type 0
  Left after = Keeps table after.sessions.table

  same : Left server
  same = keeps_same table

  row_left : (done : CommandStep S) (refusal : Option Refusal) → Left done.server → Left (unless_refused server ids refusal done).server
  row_left done None h = h
  row_left done (Some row) h = same

  view_left : {X : Type 0} (after : ServerState S) (answer : X → ResponseState) (row : Refusal) (found : Option X) → Left after →
      Left (option_map_or (λ found. let x : CommandStep S = record { server = after; response = answer found } in x) found (refused server ids row)).server
  view_left after answer row None h = same
  view_left after answer row (Some found) h = h

  unlocked_left : (after : ServerState S) (refusal : Option Refusal) (done : ResponseState) → Left after → Left (unless_refused after ids refusal (record { server = after; response = done })).server
  unlocked_left after None done h = h
  unlocked_left after (Some row) done h = h

  lock_left : (b : Bool) (unlocks locks : CommandStep S) → Left unlocks.server → Left locks.server → Left (let x : CommandStep S = if b then unlocks else locks in x).server
  lock_left true unlocks locks h g = h
  lock_left false unlocks locks h g = g

  -- each command but SESSION_SETUP
  act_left : (asked : RequestValue) → ((x : SessionSetupAsked) → asked ≢ asks_session_setup x) → Left (acts m it asked).server
  unfolding session_logged_off tree_joined tree_left file_created file_closed file_read file_written
  act_left (asks_negotiate x) other = view_left server _ (Refusal.Negotiate NoDialect) (best_of x.dialects) same
  act_left (asks_session_setup x) other = absurd (other x refl)
  act_left (asks_logoff x) other = row_left _ (option_map (λ refusal. Refusal.Logoff refusal) (logoff_refusal table it.connection ids.session_id)) (keeps_ended table ids.session_id o.sessions)
  act_left (asks_tree_connect x) other = row_left _ (option_map (λ refusal. Refusal.TreeConnect refusal) (tree_connect_refusal server.sessions it.connection ids.session_id x.path)) (keeps_changed with_tree table ids.session_id (λ x. (refl, refl, refl, refl)))
  act_left (asks_tree_disconnect x) other =
      row_left _ (option_map (λ refusal. Refusal.TreeDisconnect refusal) (tree_disconnect_refusal table it.connection ids.session_id ids.tree_id)) (keeps_changed (without_tree ids.tree_id) table ids.session_id (λ x. (refl, refl, refl, refl)))
  act_left (asks_create x) other =
      row_left _ (option_map (λ refusal. Refusal.Create refusal) (create_refusal server.store (file_asked ids x (may_only_read server (call_of it.connection it.moment it.dialect it.context it.request))))) same
  act_left (asks_close x) other = view_left _ _ (Refusal.Close CloseRefusal.UnknownOpen) (open_view server.store (call_of it.connection it.moment it.dialect it.context it.request).open_number) same
  act_left (asks_flush x) other = same
  act_left (asks_read x) other =
      row_left _ (through_open server.store opened (option_map (λ refusal. Refusal.Read refusal) (read_refusal server.store (most_at_once it.dialect) opened x.offset x.length x.minimum_count))) same
  act_left (asks_write x) other =
      row_left _ (through_open server.store opened (option_map (λ refusal. Refusal.Write refusal) (write_refusal server.store (most_at_once it.dialect) opened x.offset x.buffer))) same
  act_left (asks_lock x) other = lock_left (asks_unlock (lock_asks x.locks)) (file_unlocked server (call_of it.connection it.moment it.dialect it.context it.request) (lock_asks x.locks)) (file_locked server (call_of it.connection it.moment it.dialect it.context it.request) (lock_asks x.locks))
      (unlocked_left _ (through_open server.store opened (option_map (λ refusal. Refusal.Lock refusal) (unlock_refusal server.store opened (lock_asks x.locks)))) _ same)
      (row_left _ (through_open server.store opened (option_map (λ refusal. Refusal.Lock refusal) (lock_refusal server.store opened (lock_asks x.locks)))) same)
  act_left (asks_cancel x) other = same
  act_left (asks_echo x) other = same
  act_left (asks_query_directory x) other = listed_left Left server same (call_of it.connection it.moment it.dialect it.context it.request) (λ scan. same) x
  act_left (asks_query_info x) other = queried_left Left server same (call_of it.connection it.moment it.dialect it.context it.request) x
  act_left (asks_set_info x) other = info_set_left Left server same (call_of it.connection it.moment it.dialect it.context it.request) (λ ask done. same) x

  -- SESSION_SETUP
  abbrev Lets : TableState → Type 0
  Lets after = (n : ℕ) (state : SessionState) → session_at after n ≡ Some state → is_some state.user ≡ true → WasIn table n state ⊎ IsLetIn m it n state

  abbrev number : ℕ
  number = setup_number table ids.session_id

  abbrev begun_table : TableState
  begun_table = setup_table table it.connection ids.session_id

  -- how the messages of a session are signed that is let in so
  abbrev signed : SessionSetupAsked → Option Signing → Option Signing
  signed asked signing = option_map (λ (s : Signing). record s { required = s.required || asks_to_sign asked }) signing

  -- what an answer leaves, where the client may ask that each of its requests is signed
  abbrev after_answer : SessionSetupAsked → Answered → TableState
  after_answer asked answer = table_answered begun_table number asked.previous_session_id (signing_asked (asks_to_sign asked) answer)

  let_in_at : (asked : SessionSetupAsked) (user : List ℕ) (flags : ℕ) (read_only : Bool) (signing : Option Signing) (token : List ℕ) (n : ℕ) (state : SessionState) → body_of (command_in it.request) it.request ≡ Some (asks_session_setup asked) →
      m.answer server.sessions.authenticator number asked.security_buffer ≡ accepts user flags read_only signing token → IsBegun begun_table number it.connection → number ≡ n →
      session_at (after_answer asked (accepts user flags read_only signing token)) number ≡ Some state → IsLetIn m it n state
  let_in_at asked user flags read_only signing token n state says accepted is own e =
      let there : Some (finished_by user read_only (signed asked signing) is.state) ≡ Some state =
      sym (accepted_in begun_table number asked.previous_session_id user flags read_only (signed asked signing) token is.state is.at is.user) ∙ e in
      let same_state : finished_by user read_only (signed asked signing) is.state ≡ state = cc in
      let reads : read_only ≡ state.read_only = ap (λ (x : SessionState). x.read_only) same_state in
      record {
        asked = asked;
        user = user;
        flags = flags;
        signing = signing;
        token = token;
        says = says;
        own = own;
        accepted = ap (λ k. m.answer server.sessions.authenticator k asked.security_buffer) (sym own) ∙ accepted ∙ ap (λ b. accepts user flags b signing token) reads;
        user_is = sym (ap (λ (x : SessionState). x.user) same_state);
        signing_is = sym (ap (λ (x : SessionState). x.signing) same_state);
        connection = sym (ap (λ (x : SessionState). x.connection) same_state) ∙ is.connection;
      }

  answered_lets : (asked : SessionSetupAsked) (answer : Answered) → body_of (command_in it.request) it.request ≡ Some (asks_session_setup asked) → m.answer server.sessions.authenticator number asked.security_buffer ≡ answer →
      IsBegun begun_table number it.connection → Lets (after_answer asked answer)
  answered_lets asked (continues token) says a is n state e f = inl (set_up_keeps table server.store o it.connection ids.session_id n state e f)
  answered_lets asked denies says a is n state e f =
      inl (keeps_then table begun_table (session_ended begun_table number) (set_up_keeps table server.store o it.connection ids.session_id) (keeps_ended begun_table number (set_up_rising table server.store o it.connection ids.session_id)) n state e f)
  answered_lets asked (accepts user flags read_only signing token) says a is n state e f =
      let after = after_answer asked (accepts user flags read_only signing token) in
      elim (n == number) as (λ b. n == number ≡ b → WasIn table n state ⊎ IsLetIn m it n state) [
        | true ↦ λ t. (
            let own : n ≡ number = eqb-true n number t in
            let P : ℕ → Type 0 = λ k. session_at after k ≡ Some state in
            inr (let_in_at asked user flags read_only signing token n state says a is (sym own) (subst P own e)))
        | false ↦ λ t. inl (set_up_keeps table server.store o it.connection ids.session_id n state
            (nobody_else begun_table number asked.previous_session_id n (accepts user flags read_only (signed asked signing) token) state (set_up_rising table server.store o it.connection ids.session_id) t e) f)
      ] refl

  set_up_at : (asked : SessionSetupAsked) (refusal : Option Refusal) → body_of (command_in it.request) it.request ≡ Some (asks_session_setup asked) → option_map (λ refusal. Refusal.SessionSetup refusal) (setup_refusal table it.connection ids.session_id asked.flags.0) ≡ refusal →
      Lets (unless_refused server ids refusal (setup_answered server ids (setup_step m server.sessions it.connection ids.session_id asked.previous_session_id (asks_to_sign asked) asked.security_buffer))).server.sessions.table
  set_up_at asked (Some row) says e = λ n state at f. inl (keeps_same table n state at f)
  set_up_at asked None says e =
      answered_lets asked (m.answer server.sessions.authenticator number asked.security_buffer) says refl
      (set_up_begun table server.store o it.connection ids.session_id asked.flags.0 (none_named (λ refusal. Refusal.SessionSetup refusal) (setup_refusal table it.connection ids.session_id asked.flags.0) e))

  set_up_lets : (asked : SessionSetupAsked) → body_of (command_in it.request) it.request ≡ Some (asks_session_setup asked) → Lets (acts m it (asks_session_setup asked)).server.sessions.table
  unfolding session_set_up
  set_up_lets asked says = set_up_at asked (option_map (λ refusal. Refusal.SessionSetup refusal) (setup_refusal table it.connection ids.session_id asked.flags.0)) says refl

  act_lets : (asked : RequestValue) → body_of (command_in it.request) it.request ≡ Some asked → Lets (acts m it asked).server.sessions.table
  act_lets (asks_session_setup asked) says = set_up_lets asked says
  act_lets asked says = λ n state e f. inl (act_left asked (λ x h. cc) n state e f)

  pub nobody_unasked : (n : ℕ) (after : SessionState) → session_at (answered m it).server.sessions.table n ≡ Some after → is_some after.user ≡ true → WasIn table n after ⊎ IsLetIn m it n after
  nobody_unasked =
      comes_to m it.connection it.moment it.server it.dialect it.context it.request
      (λ after response. Lets after.sessions.table)
      (λ n state e f. inl (keeps_same table n state e f))
      (step_by m it.connection it.moment it.server it.dialect it.context it.request (λ step. Lets step.server.sessions.table)
      (λ refusal fails n state e f. inl (keeps_same table n state e f))
      (λ asked says t. act_lets asked says))

  -- a SESSION_SETUP that succeeds
  abbrev In : TableState → Type 0
  In after = (state : SessionState) × (session_at after number ≡ Some state) × IsLetIn m it number state

  accepted_succeeds : (asked : SessionSetupAsked) (answer : Answered) → body_of (command_in it.request) it.request ≡ Some (asks_session_setup asked) → m.answer server.sessions.authenticator number asked.security_buffer ≡ answer →
      IsBegun begun_table number it.connection → (let told = setup_result begun_table number asked.previous_session_id (signing_asked (asks_to_sign asked) answer) in setup_response (record ids { session_id = told.session }) told told.status).status ≡ Success →
      In (after_answer asked answer)
  accepted_succeeds asked (continues token) says a is h = cc
  accepted_succeeds asked denies says a is h = cc
  accepted_succeeds asked (accepts user flags read_only signing token) says a is h =
      let e = accepted_in begun_table number asked.previous_session_id user flags read_only (signed asked signing) token is.state is.at is.user in
      let after = finished_by user read_only (signed asked signing) is.state in
      (after, e, let_in_at asked user flags read_only signing token number after says a is refl e)

  succeeds_at : (asked : SessionSetupAsked) (refusal : Option SetupRefusal) → body_of (command_in it.request) it.request ≡ Some (asks_session_setup asked) → setup_refusal table it.connection ids.session_id asked.flags.0 ≡ refusal →
      (unless_refused server ids (option_map (λ refusal. Refusal.SessionSetup refusal) refusal) (setup_answered server ids (setup_step m server.sessions it.connection ids.session_id asked.previous_session_id (asks_to_sign asked) asked.security_buffer))).response.status ≡ Success →
      In (unless_refused server ids (option_map (λ refusal. Refusal.SessionSetup refusal) refusal) (setup_answered server ids (setup_step m server.sessions it.connection ids.session_id asked.previous_session_id (asks_to_sign asked) asked.security_buffer))).server.sessions.table
  succeeds_at asked (Some row) says e h = absurd (setup_fails row h)
  succeeds_at asked None says e h =
      accepted_succeeds asked (m.answer server.sessions.authenticator number asked.security_buffer) says refl
      (set_up_begun table server.store o it.connection ids.session_id asked.flags.0 e) h

  set_up_succeeds : (asked : SessionSetupAsked) → body_of (command_in it.request) it.request ≡ Some (asks_session_setup asked) → (acts m it (asks_session_setup asked)).response.status ≡ Success → In (acts m it (asks_session_setup asked)).server.sessions.table
  unfolding session_set_up
  set_up_succeeds asked says h = succeeds_at asked (setup_refusal table it.connection ids.session_id asked.flags.0) says refl h

  pub success_lets_in : (asked : SessionSetupAsked) → Succeeds it (answered m it) (asks_session_setup asked) → In (answered m it).server.sessions.table
  success_lets_in asked h =
      let act = is_acted m it (asks_session_setup asked) h in
      let into = set_up_succeeds asked h.says act.succeeded in
      (into.0, ap (λ (s : ServerState S). session_at s.sessions.table number) act.server_is ∙ into.1, into.2)

module _ {S : Type 0} (m : Meaning S) (it : Sent S) where
  -- a SESSION_SETUP that does not succeed
  abbrev IsClosedNot : CommandStep S → Type 0
  IsClosedNot step = step.response.status ≢ Success → step.server.store ≡ it.server.store

  answered_closes : (asked : SessionSetupAsked) (sessions : TableState) (session : ℕ) (answer : Answered) → (let told = setup_result sessions session asked.previous_session_id (signing_asked (asks_to_sign asked) answer) in
      (setup_response (record (request_ids it.context it.request) { session_id = told.session }) told told.status).status ≢ Success → closed_for it.server.store told.ended ≡ it.server.store)
  answered_closes asked sessions session (continues token) h = refl
  answered_closes asked sessions session denies h = refl
  answered_closes asked sessions session (accepts user flags read_only signing token) h = absurd (h refl)

  set_up_closes_at : (asked : SessionSetupAsked) (refusal : Option Refusal) →
      IsClosedNot (unless_refused it.server (request_ids it.context it.request) refusal
      (setup_answered it.server (request_ids it.context it.request) (setup_step m it.server.sessions it.connection (request_ids it.context it.request).session_id asked.previous_session_id (asks_to_sign asked) asked.security_buffer)))
  set_up_closes_at asked (Some row) h = refl
  set_up_closes_at asked None h =
      let s = (request_ids it.context it.request).session_id in
      let number = setup_number it.server.sessions.table s in
      answered_closes asked (setup_table it.server.sessions.table it.connection s) number (m.answer it.server.sessions.authenticator number asked.security_buffer) h

  act_closes : (asked : RequestValue) → Some (command_for asked) ≡ Some SessionSetup → IsClosedNot (acts m it asked)
  unfolding session_set_up
  act_closes (asks_session_setup x) e h = set_up_closes_at x (option_map (λ refusal. Refusal.SessionSetup refusal) (setup_refusal it.server.sessions.table it.connection (request_ids it.context it.request).session_id x.flags.0)) h
  act_closes asked e h = cc

  pub closes_nothing : command_in it.request ≡ Some SessionSetup → IfSome (answered m it).response (λ response. response.status ≢ Success) → (answered m it).server.store ≡ it.server.store
  closes_nothing command =
      comes_to m it.connection it.moment it.server it.dialect it.context it.request
      (λ after response. IfSome response (λ response. response.status ≢ Success) → after.store ≡ it.server.store)
      (λ h. refl)
      (step_by m it.connection it.moment it.server it.dialect it.context it.request IsClosedNot
      (λ refusal fails h. refl)
      (λ asked says t. act_closes asked (sym (says_command (command_in it.request) it.request asked says) ∙ command)))
