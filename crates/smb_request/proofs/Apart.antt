-- One request, seen from the sessions of other connections.
use Rattle.std.proofs.Common.{◌≡◌, ◌==◌, ℕ, Bool, true, false, if◌then◌else◌, List, [], ◌∷◌, length, filter, ◌⊎◌, Option, None, Some, is_some, refl, sym, ap, subst, arith, ◌∙◌}
use Rattle.std.proofs.lemmas.Bool.Decides.{nat_tests}
use Rattle.std.specs.Option.{is_none, option_map, option_map_or, option_and_then}
use Rattle.smb_wire.specs.Limits.{most_at_once}
use Rattle.smb_session.specs.Session.{SessionState}
use Rattle.smb_session.specs.Laws.{setup_number}
use Rattle.smb_body.specs.SessionSetup.{SessionSetupAsked}
use Rattle.smb_session.specs.Table.{TableState, session_at, session_ended, knows_session}
use Rattle.smb_access.specs.declared.open_row.OpenRow.{OpenRow}
use Rattle.smb_access.specs.declared.open_row.Owner.TheVariants.{Session, Tree}
use Rattle.smb_access.specs.Opens.{open_numbers, is_held_by, open_of, without_open}
use Rattle.smb_access.proofs.Rows.{kept_above, others}
use Rattle.smb_wire.specs.Dialects.{revision_of}
use Rattle.smb_wire.specs.declared.dialect.Dialect.{Dialect}
use Rattle.smb_session.specs.Negotiate.{best_of}
use Rattle.smb_body.specs.Requests.{RequestValue, asks_negotiate, asks_session_setup, asks_logoff, asks_tree_connect, asks_tree_disconnect, asks_create, asks_close, asks_flush, asks_read, asks_write, asks_lock, asks_cancel, asks_echo, asks_query_directory, asks_query_info, asks_set_info, file_id_of}
use Rattle.smb_request.specs.declared.context.Context.{Context}
use Rattle.smb_request.specs.declared.context.ContextOpen.{ContextOpen}
use Rattle.smb_request.specs.declared.context.ContextOpen.TheVariants.{Nothing, Named, Refused}
use Rattle.smb_request.specs.Context.{open_named, named_on, open_for_next_related}
use Rattle.smb_request.specs.Parts.{number_named, named_open, names_open, file_asked, close_response, asks_unlock, needs_session, is_unsupported, is_cancel_command, check_session_tree_and_open, dialect_after, lock_asks, hello_of, requires_of, open_refusal, performed_by, success, with_store, set_through, negotiated, file_locked, file_unlocked}
use Rattle.smb_body.specs.Needs.{needs_of}
use Rattle.smb_request.specs.Negotiate.{negotiate_answer}
use Rattle.smb_request.specs.Call.{body_of, call_of}
use Rattle.smb_request.specs.Request.{check_request, acted, verified, performed}
use Rattle.smb_request.proofs.Verified.{by_signature}
use Rattle.smb_request.specs.Held.{IsCallOf}
use Rattle.smb_session.specs.Authenticator.{Meaning}
use Rattle.smb_opens.specs.Close.{closed_all}
use Rattle.smb_request.specs.Response.{CommandStep, Performed}
use Rattle.smb_tree.specs.Entries.{is_folder_kind}
use Rattle.smb_body.specs.Create.{CreateAsked}
use Rattle.smb_body.specs.Write.{WriteAsked}
use Rattle.smb_body.specs.declared.read.ReadRequest.{ReadRequest}
use Rattle.smb_body.specs.declared.close.CloseFlags.{CloseFlags}
use Rattle.smb_access.specs.declared.view.View.{View}
use Rattle.smb_access.specs.Asked.{FileAsked}
use Rattle.smb_locks.specs.declared.ask.LockAsk.{LockAsk}
use Rattle.smb_locks.specs.Table.{Table, locked, unlocked}
use Rattle.smb_opens.specs.Locks.{lock_refusal, unlock_refusal, unlocked_through}
use Rattle.smb_opens.specs.Parts.{with_locks_of}
use Rattle.smb_opens.specs.Bytes.{read_refusal, write_refusal, written_to}
use Rattle.smb_opens.specs.Close.{closed}
use Rattle.smb_opens.specs.Create.{access_granted, create_refusal}
use Rattle.smb_refusals.specs.declared.refusal.Refusal.{Refusal}
use Rattle.smb_refusals.specs.declared.file.CloseRefusal.{CloseRefusal}
use Rattle.smb_refusals.specs.declared.request.RequestRefusal.{RequestRefusal}
use Rattle.smb_refusals.specs.declared.request.RequestRefusal.TheVariants.{UnknownCommand, CommandNotPerformed, BodyUnreadable}
use Rattle.smb_refusals.specs.declared.request.NegotiateRefusal.TheVariants.{NoDialect}
use Rattle.smb_access.specs.Effect.{entry_after}
use Rattle.smb_access.specs.Parts.{opened_by}
use Rattle.smb_opens.specs.Effect.{created}
use Rattle.smb_opens.specs.Found.{entry_asked}
use Rattle.smb_access.specs.Numbers.{AreRising}
use Rattle.smb_opens.specs.State.{StoreState}
use Rattle.smb_opens.specs.Views.{open_view}
use Rattle.smb_opens.proofs.Again.{opens_left}
use Rattle.smb_opens.proofs.Closing.{opens_closed}
use Rattle.smb_request.specs.Bytes.{file_read, file_written}
use Rattle.smb_request.specs.Files.{file_created, file_closed}
use Rattle.smb_session.specs.Parts.{with_tree, without_tree, logoff_refusal, tree_disconnected}
use Rattle.smb_session.specs.Table.{tree_disconnect_refusal}
use Rattle.smb_session.specs.Sessions.{tree_connect_refusal}
use Rattle.smb_body.specs.Replies.{answers_close, answers_lock}
use Rattle.smb_request.specs.declared.call.Call.{Call}
use Rattle.smb_request.specs.Response.{refused, through_open, unless_refused}
use Rattle.smb_request.specs.Session.{may_only_read, session_logged_off, tree_joined, tree_left}
use Rattle.smb_request.specs.State.{ServerState}
use Rattle.smb_request.specs.Laws.{NumbersInOrder, IsInOrder, IsAsItWas, IsOver, ReplacesSession}
use Rattle.smb_entry.specs.Parts.{written_tree}
use Rattle.smb_access.specs.declared.open_row.Owner.{Owner}
use Rattle.smb_request.proofs.Handed.{mapped_there, request_passed}
use Rattle.smb_request.proofs.Performed.{call_read}
use Rattle.smb_request.proofs.InfoApart.{set_opens, set_next, queried_left, info_set_left}
use Rattle.smb_access.specs.declared.scan.Scan.{Scan}
use Rattle.smb_opens.specs.Scans.{scan_set}
use Rattle.smb_opens.proofs.ScanLaws.{numbers_scanned}
use Rattle.smb_request.proofs.Listings.{listed_left, none_scanned, held_scanned}
use Rattle.smb_request.proofs.SetUp.{MayReplace, set_up_left}
use Rattle.smb_request.proofs.Numbers.{others_left, next_closed}
use Rattle.smb_request.proofs.Configured.{locks_opens}
use Rattle.smb_request.proofs.Leaving.{LeavesBut, LeavesSharedBut, IsApart, leaves_own, leaves_then, leaves_opens, leaves_same, leaves_changed, leaves_ended, leaves_some, leaves_opened, known_apart, known_there, others_held, opens_of}

-- opens of other sessions
others_of_tree : (m t n : ℕ) (rows : List OpenRow) → (n == m) ≡ false → filter (is_held_by (Session n)) (others (Tree m t) rows) ≡ filter (is_held_by (Session n)) rows
others_of_tree m t n [] e = refl
others_of_tree m t n (row ∷ rows) e = grind (arith, nat_tests, e, others_of_tree m t n rows e)

-- the open of a CLOSE
held_without : (n k : ℕ) (row : OpenRow) (rows : List OpenRow) → AreRising (open_numbers rows) → open_of rows k ≡ Some row → is_held_by (Session n) row ≡ false → filter (is_held_by (Session n)) (without_open k rows) ≡ filter (is_held_by (Session n)) rows
held_without n k row [] r h o = refl
held_without n k row (x ∷ rows) r h o =
    elim (x.number == k) as (λ b. (x.number == k) ≡ b → filter (is_held_by (Session n)) (without_open k (x ∷ rows)) ≡ filter (is_held_by (Session n)) (x ∷ rows)) [
      | true ↦ λ t. (
          let here : x.number ≡ k = grind (arith, nat_tests, t) in
          let found : Some x ≡ Some row = (let q = h in grind (arith, q, t)) in
          let is : x ≡ row = cc in
          let other : is_held_by (Session n) x ≡ false = ap (is_held_by (Session n)) is ∙ o in
          let rest : without_open k rows ≡ rows = kept_above k rows (rw (← here) r.0) in
          grind (arith, t, other, rest))
      | false ↦ λ t. (let later : open_of rows k ≡ Some row = (let q = h in grind (arith, q, t)) in let ih = held_without n k row rows r.1 later o in grind (arith, t, ih))
    ] refl

held_by_tree : (s t n : ℕ) (row : OpenRow) → is_held_by (Tree s t) row ≡ true → (n == s) ≡ false → is_held_by (Session n) row ≡ false
held_by_tree s t n row h e = grind (arith, nat_tests, h, e)

closed_held : (store : StoreState) (s t n k : ℕ) (row : OpenRow) → open_of store.opens k ≡ Some row → is_held_by (Tree s t) row ≡ true → AreRising (open_numbers store.opens) → (n == s) ≡ false →
    filter (is_held_by (Session n)) (without_open k store.opens) ≡ opens_of store n
closed_held store s t n k row e h rising d = held_without n k row store.opens rising e (held_by_tree s t n row h d)

locks_next : (table : ℕ → Table) (store : StoreState) (view : Option View) → (with_locks_of table store view).next ≡ store.next
locks_next table store None = refl
locks_next table store (Some view) =
    elim (is_folder_kind view.kind) as (λ b. (let x : StoreState = if b then store else record store { locks = table view.entry } in x).next ≡ store.next) [ true ↦ refl | false ↦ refl ]

written_by : (store : StoreState) (offset moment : ℕ) (buffer : List ℕ) (row : OpenRow) (b : Bool) → (let x : StoreState = if b then store else record store { tree = written_tree store.tree row.entry offset buffer moment } in x).next ≡ store.next
written_by store offset moment buffer row true = refl
written_by store offset moment buffer row false = refl

written_next : (store : StoreState) (k offset : ℕ) (buffer : List ℕ) (moment : ℕ) → (written_to store k offset buffer moment).next ≡ store.next
written_next store k offset buffer moment =
    elim (open_of store.opens k) as (λ o. (option_map_or (λ (row : OpenRow). if length buffer == 0 then store else record store { tree = written_tree store.tree row.entry offset buffer moment }) o store).next ≡ store.next) [
      | None ↦ refl
      | Some row ↦ written_by store offset moment buffer row (length buffer == 0)
    ]

module _ {S : Type 0} (may : ℕ → SessionState → Type 0) (acts : ℕ → Bool) (call : Call) (a : acts call.connection ≡ true) (server : ServerState S) (o : NumbersInOrder server.sessions.table server.store) where
  abbrev c : ℕ
  c = call.connection

  abbrev s : ℕ
  s = call.ids.session_id

  abbrev k : ℕ
  k = call.open_number

  abbrev Left : ServerState S → Type 0
  Left = LeavesSharedBut may acts server

  -- a session of this connection
  abbrev IsKnown : Type 0
  IsKnown = knows_session server.sessions.table c s ≡ true

  -- the named open is of this session and tree connect
  abbrev IsHeld : Option OpenRow → Type 0
  IsHeld row = option_map_or (is_held_by (Tree s call.ids.tree_id)) row false ≡ true

  same : Left server
  same = leaves_same acts server.sessions.table server.store o

  -- the opens are those before
  opens_kept : (store : StoreState) → store.opens ≡ server.store.opens → store.next ≡ server.store.next → Left (with_store server store)
  opens_kept store e f = leaves_opens acts server.sessions.table server.store o store e f

  -- opens of one owner are closed, and then its session is another
  closed_then : (owner : Owner) (table : TableState) → IsApart acts server.sessions.table s →
      ((n : ℕ) → (n == s) ≡ false → filter (is_held_by (Session n)) (others owner server.store.opens) ≡ opens_of server.store n) →
      (NumbersInOrder server.sessions.table (closed_all server.store owner) → LeavesBut may acts server.sessions.table (closed_all server.store owner) table (closed_all server.store owner)) →
      LeavesBut may acts server.sessions.table server.store table (closed_all server.store owner)
  closed_then owner table apart held step =
      let left = others_left server.store owner o.opens in
      let one = leaves_some acts server.sessions.table server.store o s apart (closed_all server.store owner) _ left.opens left.next held in
      leaves_then acts server.sessions.table server.sessions.table table server.store (closed_all server.store owner) (closed_all server.store owner) o one (step one.order)

  -- a refusal changes nothing
  by_row : (step : CommandStep S) (refusal : Option Refusal) → (refusal ≡ None → Left step.server) → Left (unless_refused server call.ids refusal step).server
  by_row step (Some refusal) h = same
  by_row step None h = h refl

  -- LOGOFF
  logged_off_left : Left (session_logged_off server call).server
  unfolding session_logged_off
  logged_off_left = by_row _ (option_map (λ refusal. Refusal.Logoff refusal) (logoff_refusal server.sessions.table c s)) (λ e.
      let known : IsKnown = grind (arith, e) in
      let apart = known_apart acts server.sessions.table c s a known in
      closed_then (Session s) (session_ended server.sessions.table s) apart (λ n d. others_held s n server.store.opens d)
      (λ after. leaves_ended acts server.sessions.table (closed_all server.store (Session s)) after s apart))

  -- TREE_CONNECT
  joined_left : (path : List ℕ) → Left (tree_joined server call path).server
  unfolding tree_joined
  joined_left path = by_row _ (option_map (λ refusal. Refusal.TreeConnect refusal) (tree_connect_refusal server.sessions c s path)) (λ e.
      let known : IsKnown = grind (arith, e) in
      leaves_changed acts server.sessions.table server.store o s (known_apart acts server.sessions.table c s a known) with_tree)

  -- TREE_DISCONNECT
  disconnected_left : Left (tree_left server call).server
  unfolding tree_left
  disconnected_left = by_row _ (option_map (λ refusal. Refusal.TreeDisconnect refusal) (tree_disconnect_refusal server.sessions.table c s call.ids.tree_id)) (λ e.
      let known : IsKnown = grind (arith, e) in
      let apart = known_apart acts server.sessions.table c s a known in
      closed_then (Tree s call.ids.tree_id) (tree_disconnected server.sessions.table s call.ids.tree_id) apart (λ n d. others_of_tree s call.ids.tree_id n server.store.opens d)
      (λ after. leaves_changed acts server.sessions.table (closed_all server.store (Tree s call.ids.tree_id)) after s apart (without_tree call.ids.tree_id)))

  -- CREATE
  opened_left : (ask : FileAsked) (moment : ℕ) → knows_session server.sessions.table c ask.session ≡ true → Left (with_store server (created server.store ask moment))
  opened_left ask moment known =
      leaves_opened acts server.sessions.table server.store o ask.session (known_apart acts server.sessions.table c ask.session a known) (created server.store ask moment)
      (opened_by ask server.store.next (entry_after server.store.tree ask moment (entry_asked server.store ask)).number (access_granted server.store ask))
      (known_there server.sessions.table c ask.session known) refl refl refl refl

  created_left : (asked : CreateAsked) → IsKnown → Left (file_created server call asked).server
  unfolding file_created
  created_left asked known =
      let ask = file_asked call.ids asked (may_only_read server call) in
      by_row _ (option_map (λ refusal. Refusal.Create refusal) (create_refusal server.store ask)) (λ e. opened_left ask call.moment known)

  -- CLOSE
  closed_open_left : (row : Option OpenRow) → open_of server.store.opens k ≡ row → IsHeld row → IsKnown → Left (with_store server (closed server.store k))
  closed_open_left None e h known = cc
  closed_open_left (Some row) e h known =
      leaves_some acts server.sessions.table server.store o s (known_apart acts server.sessions.table c s a known) (closed server.store k) _
      (opens_closed server.store k (ap (λ (o : Option OpenRow). is_some o) e)) (next_closed server.store k) (λ n d. closed_held server.store s call.ids.tree_id n k row e h o.opens d)

  closed_at : (flags : CloseFlags) (view : Option View) → Left (with_store server (closed server.store k)) →
      Left (option_map_or (λ view. let x : CommandStep S = record { server = with_store server (closed server.store k); response = success call.ids (answers_close (close_response flags view)) } in x) view (refused server call.ids (Refusal.Close CloseRefusal.UnknownOpen))).server
  closed_at flags None h = same
  closed_at flags (Some view) h = h

  closed_left : (flags : CloseFlags) → Left (with_store server (closed server.store k)) → Left (file_closed server call flags).server
  unfolding file_closed
  closed_left flags h = closed_at flags (open_view server.store k) h

  -- QUERY_DIRECTORY
  scanned_left : (row : Option OpenRow) → open_of server.store.opens k ≡ row → IsHeld row → IsKnown → (scan : Scan) → Left (with_store server (scan_set server.store k scan))
  scanned_left None e h known scan = cc
  scanned_left (Some row) e h known scan =
      let table = server.sessions.table in
      let numbers = numbers_scanned k scan server.store.opens in
      leaves_own acts table table server.store (scan_set server.store k scan) s (known_apart acts table c s a known)
      (record { sessions = o.sessions; sessions_given = o.sessions_given; opens = rw numbers o.opens; opens_given = rw numbers o.opens_given })
      (omega arith) (λ n d. (refl, held_scanned n k scan row server.store.opens o.opens e (held_by_tree s call.ids.tree_id n row h d))) (λ l none. (none.0, none_scanned s k scan server.store.opens none.1))

  -- LOCK
  locks_kept : (table : ℕ → Table) → Left (with_store server (with_locks_of table server.store (open_view server.store k)))
  locks_kept table = opens_kept (with_locks_of table server.store (open_view server.store k)) (locks_opens table server.store (open_view server.store k)) (locks_next table server.store (open_view server.store k))

  locked_left : (asks : List LockAsk) → Left (file_locked server call asks).server
  locked_left asks = by_row _ (through_open server.store k (option_map (λ refusal. Refusal.Lock refusal) (lock_refusal server.store k asks))) (λ e. locks_kept (λ entry. locked server.store.locks entry k asks))

  unlocked_at : (after : ServerState S) (refusal : Option Refusal) → Left after → Left (unless_refused after call.ids refusal (record { server = after; response = success call.ids answers_lock })).server
  unlocked_at after None h = h
  unlocked_at after (Some refusal) h = h

  unlocked_left : (asks : List LockAsk) → Left (file_unlocked server call asks).server
  unlocked_left asks =
      unlocked_at (with_store server (unlocked_through server.store k asks)) (through_open server.store k (option_map (λ refusal. Refusal.Lock refusal) (unlock_refusal server.store k asks))) (locks_kept (λ entry. unlocked server.store.locks entry k asks))

  locks_left : (asks : List LockAsk) (b : Bool) → Left (let x : CommandStep S = if b then file_unlocked server call asks else file_locked server call asks in x).server
  locks_left asks true = unlocked_left asks
  locks_left asks false = locked_left asks

  -- READ and WRITE
  read_left : (asked : ReadRequest) → Left (file_read server call asked).server
  unfolding file_read
  read_left asked = by_row _ (through_open server.store k (option_map (λ refusal. Refusal.Read refusal) (read_refusal server.store (most_at_once call.dialect) k asked.offset asked.length asked.minimum_count))) (λ e. same)

  written_left : (asked : WriteAsked) → Left (file_written server call asked).server
  unfolding file_written
  written_left asked =
      by_row _ (through_open server.store k (option_map (λ refusal. Refusal.Write refusal) (write_refusal server.store (most_at_once call.dialect) k asked.offset asked.buffer)))
      (λ e. opens_kept (written_to server.store k asked.offset asked.buffer call.moment) (opens_left server.store k asked.offset asked.buffer call.moment) (written_next server.store k asked.offset asked.buffer call.moment))

  -- NEGOTIATE
  negotiated_at : (m : Meaning S) (best : Option Dialect) →
      Left (option_map_or (λ best. let x : CommandStep S = record { server = server; response = success call.ids (negotiate_answer (requires_of m server) server.settings.guid (hello_of m server) call.moment (Some best) (revision_of best)) } in x) best (refused server call.ids (Refusal.Negotiate NoDialect))).server
  negotiated_at m None = same
  negotiated_at m (Some best) = same

  negotiated_left : (m : Meaning S) (dialects : List ℕ) → Left (negotiated m server call dialects).server
  negotiated_left m dialects = negotiated_at m (best_of dialects)

  -- each command: a request that needs a session acts under one of this connection, and the open that it names exists
  pub acts_known : (asked : RequestValue) → needs_session (needs_of asked) ≡ true → check_session_tree_and_open server call asked ≡ None → IsKnown
  acts_known asked t e = grind (arith, e, t)

  open_held : (named : ContextOpen) → open_refusal server.store.opens call.ids named ≡ None → IsHeld (open_of server.store.opens (number_named (Some named)))
  open_held Nothing e = cc
  open_held (Refused status) e = cc
  open_held (Named id) e =
      let names : names_open server.store.opens call.ids id ≡ true = grind (arith, e) in
      grind (arith, names)

  named_held : (named : Option ContextOpen) → named ≡ named_open call → is_some named ≡ true → option_and_then (open_refusal server.store.opens call.ids) named ≡ None → IsHeld (open_of server.store.opens (number_named named))
  named_held None is there e = cc
  named_held (Some named) is there e = open_held named e

  -- the open of a request that has a FileId
  pub id_held : (asked : RequestValue) → IsCallOf call (Some asked) → is_some (file_id_of asked) ≡ true → check_session_tree_and_open server call asked ≡ None → IsHeld (open_of server.store.opens k)
  id_held asked read there e =
      let some : is_some (named_open call) ≡ true = mapped_there (open_named call.inherited) call.file_id (ap is_some read.file_id ∙ there) in
      let unrefused : option_and_then (open_refusal server.store.opens call.ids) (named_open call) ≡ None = grind (arith, e) in
      subst (λ n. IsHeld (open_of server.store.opens n)) (sym read.open_number) (named_held (named_open call) refl some unrefused)

  -- why the session that a SESSION_SETUP names as the previous one may be over
  abbrev Causes : Meaning S → RequestValue → Type 0
  Causes m asked =
      (setup : SessionSetupAsked) → asked ≡ asks_session_setup setup → MayReplace may setup.previous_session_id (m.answer server.sessions.authenticator (setup_number server.sessions.table s) setup.security_buffer)

  acted_left : (m : Meaning S) (asked : RequestValue) → IsCallOf call (Some asked) → Causes m asked → check_session_tree_and_open server call asked ≡ None → Left (acted m server call asked).server
  acted_left m (asks_negotiate x) read cause e = negotiated_left m x.dialects
  acted_left m (asks_session_setup x) read cause e = set_up_left may m acts call a server o x (cause x refl)
  acted_left m (asks_logoff x) read cause e = logged_off_left
  acted_left m (asks_tree_connect x) read cause e = joined_left x.path
  acted_left m (asks_tree_disconnect x) read cause e = disconnected_left
  acted_left m (asks_create x) read cause e = created_left x (acts_known (asks_create x) refl e)
  acted_left m (asks_close x) read cause e =
      closed_left x.flags (closed_open_left (open_of server.store.opens k) refl (id_held (asks_close x) read refl e) (acts_known (asks_close x) refl e))
  acted_left m (asks_flush x) read cause e = same
  acted_left m (asks_read x) read cause e = read_left x
  acted_left m (asks_write x) read cause e = written_left x
  acted_left m (asks_lock x) read cause e = locks_left (lock_asks x.locks) (asks_unlock (lock_asks x.locks))
  acted_left m (asks_cancel x) read cause e = same
  acted_left m (asks_echo x) read cause e = same
  acted_left m (asks_query_directory x) read cause e =
      listed_left Left server same call
      (λ scan. scanned_left (open_of server.store.opens k) refl (id_held (asks_query_directory x) read refl e) (acts_known (asks_query_directory x) refl e) scan) x
  acted_left m (asks_query_info x) read cause e = queried_left Left server same call x
  acted_left m (asks_set_info x) read cause e =
      info_set_left Left server same call (λ ask done. opens_kept (set_through server.store k call.moment ask) (set_opens server.store k call.moment ask) (set_next server.store k call.moment ask)) x

  checked_left : (m : Meaning S) (asked : RequestValue) (refusal : Option RequestRefusal) → IsCallOf call (Some asked) → Causes m asked → check_request server call asked ≡ refusal →
      Left (unless_refused server call.ids (option_map (λ refusal. Refusal.Request refusal) refusal) (acted m server call asked)).server
  checked_left m asked (Some refusal) read cause e = same
  checked_left m asked None read cause e = acted_left m asked read cause (request_passed server call asked e)

  body_left : (m : Meaning S) (unsupported : Bool) (body : Option RequestValue) → IsCallOf call body → ((value : RequestValue) → body ≡ Some value → Causes m value) →
      Left (let x : CommandStep S = if unsupported then refused server call.ids (Refusal.Request CommandNotPerformed) else
      option_map_or (λ asked. unless_refused server call.ids (option_map (λ refusal. Refusal.Request refusal) (check_request server call asked)) (acted m server call asked)) body
      (refused server call.ids (Refusal.Request (if is_none call.command then UnknownCommand else BodyUnreadable))) in x).server
  body_left m true body read cause = same
  body_left m false None read cause = same
  body_left m false (Some asked) read cause = checked_left m asked (check_request server call asked) read (cause asked refl) refl

  performed_left : (m : Meaning S) (body : Option RequestValue) → IsCallOf call body → ((value : RequestValue) → body ≡ Some value → Causes m value) → Left (performed_by m server call body).server
  performed_left m body read cause = body_left m (option_map_or is_unsupported call.command false) body read cause

module _ {S : Type 0} (may : ℕ → SessionState → Type 0) (acts : ℕ → Bool) (c : ℕ) (a : acts c ≡ true) (server : ServerState S) (o : NumbersInOrder server.sessions.table server.store) where
  request_left_but : (m : Meaning S) (moment : ℕ) (dialect : Option Dialect) (context : Context) (request : List ℕ) →
      ((n : ℕ) (session : SessionState) → ReplacesSession m server context request n session → may n session) → LeavesSharedBut may acts server (verified m c moment server dialect context request).server
  unfolding verified
  request_left_but m moment dialect context request replaces =
      let call = call_of c moment dialect context request in
      let left = performed_left may acts call a server o m (body_of call.command request) (call_read c moment dialect context request)
      (λ value says setup is user flags read_only signing token session accepted same_user. replaces setup.previous_session_id session (record {
        asked = setup;
        user = user;
        flags = flags;
        read_only = read_only;
        signing = signing;
        token = token;
        says = says ∙ ap (λ (v : RequestValue). Some v) is;
        accepted = accepted;
        same_user = same_user;
        previous = refl;
      })) in
      elim (is_cancel_command call.command) as (λ b. LeavesSharedBut may acts server (let x : Performed S = if b then record {
        server = server;
        dialect = dialect;
        context = record { ids = call.ids; last_open = named_on call.inherited call.file_id };
        response = None;
      } else record {
        server = (performed_by m server call (body_of call.command request)).server;
        dialect = option_map_or (dialect_after dialect) (body_of call.command request) dialect;
        context = record {
          ids = (performed_by m server call (body_of call.command request)).response.ids;
          last_open = open_for_next_related call.inherited server.store.next call.command call.file_id (performed_by m server call (body_of call.command request)).response.status;
        };
        response = Some (performed_by m server call (body_of call.command request)).response;
      } in x).server) [ true ↦ leaves_same acts server.sessions.table server.store o | false ↦ left ]

-- the session that it replaces may be over
pub request_left : {S : Type 0} (acts : ℕ → Bool) (c : ℕ) → acts c ≡ true → (server : ServerState S) → NumbersInOrder server.sessions.table server.store → (m : Meaning S) (moment : ℕ) (dialect : Option Dialect) (context : Context) (request : List ℕ) →
    LeavesSharedBut (ReplacesSession m server context request) acts server (performed m c moment server dialect context request).server
request_left acts c a server o m moment dialect context request =
    by_signature m c moment server dialect context request (λ done. LeavesSharedBut (ReplacesSession m server context request) acts server done.server)
    (λ refusal. leaves_same acts server.sessions.table server.store o)
    (request_left_but (ReplacesSession m server context request) acts c a server o m moment dialect context request (λ n session replaces. replaces))

-- all connections but one
same_connection : (c : ℕ) → (c == c) ≡ true
same_connection c = grind (arith, nat_tests)

pub request_alone : {S : Type 0} (m : Meaning S) (c moment : ℕ) (server : ServerState S) (dialect : Option Dialect) (context : Context) (request : List ℕ) (n : ℕ) (session : SessionState) → NumbersInOrder server.sessions.table server.store →
    session_at server.sessions.table n ≡ Some session → session.connection == c ≡ false →
    IsAsItWas server (performed m c moment server dialect context request).server n ⊎ (IsOver (performed m c moment server dialect context request).server n × ReplacesSession m server context request n session)
request_alone m c moment server dialect context request n session o at other =
    (request_left (λ x. x == c) c (same_connection c) server o m moment dialect context request).alone n session at other

pub request_order : {S : Type 0} (m : Meaning S) (c moment : ℕ) (server : ServerState S) (dialect : Option Dialect) (context : Context) (request : List ℕ) → NumbersInOrder server.sessions.table server.store →
    IsInOrder (performed m c moment server dialect context request).server
request_order m c moment server dialect context request o = (request_left (λ x. true) c refl server o m moment dialect context request).order
