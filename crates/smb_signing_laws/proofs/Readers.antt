-- A request under a session that is no finished one of its connection, or may only read.
use Rattle.std.proofs.Common.{◌≡◌, ◌≢◌, ◌==◌, ◌&&◌, ◌||◌, eqb, ℕ, Bool, true, false, not, if◌then◌else◌, List, [], ◌∷◌, Option, None, Some, is_some, refl, ap, arith, ◌∙◌}
use Rattle.std.proofs.lemmas.Bool.{eqb-true, and_parts}
use Rattle.std.specs.Option.{is_none, option_map, option_map_or}
use Rattle.smb_wire.specs.Limits.{most_at_once}
use Rattle.smb_wire.specs.Dialects.{revision_of}
use Rattle.smb_wire.specs.declared.dialect.Dialect.{Dialect}
use Rattle.smb_wire.specs.declared.nt_status.NtStatus.TheVariants.{Success}
use Rattle.smb_body.specs.Requests.{RequestValue, asks_negotiate, asks_session_setup, asks_logoff, asks_tree_connect, asks_tree_disconnect, asks_create, asks_close, asks_flush, asks_read, asks_write, asks_lock, asks_cancel, asks_echo, asks_query_directory, asks_query_info, asks_set_info, file_id_of}
use Rattle.smb_body.specs.SessionSetup.{SessionSetupAsked}
use Rattle.smb_body.specs.Create.{CreateAsked}
use Rattle.smb_body.specs.Write.{WriteAsked}
use Rattle.smb_body.specs.Replies.{answers_close, answers_lock}
use Rattle.smb_body.specs.declared.read.ReadRequest.{ReadRequest}
use Rattle.smb_body.specs.declared.close.CloseFlags.{CloseFlags}
use Rattle.smb_session.specs.Authenticator.{Meaning}
use Rattle.smb_session.specs.Negotiate.{best_of}
use Rattle.smb_session.specs.Session.{SessionState}
use Rattle.smb_session.specs.Sessions.{setup_step, tree_connect_refusal}
use Rattle.smb_session.specs.Setup.{setup_refusal}
use Rattle.smb_session.specs.Table.{TableState, session_at, knows_session, knows_tree, read_only_of, tree_disconnect_refusal}
use Rattle.smb_session.specs.Parts.{logoff_refusal}
use Rattle.smb_access.specs.Access.{is_past_reading}
use Rattle.smb_access.specs.Asked.{FileAsked}
use Rattle.smb_access.specs.Effect.{entry_after}
use Rattle.smb_access.specs.Parts.{opened_by, has_number}
use Rattle.smb_access.specs.Opens.{open_of, is_held_by}
use Rattle.smb_access.specs.declared.open_row.OpenRow.{OpenRow}
use Rattle.smb_access.specs.declared.open_row.Owner.TheVariants.{Session, Tree}
use Rattle.smb_access.specs.declared.scan.Scan.{Scan}
use Rattle.smb_access.specs.declared.view.View.{View}
use Rattle.smb_locks.specs.declared.ask.LockAsk.{LockAsk}
use Rattle.smb_locks.specs.Table.{locked, unlocked}
use Rattle.smb_info.specs.SetInformation.{SetAsked, asks_basic, asks_rename, asks_mark, asks_allocation, asks_end}
use Rattle.smb_opens.specs.Bytes.{read_refusal, write_refusal}
use Rattle.smb_opens.specs.Close.{closed}
use Rattle.smb_opens.specs.Create.{access_granted, create_refusal, create_status}
use Rattle.smb_refusals.specs.declared.refusal.Refusal.{Refusal}
use Rattle.smb_refusals.specs.declared.file.CloseRefusal.{CloseRefusal}
use Rattle.smb_refusals.specs.declared.request.RequestRefusal.{RequestRefusal}
use Rattle.smb_refusals.specs.declared.request.RequestRefusal.TheVariants.{UnknownCommand, CommandNotPerformed, BodyUnreadable}
use Rattle.smb_refusals.specs.declared.request.NegotiateRefusal.TheVariants.{NoDialect}
use Rattle.smb_request.proofs.Refused.{none_named, create_succeeds, write_succeeds}
use Rattle.smb_opens.specs.Effect.{created}
use Rattle.smb_opens.specs.Found.{entry_asked}
use Rattle.smb_opens.specs.Locks.{lock_refusal, unlock_refusal, unlocked_through}
use Rattle.smb_opens.specs.Readers.{LeavesFiles, IsReadersOpen}
use Rattle.smb_opens.specs.Scans.{scan_set}
use Rattle.smb_opens.specs.State.{StoreState}
use Rattle.smb_opens.specs.Steps.{creates, writes, locks, unlocks, sets_delete, sets_size, sets_basic, renames, sets_scan, closes, closes_all}
use Rattle.smb_opens.specs.Views.{open_view}
use Rattle.smb_opens.proofs.Again.{opens_left as opens_written}
use Rattle.smb_opens.proofs.Closing.{opens_closed}
use Rattle.smb_opens.proofs.Readers.{leaves_files_refl, step_leaves_files}
use Rattle.smb_request.specs.declared.context.Context.{Context}
use Rattle.smb_request.specs.Bytes.{file_read, file_written}
use Rattle.smb_request.specs.Call.{body_of, call_of, request_ids}
use Rattle.smb_request.specs.Files.{file_created, file_closed}
use Rattle.smb_request.specs.Parts.{file_asked, close_response, asks_unlock, needs_session, is_unsupported, has_tree, only_reads, owns, is_owned, check_session_tree_and_open, closed_for, setup_answered, lock_asks, hello_of, requires_of, performed_by, success, set_status, set_through, with_store, file_locked, file_unlocked, negotiated}
use Rattle.smb_request.specs.Held.{IsCallOf, opens_left}
use Rattle.smb_request.specs.Laws.{NumbersInOrder, ChangesNoFile}
use Rattle.smb_body.specs.Needs.{needs_of}
use Rattle.smb_request.specs.Negotiate.{negotiate_answer}
use Rattle.smb_request.specs.Owners.{AreOwned}
use Rattle.smb_request.specs.Request.{check_request, acted, performed}
use Rattle.smb_request.proofs.Verified.{by_signature}
use Rattle.smb_signing_laws.proofs.Parts.{verified_by}
use Rattle.smb_request.specs.Response.{CommandStep, Performed, refused, through_open, unless_refused}
use Rattle.smb_request.specs.Session.{asks_to_sign, may_only_read, session_set_up, session_logged_off, tree_joined, tree_left}
use Rattle.smb_request.specs.State.{ServerState}
use Rattle.smb_request.proofs.Apart.{acts_known, id_held}
use Rattle.smb_request.proofs.Configured.{locks_opens}
use Rattle.smb_request.proofs.Handed.{request_passed}
use Rattle.smb_request.proofs.InfoApart.{set_opens, queried_left, info_set_left}
use Rattle.smb_request.proofs.Listings.{owned_scanned, listed_left}
use Rattle.smb_request.proofs.Numbers.{others_left}
use Rattle.smb_request.proofs.Owners.{owned_ended, owned_tree, owned_untree, owned_setup, owned_some, owned_new, owned_push, reader_only}
use Rattle.smb_request.proofs.Performed.{call_read}

-- a session that a connection knows may only read where it may not write
reads_found : (c : ℕ) (o : Option SessionState) → option_map_or (λ state. (state.connection == c) && is_some state.user) o false ≡ true → option_map (λ state. state.read_only) o ≢ Some false → option_map (λ state. state.read_only) o ≡ Some true
reads_found c None known other = cc
reads_found c (Some session) known other = by_value session.read_only refl
  where
    by_value : (b : Bool) → session.read_only ≡ b → option_map (λ state. state.read_only) (Some session) ≡ Some true
    by_value true t = ap (λ b. Some b) t
    by_value false t = absurd (other (ap (λ b. Some b) t))

module _ (table : TableState) (c s : ℕ) (known : knows_session table c s ≡ true) (other : read_only_of table c s ≢ Some false) where
  reader_found : option_map (λ state. state.read_only) (session_at table s) ≡ Some true
  reader_found = reads_found c (session_at table s) known (rw known at other)

  reader_known : read_only_of table c s ≡ Some true
  reader_known = rw known reader_found

-- an open that it owns can only read
owned_reads : (row : OpenRow) (o : Option SessionState) → option_map_or (owns row) o false ≡ true → option_map (λ state. state.read_only) o ≡ Some true → only_reads row ≡ true
owned_reads row None h r = cc
owned_reads row (Some session) h r =
    let only : session.read_only ≡ true = cc in
    let second = (and_parts (has_tree row.tree session) (not session.read_only || only_reads row) h).1 in
    rw only at second

found_here : (table : TableState) (k : ℕ) (row x : OpenRow) (rows : List OpenRow) (b : Bool) → has_number k x ≡ b → is_owned table x ≡ true → (open_of rows k ≡ Some row → is_owned table row ≡ true) → open_of (x ∷ rows) k ≡ Some row → is_owned table row ≡ true
found_here table k row x rows true t h ih e = let is : x ≡ row = (let found = rw t at e in cc) in rw (← is) h
found_here table k row x rows false t h ih e = ih (rw t at e)

owned_found : (table : TableState) (k : ℕ) (row : OpenRow) (rows : List OpenRow) → AreOwned table rows → open_of rows k ≡ Some row → is_owned table row ≡ true
owned_found table k row [] own e = cc
owned_found table k row (x ∷ rows) own e = found_here table k row x rows (has_number k x) refl own.0 (owned_found table k row rows own.1) e

not_so : (b : Bool) → not b ≡ true → b ≡ false
not_so true h = cc
not_so false h = refl

-- the opens of a session that ended are closed
closed_for_files : (store : StoreState) (ended : Option ℕ) → LeavesFiles store (closed_for store ended)
closed_for_files store None = leaves_files_refl store
closed_for_files store (Some session) = step_leaves_files store (closes_all (Session session)) tt

closed_for_opens : (table : TableState) (store : StoreState) (ended : Option ℕ) → NumbersInOrder table store → (closed_for store ended).opens ≡ opens_left ended store.opens
closed_for_opens table store None o = refl
closed_for_opens table store (Some session) o = (others_left store (Session session) o.opens).opens

module _ {S : Type 0} (connection moment : ℕ) (dialect : Option Dialect) (context : Context) (request : List ℕ) (server : ServerState S) (o : NumbersInOrder server.sessions.table server.store) (own : AreOwned server.sessions.table server.store.opens) (other : read_only_of server.sessions.table connection (request_ids context request).session_id ≢ Some false) where
  abbrev c : ℕ
  c = (call_of connection moment dialect context request).connection

  abbrev s : ℕ
  s = (call_of connection moment dialect context request).ids.session_id

  abbrev k : ℕ
  k = (call_of connection moment dialect context request).open_number

  abbrev table : TableState
  table = server.sessions.table

  abbrev Left : ServerState S → Type 0
  Left = ChangesNoFile server

  abbrev IsKnown : Type 0
  IsKnown = knows_session table c s ≡ true

  abbrev IsHeld : Option OpenRow → Type 0
  IsHeld row = option_map_or (is_held_by (Tree s (call_of connection moment dialect context request).ids.tree_id)) row false ≡ true

  same : Left server
  same = record { files = leaves_files_refl server.store; owned = own }

  by_row : (step : CommandStep S) (refusal : Option Refusal) → (refusal ≡ None → Left step.server) → Left (unless_refused server (call_of connection moment dialect context request).ids refusal step).server
  by_row step (Some refusal) h = same
  by_row step None h = h refl

  -- the open that a request names may only read
  held_reads : (row : OpenRow) → is_owned table row ≡ true → is_held_by (Tree s (call_of connection moment dialect context request).ids.tree_id) row ≡ true → IsKnown → only_reads row ≡ true
  held_reads row h held known =
      let is : row.session ≡ s = eqb-true row.session s (and_parts (eqb row.session s) (eqb row.tree (call_of connection moment dialect context request).ids.tree_id) held).0 in
      owned_reads row (session_at table row.session) h (rw is (reader_found table c s known other))

  reader_at : (row : Option OpenRow) → open_of server.store.opens k ≡ row → IsHeld row → IsKnown → IsReadersOpen server.store k
  reader_at None e held known = cc
  reader_at (Some row) e held known =
      let reads = held_reads row (owned_found table k row server.store.opens own e) held known in
      (row, e, not_so (is_past_reading row.access) (and_parts (not (is_past_reading row.access)) (not row.delete_on_close) reads).0)

  -- SESSION_SETUP
  set_up_at : (m : Meaning S) (asked : SessionSetupAsked) (refusal : Option Refusal) → option_map (λ refusal. Refusal.SessionSetup refusal) (setup_refusal table c s asked.flags.0) ≡ refusal →
      Left (unless_refused server (call_of connection moment dialect context request).ids refusal (setup_answered server (call_of connection moment dialect context request).ids (setup_step m server.sessions c s asked.previous_session_id (asks_to_sign asked) asked.security_buffer))).server
  set_up_at m asked (Some refusal) e = same
  set_up_at m asked None e =
      let step = setup_step m server.sessions c s asked.previous_session_id (asks_to_sign asked) asked.security_buffer in
      let unrefused : setup_refusal table c s asked.flags.0 ≡ None = none_named (λ refusal. Refusal.SessionSetup refusal) (setup_refusal table c s asked.flags.0) e in
      record {
        files = closed_for_files server.store step.told.ended;
        owned = rw (closed_for_opens table server.store step.told.ended o) (owned_setup m server.sessions c s asked.previous_session_id asked.flags.0 (asks_to_sign asked) asked.security_buffer server.store.opens o.sessions_given unrefused own);
      }

  set_up_reads : (m : Meaning S) (asked : SessionSetupAsked) → Left (session_set_up m server (call_of connection moment dialect context request) asked).server
  unfolding session_set_up
  set_up_reads m asked = set_up_at m asked (option_map (λ refusal. Refusal.SessionSetup refusal) (setup_refusal table c s asked.flags.0)) refl

  -- LOGOFF
  logged_off_reads : Left (session_logged_off server (call_of connection moment dialect context request)).server
  unfolding session_logged_off
  logged_off_reads = by_row _ (option_map (λ refusal. Refusal.Logoff refusal) (logoff_refusal table c s)) (λ e. record {
    files = step_leaves_files server.store (closes_all (Session s)) tt;
    owned = rw (others_left server.store (Session s) o.opens).opens (owned_ended table s server.store.opens own);
  })

  -- TREE_CONNECT
  joined_reads : (path : List ℕ) → Left (tree_joined server (call_of connection moment dialect context request) path).server
  unfolding tree_joined
  joined_reads path = by_row _ (option_map (λ refusal. Refusal.TreeConnect refusal) (tree_connect_refusal server.sessions c s path)) (λ e. record {
    files = leaves_files_refl server.store;
    owned = owned_tree table s server.store.opens own;
  })

  -- TREE_DISCONNECT
  left_reads : Left (tree_left server (call_of connection moment dialect context request)).server
  unfolding tree_left
  left_reads = by_row _ (option_map (λ refusal. Refusal.TreeDisconnect refusal) (tree_disconnect_refusal table c s (call_of connection moment dialect context request).ids.tree_id)) (λ e. record {
    files = step_leaves_files server.store (closes_all (Tree s (call_of connection moment dialect context request).ids.tree_id)) tt;
    owned = rw (others_left server.store (Tree s (call_of connection moment dialect context request).ids.tree_id) o.opens).opens (owned_untree table s (call_of connection moment dialect context request).ids.tree_id server.store.opens own);
  })

  -- CREATE
  opened_reads : (ask : FileAsked) (moment : ℕ) → ask.session ≡ s → ask.tree ≡ (call_of connection moment dialect context request).ids.tree_id → ask.read_only ≡ true → IsKnown → knows_tree table s (call_of connection moment dialect context request).ids.tree_id ≡ true → create_status server.store ask ≡ Success →
      Left (with_store server (created server.store ask moment))
  opened_reads ask moment of_session of_tree reader known tree done =
      let opened : OpenRow = opened_by ask server.store.next (entry_after server.store.tree ask moment (entry_asked server.store ask)).number (access_granted server.store ask) in
      let only = reader_only server.store ask moment reader done in
      let known' : knows_session table c opened.session ≡ true = ap (knows_session table c) of_session ∙ known in
      let tree' : knows_tree table opened.session opened.tree ≡ true = rw (of_session, of_tree) tree in
      record {
        files = step_leaves_files server.store (creates ask moment) (reader, done);
        owned = owned_push table server.store.opens opened own (owned_new table c opened known' tree' (λ r. only));
      }

  created_reads : (asked : CreateAsked) → IsKnown → knows_tree table s (call_of connection moment dialect context request).ids.tree_id ≡ true → Left (file_created server (call_of connection moment dialect context request) asked).server
  unfolding file_created
  created_reads asked known tree =
      let ask = file_asked (call_of connection moment dialect context request).ids asked (may_only_read server (call_of connection moment dialect context request)) in
      let reader : may_only_read server (call_of connection moment dialect context request) ≡ true = rw (reader_known table c s known other) refl in
      by_row _ (option_map (λ refusal. Refusal.Create refusal) (create_refusal server.store ask))
      (λ e. opened_reads ask (call_of connection moment dialect context request).moment refl refl reader known tree (create_succeeds server.store ask (none_named (λ refusal. Refusal.Create refusal) (create_refusal server.store ask) e)))

  -- CLOSE
  closed_reads : (row : Option OpenRow) → open_of server.store.opens k ≡ row → IsHeld row → Left (with_store server (closed server.store k))
  closed_reads None e held = cc
  closed_reads (Some row) e held = record {
    files = step_leaves_files server.store (closes k) tt;
    owned = rw (opens_closed server.store k (ap (λ (o : Option OpenRow). is_some o) e)) (owned_some table (λ row. not (has_number k row)) server.store.opens own);
  }

  closed_at : (flags : CloseFlags) (view : Option View) → Left (with_store server (closed server.store k)) →
      Left (option_map_or (λ view. let x : CommandStep S = record { server = with_store server (closed server.store k); response = success (call_of connection moment dialect context request).ids (answers_close (close_response flags view)) } in x) view (refused server (call_of connection moment dialect context request).ids (Refusal.Close CloseRefusal.UnknownOpen))).server
  closed_at flags None h = same
  closed_at flags (Some view) h = h

  close_reads : (flags : CloseFlags) → Left (with_store server (closed server.store k)) → Left (file_closed server (call_of connection moment dialect context request) flags).server
  unfolding file_closed
  close_reads flags h = closed_at flags (open_view server.store k) h

  -- QUERY_DIRECTORY
  scanned_reads : (scan : Scan) → Left (with_store server (scan_set server.store k scan))
  scanned_reads scan = record {
    files = step_leaves_files server.store (sets_scan k scan) tt;
    owned = owned_scanned table k scan server.store.opens own;
  }

  -- LOCK
  locked_reads : (asks : List LockAsk) → Left (file_locked server (call_of connection moment dialect context request) asks).server
  locked_reads asks = by_row _ (through_open server.store k (option_map (λ refusal. Refusal.Lock refusal) (lock_refusal server.store k asks))) (λ done. record {
    files = step_leaves_files server.store (locks k asks) tt;
    owned = rw (locks_opens (λ entry. locked server.store.locks entry k asks) server.store (open_view server.store k)) own;
  })

  unlocked_at : (after : ServerState S) (refusal : Option Refusal) → Left after → Left (unless_refused after (call_of connection moment dialect context request).ids refusal (record { server = after; response = success (call_of connection moment dialect context request).ids answers_lock })).server
  unlocked_at after None h = h
  unlocked_at after (Some refusal) h = h

  unlocked_reads : (asks : List LockAsk) → Left (file_unlocked server (call_of connection moment dialect context request) asks).server
  unlocked_reads asks =
      unlocked_at (with_store server (unlocked_through server.store k asks)) (through_open server.store k (option_map (λ refusal. Refusal.Lock refusal) (unlock_refusal server.store k asks))) (record {
        files = step_leaves_files server.store (unlocks k asks) tt;
        owned = rw (locks_opens (λ entry. unlocked server.store.locks entry k asks) server.store (open_view server.store k)) own;
      })

  locks_reads : (asks : List LockAsk) (b : Bool) → Left (let x : CommandStep S = if b then file_unlocked server (call_of connection moment dialect context request) asks else file_locked server (call_of connection moment dialect context request) asks in x).server
  locks_reads asks true = unlocked_reads asks
  locks_reads asks false = locked_reads asks

  -- READ and WRITE
  read_reads : (asked : ReadRequest) → Left (file_read server (call_of connection moment dialect context request) asked).server
  unfolding file_read
  read_reads asked = by_row _ (through_open server.store k (option_map (λ refusal. Refusal.Read refusal) (read_refusal server.store (most_at_once (call_of connection moment dialect context request).dialect) k asked.offset asked.length asked.minimum_count))) (λ done. same)

  written_reads : (asked : WriteAsked) → IsReadersOpen server.store k → Left (file_written server (call_of connection moment dialect context request) asked).server
  unfolding file_written
  written_reads asked reader =
      by_row _ (through_open server.store k (option_map (λ refusal. Refusal.Write refusal) (write_refusal server.store (most_at_once (call_of connection moment dialect context request).dialect) k asked.offset asked.buffer))) (λ done. record {
        files = step_leaves_files server.store (writes k asked.offset asked.buffer (call_of connection moment dialect context request).moment) (reader, (most_at_once (call_of connection moment dialect context request).dialect, write_succeeds server.store (most_at_once (call_of connection moment dialect context request).dialect) k asked.offset asked.buffer done));
        owned = rw (opens_written server.store k asked.offset asked.buffer (call_of connection moment dialect context request).moment) own;
      })

  -- SET_INFO
  set_files : (ask : SetAsked) → IsReadersOpen server.store k → set_status server.store k ask ≡ Success → LeavesFiles server.store (set_through server.store k (call_of connection moment dialect context request).moment ask)
  set_files (asks_basic ask) reader done = step_leaves_files server.store (sets_basic k ask (call_of connection moment dialect context request).moment) (reader, done)
  set_files (asks_rename replace name) reader done = step_leaves_files server.store (renames k name (call_of connection moment dialect context request).moment) (reader, (replace, done))
  set_files (asks_mark mark) reader done = step_leaves_files server.store (sets_delete k mark) (reader, done)
  set_files (asks_allocation size) reader done = step_leaves_files server.store (sets_size k size true (call_of connection moment dialect context request).moment) (reader, done)
  set_files (asks_end size) reader done = step_leaves_files server.store (sets_size k size false (call_of connection moment dialect context request).moment) (reader, done)

  set_reads : IsReadersOpen server.store k → (ask : SetAsked) → set_status server.store k ask ≡ Success → Left (with_store server (set_through server.store k (call_of connection moment dialect context request).moment ask))
  set_reads reader ask done = record { files = set_files ask reader done; owned = rw (set_opens server.store k (call_of connection moment dialect context request).moment ask) own }

  -- NEGOTIATE
  negotiated_at : (m : Meaning S) (best : Option Dialect) →
      Left (option_map_or (λ best. let x : CommandStep S = record { server = server; response = success (call_of connection moment dialect context request).ids (negotiate_answer (requires_of m server) server.settings.guid (hello_of m server) (call_of connection moment dialect context request).moment (Some best) (revision_of best)) } in x) best (refused server (call_of connection moment dialect context request).ids (Refusal.Negotiate NoDialect))).server
  negotiated_at m None = same
  negotiated_at m (Some best) = same

  negotiated_reads : (m : Meaning S) (dialects : List ℕ) → Left (negotiated m server (call_of connection moment dialect context request) dialects).server
  negotiated_reads m dialects = negotiated_at m (best_of dialects)

  -- each command
  known_by : (asked : RequestValue) → needs_session (needs_of asked) ≡ true → check_session_tree_and_open server (call_of connection moment dialect context request) asked ≡ None → IsKnown
  known_by asked t e = acts_known (λ n session. ⊥) (λ x. true) (call_of connection moment dialect context request) refl server o asked t e

  tree_known : (asked : CreateAsked) → check_session_tree_and_open server (call_of connection moment dialect context request) (asks_create asked) ≡ None → knows_tree table s (call_of connection moment dialect context request).ids.tree_id ≡ true
  tree_known asked e = grind (arith, e)

  held_by : (asked : RequestValue) → IsCallOf (call_of connection moment dialect context request) (Some asked) → is_some (file_id_of asked) ≡ true → check_session_tree_and_open server (call_of connection moment dialect context request) asked ≡ None → IsHeld (open_of server.store.opens k)
  held_by asked read there e = id_held (λ n session. ⊥) (λ x. true) (call_of connection moment dialect context request) refl server o asked read there e

  acted_reads : (m : Meaning S) (asked : RequestValue) → IsCallOf (call_of connection moment dialect context request) (Some asked) → check_session_tree_and_open server (call_of connection moment dialect context request) asked ≡ None → Left (acted m server (call_of connection moment dialect context request) asked).server
  acted_reads m (asks_negotiate x) read e = negotiated_reads m x.dialects
  acted_reads m (asks_session_setup x) read e = set_up_reads m x
  acted_reads m (asks_logoff x) read e = logged_off_reads
  acted_reads m (asks_tree_connect x) read e = joined_reads x.path
  acted_reads m (asks_tree_disconnect x) read e = left_reads
  acted_reads m (asks_create x) read e = created_reads x (known_by (asks_create x) refl e) (tree_known x e)
  acted_reads m (asks_close x) read e = close_reads x.flags (closed_reads (open_of server.store.opens k) refl (held_by (asks_close x) read refl e))
  acted_reads m (asks_flush x) read e = same
  acted_reads m (asks_read x) read e = read_reads x
  acted_reads m (asks_write x) read e = written_reads x (reader_at (open_of server.store.opens k) refl (held_by (asks_write x) read refl e) (known_by (asks_write x) refl e))
  acted_reads m (asks_lock x) read e = locks_reads (lock_asks x.locks) (asks_unlock (lock_asks x.locks))
  acted_reads m (asks_cancel x) read e = same
  acted_reads m (asks_echo x) read e = same
  acted_reads m (asks_query_directory x) read e = listed_left Left server same (call_of connection moment dialect context request) scanned_reads x
  acted_reads m (asks_query_info x) read e = queried_left Left server same (call_of connection moment dialect context request) x
  acted_reads m (asks_set_info x) read e =
      info_set_left Left server same (call_of connection moment dialect context request) (set_reads (reader_at (open_of server.store.opens k) refl (held_by (asks_set_info x) read refl e) (known_by (asks_set_info x) refl e))) x

  checked_reads : (m : Meaning S) (asked : RequestValue) (refusal : Option RequestRefusal) → IsCallOf (call_of connection moment dialect context request) (Some asked) → check_request server (call_of connection moment dialect context request) asked ≡ refusal →
      Left (unless_refused server (call_of connection moment dialect context request).ids (option_map (λ refusal. Refusal.Request refusal) refusal) (acted m server (call_of connection moment dialect context request) asked)).server
  checked_reads m asked (Some refusal) read e = same
  checked_reads m asked None read e = acted_reads m asked read (request_passed server (call_of connection moment dialect context request) asked e)

  body_reads : (m : Meaning S) (unsupported : Bool) (body : Option RequestValue) → IsCallOf (call_of connection moment dialect context request) body →
      Left (let x : CommandStep S = if unsupported then refused server (call_of connection moment dialect context request).ids (Refusal.Request CommandNotPerformed) else
      option_map_or (λ asked. unless_refused server (call_of connection moment dialect context request).ids (option_map (λ refusal. Refusal.Request refusal) (check_request server (call_of connection moment dialect context request) asked)) (acted m server (call_of connection moment dialect context request) asked)) body
      (refused server (call_of connection moment dialect context request).ids (Refusal.Request (if is_none (call_of connection moment dialect context request).command then UnknownCommand else BodyUnreadable))) in x).server
  body_reads m true body read = same
  body_reads m false None read = same
  body_reads m false (Some asked) read = checked_reads m asked (check_request server (call_of connection moment dialect context request) asked) read refl

  performed_reads : (m : Meaning S) (body : Option RequestValue) → IsCallOf (call_of connection moment dialect context request) body → Left (performed_by m server (call_of connection moment dialect context request) body).server
  performed_reads m body read = body_reads m (option_map_or is_unsupported (call_of connection moment dialect context request).command false) body read

pub request_reads : {S : Type 0} (m : Meaning S) (c moment : ℕ) (server : ServerState S) (dialect : Option Dialect) (context : Context) (request : List ℕ) → NumbersInOrder server.sessions.table server.store →
    AreOwned server.sessions.table server.store.opens → read_only_of server.sessions.table c (request_ids context request).session_id ≢ Some false → ChangesNoFile server (performed m c moment server dialect context request).server
request_reads {S} m c moment server dialect context request o own other =
    let same : ChangesNoFile server server = record { files = leaves_files_refl server.store; owned = own } in
    by_signature m c moment server dialect context request (λ done. ChangesNoFile server done.server)
    (λ refusal. same)
    (verified_by m c moment server dialect context request (λ (done : Performed S). ChangesNoFile server done.server) (λ cancel. same)
    (λ answered. performed_reads c moment dialect context request server o own other m (body_of (call_of c moment dialect context request).command request) (call_read c moment dialect context request)))
