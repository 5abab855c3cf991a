-- What is held of a server, a request keeps.
use Rattle.std.proofs.Common.{◌≡◌, ◌==◌, ◌<◌, ◌-◌, ◌^◌, ℕ, filter, Bool, true, false, not, if◌then◌else◌, List, [], ◌∷◌, ◌++◌, Option, None, Some, is_some, refl, sym, ap, arith, ◌∙◌}
use Rattle.std.proofs.lemmas.Bool.Decides.{nat_tests}
use Rattle.std.specs.Prelude.{unwrap_or, bit_and}
use Rattle.std.specs.List.{AllByRecursion}
use Rattle.std.specs.BTreeMap.{is_at}
use Rattle.std.specs.Ordering.{nat_cmp}
use Rattle.std.specs.Option.{is_none, option_map, option_map_or}
use Rattle.smb_wire.specs.Limits.{most_at_once}
use Rattle.smb_wire.specs.Dialects.{revision_of}
use Rattle.smb_wire.specs.Paths.{path_spelled}
use Rattle.smb_wire.specs.declared.dialect.Dialect.{Dialect}
use Rattle.smb_wire.specs.declared.nt_status.NtStatus.TheVariants.{Success}
use Rattle.smb_refusals.specs.declared.refusal.Refusal.{Refusal}
use Rattle.smb_refusals.specs.declared.file.CloseRefusal.{CloseRefusal}
use Rattle.smb_refusals.specs.declared.request.NegotiateRefusal.TheVariants.{NoDialect}
use Rattle.smb_refusals.specs.declared.request.RequestRefusal.{RequestRefusal}
use Rattle.smb_refusals.specs.declared.request.RequestRefusal.TheVariants.{UnknownCommand, CommandNotPerformed, BodyUnreadable}
use Rattle.smb_tree.specs.Content.{Content, changed_in}
use Rattle.smb_body.specs.Requests.{RequestValue, asks_negotiate, asks_session_setup, asks_logoff, asks_tree_connect, asks_tree_disconnect, asks_create, asks_close, asks_flush, asks_read, asks_write, asks_lock, asks_cancel, asks_echo, asks_query_directory, asks_query_info, asks_set_info}
use Rattle.smb_body.specs.SessionSetup.{SessionSetupAsked}
use Rattle.smb_body.specs.Create.{CreateAsked}
use Rattle.smb_body.specs.Write.{WriteAsked}
use Rattle.smb_body.specs.Replies.{answers_close, answers_lock}
use Rattle.smb_body.specs.declared.read.ReadRequest.{ReadRequest}
use Rattle.smb_body.specs.declared.close.CloseFlags.{CloseFlags}
use Rattle.smb_session.specs.Authenticator.{Meaning, Answered, continues, accepts, denies}
use Rattle.smb_session.specs.Negotiate.{best_of}
use Rattle.smb_session.specs.Numbers.{contains}
use Rattle.smb_session.specs.Session.{SessionState}
use Rattle.smb_session.specs.Parts.{fresh_session, finished_by, with_tree, without_tree, begun, logoff_refusal, has_all_sessions}
use Rattle.smb_session.specs.Sessions.{setup_step, tree_connect_refusal}
use Rattle.smb_session.specs.Setup.{setup_refusal, previous_ended, signing_asked, table_answered}
use Rattle.smb_session.specs.Laws.{setup_table, setup_number}
use Rattle.smb_refusals.specs.declared.session.SetupRefusal.TheVariants.{BindingAsked, NoSessionLeft}
use Rattle.smb_session.specs.Table.{TableState, knows_session, knows_tree, read_only_of, session_ended, session_changed, tree_disconnect_refusal}
use Rattle.smb_session.proofs.Entries.{all-changed, all-removed}
use Rattle.smb_access.specs.Asked.{FileAsked}
use Rattle.smb_access.specs.Effect.{entry_after}
use Rattle.smb_access.specs.Parts.{opened_by, has_number}
use Rattle.smb_access.specs.Opens.{open_of, open_numbers, is_held_by}
use Rattle.smb_access.specs.declared.open_row.OpenRow.{OpenRow}
use Rattle.smb_access.specs.declared.open_row.Owner.{Owner}
use Rattle.smb_access.specs.declared.open_row.Owner.TheVariants.{Session, Tree}
use Rattle.smb_access.specs.declared.scan.Scan.{Scan}
use Rattle.smb_access.specs.declared.view.View.{View}
use Rattle.smb_locks.specs.declared.ask.LockAsk.{LockAsk}
use Rattle.smb_locks.specs.Table.{locked, unlocked}
use Rattle.smb_info.specs.SetInformation.{SetAsked, asks_basic, asks_rename, asks_mark, asks_allocation, asks_end}
use Rattle.smb_entry.specs.Parts.{renamed_tree, delete_set, size_set, entry_set}
use Rattle.smb_opens.specs.Bytes.{read_refusal, write_refusal}
use Rattle.smb_opens.specs.Close.{closed, closed_all}
use Rattle.smb_opens.specs.Create.{access_granted, create_refusal, create_status}
use Rattle.smb_request.proofs.Refused.{none_named, create_succeeds}
use Rattle.smb_opens.specs.Effect.{created}
use Rattle.smb_opens.specs.Found.{entry_asked}
use Rattle.smb_opens.specs.Good.{GoodStore}
use Rattle.smb_opens.specs.Locks.{lock_refusal, unlock_refusal, unlocked_through}
use Rattle.smb_opens.specs.Scans.{scan_set}
use Rattle.smb_opens.specs.State.{StoreState}
use Rattle.smb_opens.specs.Views.{open_view}
use Rattle.smb_opens.proofs.Again.{opens_left as opens_written}
use Rattle.smb_opens.proofs.Closing.{opens_closed}
use Rattle.smb_request.specs.declared.context.Context.{Context}
use Rattle.smb_request.specs.Bytes.{file_read, file_written}
use Rattle.smb_request.specs.Call.{body_of, call_of}
use Rattle.smb_request.specs.Context.{named_on, open_for_next_related}
use Rattle.smb_request.specs.Files.{file_created, file_closed}
use Rattle.smb_request.specs.Parts.{file_asked, close_response, asks_unlock, is_unsupported, is_cancel_command, only_reads, check_session_tree_and_open, dialect_after, closed_for, setup_answered, lock_asks, hello_of, requires_of, performed_by, success, set_status, set_through, with_store, file_locked, file_unlocked, negotiated}
use Rattle.smb_request.specs.Held.{IsCallOf, opens_left}
use Rattle.smb_request.specs.Laws.{NumbersInOrder}
use Rattle.smb_request.specs.Negotiate.{negotiate_answer}
use Rattle.smb_request.specs.Owners.{AreOwned}
use Rattle.smb_request.specs.Request.{check_request, acted, verified, performed}
use Rattle.smb_request.specs.Response.{CommandStep, Performed, refused, through_open, unless_refused}
use Rattle.smb_request.specs.Session.{asks_to_sign, may_only_read, session_set_up, session_logged_off, tree_joined, tree_left}
use Rattle.smb_request.specs.State.{ServerState}
use Rattle.smb_request.proofs.Apart.{acts_known, id_held}
use Rattle.smb_request.proofs.Configured.{room_of, created_kept, closed_kept, all_kept, ended_kept, locks_kept, locks_opens, written_kept}
use Rattle.smb_request.proofs.Handed.{request_passed}
use Rattle.smb_request.proofs.InfoApart.{set_opens, queried_left, info_set_left}
use Rattle.smb_request.proofs.Listings.{owned_scanned, listed_left}
use Rattle.smb_request.proofs.Numbers.{others_left}
use Rattle.smb_request.proofs.Owners.{owned_ended, owned_tree, owned_untree, owned_setup, owned_some, owned_new, owned_push, reader_only}
use Rattle.smb_request.proofs.Performed.{call_read}
use Rattle.smb_request.proofs.Verified.{by_signature}

-- each session's connection is known, and the numbers are not spent
pub record IsTableHeld (table : TableState) : Type 0 where
  pub next : (0 < table.next) × (table.next < 2 ^ 64)
  pub known : AllByRecursion (λ e. contains table.connections e.1.connection ≡ true) table.sessions

-- what is held of a server, beside the order of its numbers
pub record IsServerHeld {S : Type 0} (server : ServerState S) : Type 0 where
  pub table : IsTableHeld server.sessions.table
  pub owned : AreOwned server.sessions.table server.store.opens

-- it is held afterwards, and what is configured, and which connections are known, is as it was
pub record Keeps {S : Type 0} (before after : ServerState S) : Type 0 where
  pub settings : after.settings ≡ before.settings
  pub share : after.sessions.share ≡ before.sessions.share
  pub room : room_of after.store.tree ≡ room_of before.store.tree
  pub connections : after.sessions.table.connections ≡ before.sessions.table.connections
  pub held : IsServerHeld after

abbrev KnownBy : List ℕ → List (ℕ × SessionState) → Type 0
KnownBy connections = AllByRecursion (λ e. contains connections e.1.connection ≡ true)

-- sessions that change keep their connection
table_changed : (f : SessionState → SessionState) → ((s : SessionState) → (f s).connection ≡ s.connection) → (table : TableState) (n : ℕ) → IsTableHeld table → IsTableHeld (session_changed f table n)
table_changed f same table n h = record {
  next = h.next;
  known = all-changed (λ e. contains table.connections e.1.connection ≡ true) f n table.sessions (λ e k. ap (contains table.connections) (same e.1) ∙ k) h.known;
}

table_ended : (table : TableState) (n : ℕ) → IsTableHeld table → IsTableHeld (session_ended table n)
table_ended table n h = record { next = h.next; known = all-removed (λ e. contains table.connections e.1.connection ≡ true) (is_at (nat_cmp n)) table.sessions h.known }

all_push : (connections : List ℕ) (es : List (ℕ × SessionState)) (e : ℕ × SessionState) → KnownBy connections es → contains connections e.1.connection ≡ true → KnownBy connections (es ++ e ∷ [])
all_push connections [] e h k = (k, tt)
all_push connections (x ∷ es) e h k = (h.0, all_push connections es e h.1 k)

ended_or_not : (table : TableState) (previous : Option ℕ) → IsTableHeld table → IsTableHeld (option_map_or (session_ended table) previous table)
ended_or_not table None h = h
ended_or_not table (Some n) h = table_ended table n h

table_answered_held : (table : TableState) (n previous : ℕ) (answer : Answered) → IsTableHeld table → IsTableHeld (table_answered table n previous answer)
table_answered_held table n previous (continues token) h = h
table_answered_held table n previous (accepts user flags read_only signing token) h =
    table_changed (finished_by user read_only signing) (λ s. refl) (option_map_or (session_ended table) (previous_ended table user previous) table) n (ended_or_not table (previous_ended table user previous) h)
table_answered_held table n previous denies h = table_ended table n h

-- a session begins on a connection that is known
first_none : {F : Type 0} (b : Bool) (fault : F) (others : Option F) → (if b then Some fault else others) ≡ None → (b ≡ false) × (others ≡ None)
first_none true fault others h = cc
first_none false fault others h = (refl, h)

table_begun : (table : TableState) (c : ℕ) → has_all_sessions table c ≡ false → IsTableHeld table → IsTableHeld (begun table c)
table_begun table c room h =
    let known : contains table.connections c ≡ true = grind (arith, room) in
    let below : table.next < 2 ^ 64 - 1 = grind (arith, nat_tests, room) in
    record {
      next = (omega (arith, h.next.0), omega (arith, below));
      known = all_push table.connections table.sessions (table.next, fresh_session c) h.known known;
    }

table_set_up : (table : TableState) (c n flags : ℕ) → setup_refusal table c n flags ≡ None → IsTableHeld table → IsTableHeld (setup_table table c n)
table_set_up table c n flags e h = at (n == 0) refl
  where
    at : (b : Bool) → n == 0 ≡ b → IsTableHeld (setup_table table c n)
    at true t =
        let rest = (first_none (not (bit_and flags 1 == 0)) BindingAsked _ e).1 in
        let rest' : (if has_all_sessions table c then Some NoSessionLeft else None) ≡ None = rw t at rest in
        rw t (table_begun table c (first_none (has_all_sessions table c) NoSessionLeft None rest').0 h)
    at false t = rw t h

-- the connections that are known stay so
answered_connections : (table : TableState) (n previous : ℕ) (answer : Answered) → (table_answered table n previous answer).connections ≡ table.connections
answered_connections table n previous (continues token) = refl
answered_connections table n previous (accepts user flags read_only signing token) = by_previous (previous_ended table user previous)
  where
    by_previous : (o : Option ℕ) → (session_changed (finished_by user read_only signing) (option_map_or (session_ended table) o table) n).connections ≡ table.connections
    by_previous None = refl
    by_previous (Some m) = refl
answered_connections table n previous denies = refl

set_up_connections : (table : TableState) (c n : ℕ) → (setup_table table c n).connections ≡ table.connections
set_up_connections table c n = elim (n == 0) as (λ b. (let x : TableState = if b then begun table c else table in x).connections ≡ table.connections) [ true ↦ refl | false ↦ refl ]

opens_for : (table : TableState) (store : StoreState) (ended : Option ℕ) → NumbersInOrder table store → (closed_for store ended).opens ≡ opens_left ended store.opens
opens_for table store None o = refl
opens_for table store (Some session) o = (others_left store (Session session) o.opens).opens

-- a SET_INFO leaves the capacity and the limits
with_tree_room : (tree : OpenRow → Content) (store : StoreState) (found : Option OpenRow) → ((row : OpenRow) → room_of (tree row) ≡ room_of store.tree) →
    room_of ((option_map_or (λ (row : OpenRow). let x : StoreState = record store { tree = tree row } in x) found store).tree) ≡ room_of store.tree
with_tree_room tree store None same = refl
with_tree_room tree store (Some row) same = same row

set_room : (store : StoreState) (k moment : ℕ) (ask : SetAsked) → room_of ((set_through store k moment ask).tree) ≡ room_of store.tree
set_room store k moment (asks_basic ask) = with_tree_room (λ row. changed_in (entry_set ask moment) store.tree row.entry) store (open_of store.opens k) (λ row. refl)
set_room store k moment (asks_rename replace name) = with_tree_room (λ row. renamed_tree store.tree row.entry (path_spelled name) moment) store (open_of store.opens k) (λ row. refl)
set_room store k moment (asks_mark mark) = with_tree_room (λ row. changed_in (delete_set mark) store.tree row.entry) store (open_of store.opens k) (λ row. refl)
set_room store k moment (asks_allocation size) = with_tree_room (λ row. changed_in (size_set size true moment) store.tree row.entry) store (open_of store.opens k) (λ row. refl)
set_room store k moment (asks_end size) = with_tree_room (λ row. changed_in (size_set size false moment) store.tree row.entry) store (open_of store.opens k) (λ row. refl)

module _ {S : Type 0} (call : _) (body : Option RequestValue) (read : IsCallOf call body) (server : ServerState S) (o : NumbersInOrder server.sessions.table server.store) (h : IsServerHeld server) where
  abbrev c : ℕ
  c = call.connection

  abbrev s : ℕ
  s = call.ids.session_id

  abbrev k : ℕ
  k = call.open_number

  abbrev table : TableState
  table = server.sessions.table

  abbrev Left : ServerState S → Type 0
  Left = Keeps server

  same : Left server
  same = record { settings = refl; share = refl; room = refl; connections = refl; held = h }

  -- the store alone is another
  stored : (store : StoreState) → room_of store.tree ≡ room_of server.store.tree → AreOwned table store.opens → Left (with_store server store)
  stored store room owned = record { settings = refl; share = refl; room = room; connections = refl; held = record { table = h.table; owned = owned } }

  by_row : (step : CommandStep S) (refusal : Option Refusal) → (refusal ≡ None → Left step.server) → Left (unless_refused server call.ids refusal step).server
  by_row step (Some row) f = same
  by_row step None f = f refl

  -- SESSION_SETUP
  set_up_at : (m : Meaning S) (asked : SessionSetupAsked) (refusal : Option Refusal) → option_map (λ refusal. Refusal.SessionSetup refusal) (setup_refusal table c s asked.flags.0) ≡ refusal →
      Left (unless_refused server call.ids refusal (setup_answered server call.ids (setup_step m server.sessions c s asked.previous_session_id (asks_to_sign asked) asked.security_buffer))).server
  set_up_at m asked (Some row) e = same
  set_up_at m asked None e =
      let step = setup_step m server.sessions c s asked.previous_session_id (asks_to_sign asked) asked.security_buffer in
      let unrefused : setup_refusal table c s asked.flags.0 ≡ None = none_named (λ refusal. Refusal.SessionSetup refusal) (setup_refusal table c s asked.flags.0) e in
      let answer : Answered = signing_asked (asks_to_sign asked) (m.answer server.sessions.authenticator (setup_number table s) asked.security_buffer) in
      record {
        settings = refl;
        share = refl;
        room = ended_kept server.store step.told.ended;
        connections = answered_connections (setup_table table c s) (setup_number table s) asked.previous_session_id answer ∙ set_up_connections table c s;
        held = record {
          table = table_answered_held (setup_table table c s) (setup_number table s) asked.previous_session_id answer (table_set_up table c s asked.flags.0 unrefused h.table);
          owned = rw (opens_for table server.store step.told.ended o) (owned_setup m server.sessions c s asked.previous_session_id asked.flags.0 (asks_to_sign asked) asked.security_buffer server.store.opens o.sessions_given unrefused h.owned);
        };
      }

  set_up_keeps : (m : Meaning S) (asked : SessionSetupAsked) → Left (session_set_up m server call asked).server
  unfolding session_set_up
  set_up_keeps m asked = set_up_at m asked (option_map (λ refusal. Refusal.SessionSetup refusal) (setup_refusal table c s asked.flags.0)) refl

  -- LOGOFF
  logged_off_keeps : Left (session_logged_off server call).server
  unfolding session_logged_off
  logged_off_keeps = by_row _ (option_map (λ refusal. Refusal.Logoff refusal) (logoff_refusal table c s)) (λ e. record {
    settings = refl;
    share = refl;
    room = all_kept server.store (Session s);
    connections = refl;
    held = record {
      table = table_ended table s h.table;
      owned = rw (others_left server.store (Session s) o.opens).opens (owned_ended table s server.store.opens h.owned);
    };
  })

  -- TREE_CONNECT
  joined_keeps : (path : List ℕ) → Left (tree_joined server call path).server
  unfolding tree_joined
  joined_keeps path = by_row _ (option_map (λ refusal. Refusal.TreeConnect refusal) (tree_connect_refusal server.sessions c s path)) (λ e. record {
    settings = refl;
    share = refl;
    room = refl;
    connections = refl;
    held = record { table = table_changed with_tree (λ s. refl) table s h.table; owned = owned_tree table s server.store.opens h.owned };
  })

  -- TREE_DISCONNECT
  left_keeps : Left (tree_left server call).server
  unfolding tree_left
  left_keeps = by_row _ (option_map (λ refusal. Refusal.TreeDisconnect refusal) (tree_disconnect_refusal table c s call.ids.tree_id)) (λ e. record {
    settings = refl;
    share = refl;
    room = all_kept server.store (Tree s call.ids.tree_id);
    connections = refl;
    held = record {
      table = table_changed (without_tree call.ids.tree_id) (λ s. refl) table s h.table;
      owned = rw (others_left server.store (Tree s call.ids.tree_id) o.opens).opens (owned_untree table s call.ids.tree_id server.store.opens h.owned);
    };
  })

  -- CREATE
  opened_keeps : (ask : FileAsked) → ask.session ≡ s → ask.tree ≡ call.ids.tree_id → ask.read_only ≡ may_only_read server call → knows_session table c s ≡ true → knows_tree table s call.ids.tree_id ≡ true → create_status server.store ask ≡ Success →
      Left (with_store server (created server.store ask call.moment))
  opened_keeps ask of_session of_tree reader known tree done =
      let opened : OpenRow = opened_by ask server.store.next (entry_after server.store.tree ask call.moment (entry_asked server.store ask)).number (access_granted server.store ask) in
      let known' : knows_session table c opened.session ≡ true = ap (knows_session table c) of_session ∙ known in
      let tree' : knows_tree table opened.session opened.tree ≡ true = rw (of_session, of_tree) tree in
      let only : unwrap_or (read_only_of table c opened.session) false ≡ true → only_reads opened ≡ true =
      λ r. reader_only server.store ask call.moment (reader ∙ sym (ap (λ (n : ℕ). unwrap_or (read_only_of table c n) false) of_session) ∙ r) done in
      stored (created server.store ask call.moment) (created_kept server.store ask call.moment)
      (owned_push table server.store.opens opened h.owned (owned_new table c opened known' tree' only))

  created_keeps : (asked : CreateAsked) → knows_session table c s ≡ true → knows_tree table s call.ids.tree_id ≡ true → Left (file_created server call asked).server
  unfolding file_created
  created_keeps asked known tree =
      let ask = file_asked call.ids asked (may_only_read server call) in
      by_row _ (option_map (λ refusal. Refusal.Create refusal) (create_refusal server.store ask))
      (λ e. opened_keeps ask refl refl refl known tree (create_succeeds server.store ask (none_named (λ refusal. Refusal.Create refusal) (create_refusal server.store ask) e)))

  -- CLOSE
  closed_keeps : (row : Option OpenRow) → open_of server.store.opens k ≡ row → option_map_or (is_held_by (Tree s call.ids.tree_id)) row false ≡ true → Left (with_store server (closed server.store k))
  closed_keeps None e held = cc
  closed_keeps (Some row) e held =
      stored (closed server.store k) (closed_kept server.store k)
      (rw (opens_closed server.store k (ap (λ (o : Option OpenRow). is_some o) e)) (owned_some table (λ row. not (has_number k row)) server.store.opens h.owned))

  closed_at : (flags : CloseFlags) (view : Option View) → Left (with_store server (closed server.store k)) →
      Left (option_map_or (λ view. let x : CommandStep S = record { server = with_store server (closed server.store k); response = success call.ids (answers_close (close_response flags view)) } in x) view (refused server call.ids (Refusal.Close CloseRefusal.UnknownOpen))).server
  closed_at flags None f = same
  closed_at flags (Some view) f = f

  close_keeps : (flags : CloseFlags) → Left (with_store server (closed server.store k)) → Left (file_closed server call flags).server
  unfolding file_closed
  close_keeps flags f = closed_at flags (open_view server.store k) f

  -- QUERY_DIRECTORY
  scanned_keeps : (scan : Scan) → Left (with_store server (scan_set server.store k scan))
  scanned_keeps scan = stored (scan_set server.store k scan) refl (owned_scanned table k scan server.store.opens h.owned)

  -- LOCK
  locked_keeps : (asks : List LockAsk) → Left (file_locked server call asks).server
  locked_keeps asks = by_row _ (through_open server.store k (option_map (λ refusal. Refusal.Lock refusal) (lock_refusal server.store k asks))) (λ done.
      stored _ (locks_kept (λ entry. locked server.store.locks entry k asks) server.store (open_view server.store k))
      (rw (locks_opens (λ entry. locked server.store.locks entry k asks) server.store (open_view server.store k)) h.owned))

  unlocked_at : (after : ServerState S) (refusal : Option Refusal) → Left after → Left (unless_refused after call.ids refusal (record { server = after; response = success call.ids answers_lock })).server
  unlocked_at after None f = f
  unlocked_at after (Some row) f = f

  unlocked_keeps : (asks : List LockAsk) → Left (file_unlocked server call asks).server
  unlocked_keeps asks =
      unlocked_at (with_store server (unlocked_through server.store k asks)) (through_open server.store k (option_map (λ refusal. Refusal.Lock refusal) (unlock_refusal server.store k asks)))
      (stored _ (locks_kept (λ entry. unlocked server.store.locks entry k asks) server.store (open_view server.store k))
      (rw (locks_opens (λ entry. unlocked server.store.locks entry k asks) server.store (open_view server.store k)) h.owned))

  locks_keep : (asks : List LockAsk) (b : Bool) → Left (let x : CommandStep S = if b then file_unlocked server call asks else file_locked server call asks in x).server
  locks_keep asks true = unlocked_keeps asks
  locks_keep asks false = locked_keeps asks

  -- READ and WRITE
  read_keeps : (asked : ReadRequest) → Left (file_read server call asked).server
  unfolding file_read
  read_keeps asked = by_row _ (through_open server.store k (option_map (λ refusal. Refusal.Read refusal) (read_refusal server.store (most_at_once call.dialect) k asked.offset asked.length asked.minimum_count))) (λ done. same)

  written_keeps : (asked : WriteAsked) → Left (file_written server call asked).server
  unfolding file_written
  written_keeps asked =
      by_row _ (through_open server.store k (option_map (λ refusal. Refusal.Write refusal) (write_refusal server.store (most_at_once call.dialect) k asked.offset asked.buffer))) (λ done.
      stored _ (written_kept server.store k asked.offset asked.buffer call.moment)
      (rw (opens_written server.store k asked.offset asked.buffer call.moment) h.owned))

  -- SET_INFO
  set_keeps : (ask : SetAsked) → set_status server.store k ask ≡ Success → Left (with_store server (set_through server.store k call.moment ask))
  set_keeps ask done = stored _ (set_room server.store k call.moment ask) (rw (set_opens server.store k call.moment ask) h.owned)

  -- NEGOTIATE
  negotiated_at : (m : Meaning S) (best : Option Dialect) →
      Left (option_map_or (λ best. let x : CommandStep S = record { server = server; response = success call.ids (negotiate_answer (requires_of m server) server.settings.guid (hello_of m server) call.moment (Some best) (revision_of best)) } in x) best (refused server call.ids (Refusal.Negotiate NoDialect))).server
  negotiated_at m None = same
  negotiated_at m (Some best) = same

  negotiated_keeps : (m : Meaning S) (dialects : List ℕ) → Left (negotiated m server call dialects).server
  negotiated_keeps m dialects = negotiated_at m (best_of dialects)

  -- each command
  tree_known : (asked : CreateAsked) → check_session_tree_and_open server call (asks_create asked) ≡ None → knows_tree table s call.ids.tree_id ≡ true
  tree_known asked e = grind (arith, e)

  acted_keeps : (m : Meaning S) (asked : RequestValue) → IsCallOf call (Some asked) → check_session_tree_and_open server call asked ≡ None → Left (acted m server call asked).server
  acted_keeps m (asks_negotiate x) read e = negotiated_keeps m x.dialects
  acted_keeps m (asks_session_setup x) read e = set_up_keeps m x
  acted_keeps m (asks_logoff x) read e = logged_off_keeps
  acted_keeps m (asks_tree_connect x) read e = joined_keeps x.path
  acted_keeps m (asks_tree_disconnect x) read e = left_keeps
  acted_keeps m (asks_create x) read e = created_keeps x (acts_known (λ n session. ⊥) (λ x. true) call refl server o (asks_create x) refl e) (tree_known x e)
  acted_keeps m (asks_close x) read e = close_keeps x.flags (closed_keeps (open_of server.store.opens k) refl (id_held (λ n session. ⊥) (λ x. true) call refl server o (asks_close x) read refl e))
  acted_keeps m (asks_flush x) read e = same
  acted_keeps m (asks_read x) read e = read_keeps x
  acted_keeps m (asks_write x) read e = written_keeps x
  acted_keeps m (asks_lock x) read e = locks_keep (lock_asks x.locks) (asks_unlock (lock_asks x.locks))
  acted_keeps m (asks_cancel x) read e = same
  acted_keeps m (asks_echo x) read e = same
  acted_keeps m (asks_query_directory x) read e = listed_left Left server same call scanned_keeps x
  acted_keeps m (asks_query_info x) read e = queried_left Left server same call x
  acted_keeps m (asks_set_info x) read e = info_set_left Left server same call set_keeps x

  checked_keeps : (m : Meaning S) (asked : RequestValue) (refusal : Option RequestRefusal) → IsCallOf call (Some asked) → check_request server call asked ≡ refusal →
      Left (unless_refused server call.ids (option_map (λ refusal. Refusal.Request refusal) refusal) (acted m server call asked)).server
  checked_keeps m asked (Some row) read e = same
  checked_keeps m asked None read e = acted_keeps m asked read (request_passed server call asked e)

  body_keeps : (m : Meaning S) (unsupported unknown : Bool) (body : Option RequestValue) → IsCallOf call body →
      Left (let x : CommandStep S = if unsupported then refused server call.ids (Refusal.Request CommandNotPerformed) else
      option_map_or (λ asked. unless_refused server call.ids (option_map (λ refusal. Refusal.Request refusal) (check_request server call asked)) (acted m server call asked)) body
      (refused server call.ids (Refusal.Request (if unknown then UnknownCommand else BodyUnreadable))) in x).server
  body_keeps m true unknown body read = same
  body_keeps m false unknown None read = same
  body_keeps m false unknown (Some asked) read = checked_keeps m asked (check_request server call asked) read refl

  performed_keeps : (m : Meaning S) → Left (performed_by m server call body).server
  performed_keeps m = body_keeps m (option_map_or is_unsupported call.command false) (is_none call.command) body read

module _ {S : Type 0} (m : Meaning S) (c moment : ℕ) (server : ServerState S) (dialect : Option Dialect) (context : Context) (request : List ℕ) (o : NumbersInOrder server.sessions.table server.store) (h : IsServerHeld server) where
  same_kept : Keeps server server
  same_kept = record { settings = refl; share = refl; room = refl; connections = refl; held = h }

  verified_keeps : Keeps server (verified m c moment server dialect context request).server
  unfolding verified
  verified_keeps =
      let call = call_of c moment dialect context request in
      let left = performed_keeps call (body_of call.command request) (call_read c moment dialect context request) server o h m in
      elim (is_cancel_command call.command) as (λ b. Keeps server (let x : Performed S = if b then record {
        server = server;
        dialect = dialect;
        context = record { ids = call.ids; last_open = named_on call.inherited call.file_id };
        response = None;
      } else record {
        server = (performed_by m server call (body_of call.command request)).server;
        dialect = option_map_or (dialect_after dialect) (body_of call.command request) dialect;
        context = record {
          ids = (performed_by m server call (body_of call.command request)).response.ids;
          last_open = open_for_next_related call.inherited server.store.next call.command call.file_id (performed_by m server call (body_of call.command request)).response.status;
        };
        response = Some (performed_by m server call (body_of call.command request)).response;
      } in x).server) [ true ↦ same_kept | false ↦ left ]

  pub request_keeps : Keeps server (performed m c moment server dialect context request).server
  request_keeps = by_signature m c moment server dialect context request (λ done. Keeps server done.server) (λ refusal. same_kept) verified_keeps
