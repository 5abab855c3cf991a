-- SESSION_SETUP, LOGOFF, TREE_CONNECT and TREE_DISCONNECT ([MS-SMB2] 3.3.5.5 to 3.3.5.8).
use Rattle.std.specs.Prelude.{ℕ, ◌+◌, ◌==◌, ◌||◌, bit_and, Bool, false, true, not, nat_le, List, [], ◌∷◌, ◌++◌, length, filter, Some, None, unwrap_or, if◌then◌else◌}
use Rattle.std.specs.Option.{option_map, option_map_or}
use Rattle.smb_wire.specs.Counters.{is_spent}
use Rattle.smb_wire.specs.Limits.{most_tree_connects}
use Rattle.smb_wire.specs.Names.{is_same_name}
use Rattle.smb_body.specs.Replies.{ReplyValue, answers_session_setup, answers_logoff, answers_tree_connect, answers_tree_disconnect}
use Rattle.smb_body.specs.SessionSetup.{SessionSetupAsked}
use Rattle.smb_session.specs.Authenticator.{Meaning}
use Rattle.smb_session.specs.Path.{path_parts, share_in}
use Rattle.smb_session.specs.Session.{SessionState}
use Rattle.smb_session.specs.Setup.{setup_refusal, setup_result, signing_asked, table_answered}
use Rattle.smb_session.specs.Table.{knows_session, knows_tree, session_at, session_ended, session_changed}
use Rattle.smb_session.specs.declared.setup.SetupStatus.TheVariants.{MoreProcessingRequired, LogonFailure, Success as SetUp}
use Rattle.smb_access.specs.Access.{most_allowed}
use Rattle.smb_access.specs.declared.open_row.Owner.TheVariants.{Session, Tree}
use Rattle.smb_opens.specs.Close.{closed_all}
use Rattle.smb_wire.specs.declared.nt_status.NtStatus.{NtStatus}
use Rattle.smb_wire.specs.declared.nt_status.NtStatus.TheVariants.{Success}
use Rattle.smb_request.specs.declared.call.Call.{Call}
use Rattle.smb_request.specs.declared.context.HeaderIds.{HeaderIds}
use Rattle.smb_request.specs.State.{ServerState}
use Rattle.smb_request.specs.Response.{CommandStep, with_body, failure, unless_refused}
use Rattle.smb_refusals.specs.declared.refusal.Refusal.{Refusal}
use Rattle.smb_refusals.specs.declared.session.TreeConnectRefusal.{TreeConnectRefusal}
use Rattle.smb_refusals.specs.declared.session.LogoffRefusal.{LogoffRefusal}
use Rattle.smb_refusals.specs.declared.session.TreeDisconnectRefusal.{TreeDisconnectRefusal}
use Rattle.smb_refusals.specs.declared.session.SetupRefusal.TheVariants.{Denied}
use Rattle.smb_refusals.specs.declared.session.TreeConnectRefusal.TheVariants.{UnknownShare, NoTreeConnectLeft}

-- the client asks that each request of the session is signed: SecurityMode has SIGNING_REQUIRED (2.2.5)
abbrev pub asks_to_sign : SessionSetupAsked → Bool
asks_to_sign asked = bit_and asked.security_mode.0 2 == 2

-- SESSION_SETUP (3.3.5.5): where no row of `setup_refusal` holds, the authenticator is asked once about the session,
-- and its answer is performed; where the client asks for it each request of the session is to be signed (3.3.5.5.3). The previous session, where one ended, ends with its opens
unfoldable pub session_set_up : {S : Type 0} → Meaning S → ServerState S → Call → SessionSetupAsked → CommandStep S
session_set_up authenticator server call asked =
    let ids = call.ids in
    let sessions = server.sessions in
    -- SessionId 0 asks for a new session, which begins with no user yet and no tree; its first tree will be 1
    -- (3.3.5.5.1)
    let fresh : SessionState = record {
      connection = call.connection;
      user = None;
      read_only = false;
      signing = None;
      trees = [];
      next_tree = 1;
    } in
    let number = if ids.session_id == 0 then sessions.table.next else ids.session_id in
    let table = if ids.session_id == 0
    then record sessions.table {
      sessions = sessions.table.sessions ++ (sessions.table.next, fresh) ∷ [];
      next = sessions.table.next + 1;
    }
    else sessions.table in
    let answer =
    signing_asked (asks_to_sign asked) (authenticator.answer sessions.authenticator number asked.security_buffer) in
    let setup = setup_result table number asked.previous_session_id answer in
    let answered_ids : HeaderIds = record ids { session_id = setup.session } in
    -- flags and a token, where the client goes on or is in (2.2.6)
    let reply : ReplyValue = answers_session_setup (record {
      session_flags = record { 0 = setup.flags };
      security_buffer = setup.token;
    }) in
    unless_refused server ids
    (option_map (λ refusal. Refusal.SessionSetup refusal) (setup_refusal sessions.table call.connection ids.session_id asked.flags.0))
    (record {
      server = record server {
        sessions = record sessions {
          authenticator = authenticator.next sessions.authenticator number asked.security_buffer;
          table = table_answered table number asked.previous_session_id answer;
        };
        store = option_map_or (λ session. closed_all server.store (Session session)) setup.ended server.store;
      };
      -- each tells the session's number
      response = elim setup.status [
        | SetUp ↦ with_body answered_ids Success reply
        | MoreProcessingRequired ↦ with_body answered_ids NtStatus.MoreProcessingRequired reply
        | LogonFailure ↦ failure answered_ids (Refusal.SessionSetup Denied)
      ];
    })

-- LOGOFF (3.3.5.6): the session ends with its trees, and their opens
unfoldable pub session_logged_off : {S : Type 0} → ServerState S → Call → CommandStep S
session_logged_off server call =
    let table = server.sessions.table in
    unless_refused server call.ids
    (option_map (λ refusal. Refusal.Logoff refusal) (
    -- LO1. the session is no finished one of the connection
    if knows_session table call.connection call.ids.session_id then None else Some LogoffRefusal.UnknownSession))
    (record {
      server = record server {
        sessions = record server.sessions { table = session_ended table call.ids.session_id };
        store = closed_all server.store (Session call.ids.session_id);
      };
      response = with_body call.ids Success answers_logoff;
    })

-- the session that a request acts under is a finished one of its connection, and may only read, as the authenticator's
-- answer said
abbrev pub may_only_read : {S : Type 0} → ServerState S → Call → Bool
may_only_read server call =
    let table = server.sessions.table in
    unwrap_or
    (if knows_session table call.connection call.ids.session_id
    then option_map (λ state. state.read_only) (session_at table call.ids.session_id)
    else None)
    false

-- TREE_CONNECT (3.3.5.7): the answer tells the new tree's number, which is the session's next, and what it is: a disk,
-- without flags and capabilities, and with all access that a session can be granted (2.2.10)
unfoldable pub tree_joined : {S : Type 0} → ServerState S → Call → List ℕ → CommandStep S
tree_joined server call path =
    let table = server.sessions.table in
    let session = session_at table call.ids.session_id in
    unless_refused server call.ids
    (option_map (λ refusal. Refusal.TreeConnect refusal) (
    -- TC1. the session is no finished one of the connection
    if not (knows_session table call.connection call.ids.session_id) then Some TreeConnectRefusal.UnknownSession else
    -- TC2. the path names another share
    if not (option_map_or (λ named. is_same_name named server.sessions.share) (share_in (path_parts path)) false)
    then Some UnknownShare else
    -- TC3. the session has 16 trees, or their numbers are spent
    if option_map_or
    (λ (state : SessionState). nat_le most_tree_connects (length state.trees) || is_spent 32 state.next_tree)
    session
    true
    then Some NoTreeConnectLeft else None))
    (record {
      server = record server {
        sessions = record server.sessions {
          table = session_changed
              (λ state. record state { trees = state.trees ++ state.next_tree ∷ []; next_tree = state.next_tree + 1 })
              table
              call.ids.session_id;
        };
      };
      response = with_body
          (record call.ids { tree_id = option_map_or (λ state. state.next_tree) session 0 })
          Success
          (answers_tree_connect (record {
            share_type = record { 0 = 1 };
            share_flags = record { 0 = 0 };
            capabilities = record { 0 = 0 };
            maximal_access = record { 0 = most_allowed (may_only_read server call) false };
          }));
    })

-- TREE_DISCONNECT (3.3.5.8): the tree is gone, with its opens
unfoldable pub tree_left : {S : Type 0} → ServerState S → Call → CommandStep S
tree_left server call =
    let table = server.sessions.table in
    unless_refused server call.ids
    (option_map (λ refusal. Refusal.TreeDisconnect refusal) (
    -- TD1. the session is no finished one of the connection
    if not (knows_session table call.connection call.ids.session_id) then Some TreeDisconnectRefusal.UnknownSession else
    -- TD2. the session has no such tree
    if knows_tree table call.ids.session_id call.ids.tree_id then None else Some TreeDisconnectRefusal.UnknownTreeConnect))
    (record {
      server = record server {
        sessions = record server.sessions {
          table = session_changed
              (λ state. record state { trees = filter (λ tree. not (tree == call.ids.tree_id)) state.trees })
              table
              call.ids.session_id;
        };
        store = closed_all server.store (Tree call.ids.session_id call.ids.tree_id);
      };
      response = with_body call.ids Success answers_tree_disconnect;
    })
