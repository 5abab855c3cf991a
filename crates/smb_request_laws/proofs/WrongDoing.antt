-- Wrong definitions of what a request does, each with a law of specs/Doing that refuses it.
-- A law whose name ends in By says of any definition what that of specs/ says of the right one, as the line below it
-- shows; then come the wrong definition, and the proof that the law is false of it. `right_rules` shows that by the
-- right rules a request leaves what it does leave.
use Rattle.std.proofs.Common.{◌≡◌, ◌≢◌, ◌⊎◌, ◌∙◌, ◌+◌, ◌-◌, ◌^◌, ◌++◌, ℕ, Bool, true, false, List, [], ◌∷◌, length, drop, None, Some, IfSome, refl, sym, ap, arith}
use Rattle.smb_wire.specs.Names.{is_same_name}
use Rattle.smb_wire.specs.Commands.{known_command}
use Rattle.smb_wire.specs.Number.{spelling}
use Rattle.smb_wire.specs.declared.nt_status.NtStatus.TheVariants.{Success}
use Rattle.smb_wire.specs.declared.file_id.FileId.{FileId}
use Rattle.smb_wire.specs.Fields.{joined}
use Rattle.smb_head.specs.Chains.{is_related}
use Rattle.smb_head.specs.Headers.{fields, header_of}
use Rattle.smb_body.specs.Read.{read_fields}
use Rattle.std.specs.Option.{option_map_or}
use Rattle.smb_body.specs.Create.{CreateAsked}
use Rattle.smb_body.specs.Replies.{reply_spelling, answers_read, answers_write, answers_tree_connect}
use Rattle.smb_body.specs.Requests.{RequestValue, file_id_of, request_of, asks_logoff, asks_tree_connect, asks_tree_disconnect, asks_create, asks_close, asks_flush, asks_read, asks_write, asks_lock, asks_echo, asks_query_directory, asks_query_info, asks_set_info}
use Rattle.smb_body.specs.Lock.{LockAsked}
use Rattle.smb_body.specs.QueryDirectory.{QueryDirectoryAsked}
use Rattle.smb_body.specs.SetInfo.{SetInfoAsked}
use Rattle.smb_body.specs.TreeConnect.{TreeConnectAsked}
use Rattle.smb_body.specs.Write.{WriteAsked}
use Rattle.smb_body.specs.declared.close.CloseRequest.{CloseRequest}
use Rattle.smb_body.specs.declared.flush.FlushRequest.{FlushRequest}
use Rattle.smb_body.specs.declared.query_info.QueryInfoRequest.{QueryInfoRequest}
use Rattle.smb_body.specs.declared.read.ReadRequest.{ReadRequest}
use Rattle.smb_body.specs.declared.reserved.ReservedRequest.{ReservedRequest}
use Rattle.smb_session.specs.Authenticator.{Meaning}
use Rattle.smb_session.specs.Path.{path_parts, share_in}
use Rattle.smb_session.specs.Table.{knows_tree, read_only_of}
use Rattle.smb_tree.specs.Content.{bytes_of}
use Rattle.smb_access.specs.declared.open_row.Owner.TheVariants.{Tree}
use Rattle.smb_access.specs.Access.{most_allowed}
use Rattle.smb_opens.specs.Bytes.{file_bytes, written_to}
use Rattle.smb_opens.specs.Close.{closed, closed_all}
use Rattle.smb_opens.specs.Effect.{created}
use Rattle.smb_opens.specs.Locks.{locked_through, unlocked_through}
use Rattle.smb_opens.specs.Scans.{scan_set}
use Rattle.smb_opens.specs.State.{StoreState}
use Rattle.smb_opens.specs.Steps.{stepped}
use Rattle.smb_access.specs.declared.scan.Scan.{Scan}
use Rattle.smb_info.specs.SetInformation.{SetAsked, asks_end, set_of}
use Rattle.smb_request.specs.Bytes.{file_read, file_written}
use Rattle.smb_request.specs.declared.context.ContextOpen.TheVariants.{Named}
use Rattle.smb_request.specs.Call.{body_of, call_of}
use Rattle.smb_request.specs.Context.{first_context}
use Rattle.smb_request.specs.Files.{file_created, file_closed}
use Rattle.smb_request.specs.Laws.{IsInOrder, IsOver, request_ids}
use Rattle.smb_request.specs.Response.{Performed, ResponseState, with_body}
use Rattle.smb_request.specs.SetInfo.{information_set}
use Rattle.smb_request.specs.Session.{session_logged_off, tree_joined, tree_left}
use Rattle.smb_request.specs.State.{ServerState}
use Rattle.smb_request_laws.specs.Acting.{command_in, IsNotRefusedBySuccess}
use Rattle.smb_request_laws.specs.Doing.{Sent, Succeeds, answered, open_asked, response_body, create_ask, may_change_though_refused, ARequestNamesItsOpen, AReadTellsTheFile, AWriteIsInTheFile, ACreateOpens, ACloseCloses, ATreeConnectJoins, ATreeDisconnectLeaves, ALogoffEndsItsSession, ARefusalChangesNothing, ALockLocks, ASetInfoSets, AQuestionChangesNothing, elements_asked, is_unlock, set_step}
use Rattle.smb_request_laws.proofs.Altered.{Rules, right, performed_by_rules}
use Rattle.smb_request_laws.proofs.Example.{server, session, header, read_asked, read_request, read_request_at, write_asked, write_request, create_asked, create_request, close_asked, close_request, connect_asked, connect_request, disconnect_request, nothing_asked, logoff_request, flush_asked, flush_request, locking_asked, lock_request, end_asked, end_request, byte_is}

pub fair : IsNotRefusedBySuccess first_context
fair e = cc

module _ {S : Type 0} (m : Meaning S) (accounts : S) where
  -- what a request leaves by these rules
  abbrev pub answered_by : Rules S → Sent S → Performed S
  answered_by rules it = performed_by_rules m rules it.connection it.moment it.server it.dialect it.context it.request

  -- a request on connection 1, to a share where session 1 has tree connect 1
  abbrev pub sent : List ℕ → Sent S
  sent request = record {
    connection = 1;
    moment = 0;
    server = server accounts ((1, session 1 (1 ∷ [])) ∷ []);
    dialect = None;
    context = first_context;
    request = request;
  }

  -- a request that is related to none before it names the open of its FileId
  abbrev ARequestNamesItsOpenBy : (Sent S → ℕ) → Type 0
  ARequestNamesItsOpenBy named =
      (it : Sent S) (asked : RequestValue) (file_id : FileId) →
      body_of (command_in it.request) it.request ≡ Some asked → file_id_of asked ≡ Some file_id →
      (is_related it.request ≡ false → named it ≡ file_id.persistent)
      × ((last : FileId) → file_id.persistent ≡ 2 ^ 64 - 1 → file_id.volatile ≡ 2 ^ 64 - 1 →
      is_related it.request ≡ true → it.context.last_open ≡ Named last → named it ≡ last.persistent)

  a_request_names_its_open : ARequestNamesItsOpen S ≡ ARequestNamesItsOpenBy open_asked
  a_request_names_its_open = refl

  -- wrong: a request names no open
  none_named_is_refused : ARequestNamesItsOpenBy (λ it. 0) → ⊥
  unfolding header_of known_command request_of spelling
  none_named_is_refused law =
      let same : 0 ≡ 1 =
      (law (sent (read_request 1 1)) (asks_read (read_asked 0)) (read_asked 0).file_id refl refl).0 refl in
      omega (arith, same)

  -- wrong: a FileId names the open of its number, also one of all ones
  abbrev named_as_it_says : Sent S → ℕ
  named_as_it_says it =
      option_map_or (λ (id : FileId). id.persistent)
      (call_of it.connection it.moment it.dialect it.context it.request).file_id 0

  -- a related READ whose FileId is of all ones, behind a request that named open 7
  abbrev related_asked : ReadRequest
  related_asked = record (read_asked 0) { file_id = record { persistent = 2 ^ 64 - 1; volatile = 2 ^ 64 - 1 } }

  abbrev seven : FileId
  seven = record { persistent = 7; volatile = 7 }

  abbrev related : Sent S
  related = record (sent (joined (fields (record (header 8 1 1) {
    flags = record {
      0 =
          4;
    };
  })) ++ joined (read_fields related_asked))) {
    context = record { ids = record { session_id = 1; tree_id = 1 }; last_open = Named seven };
  }

  named_as_it_says_is_refused : ARequestNamesItsOpenBy named_as_it_says → ⊥
  unfolding header_of known_command request_of spelling
  named_as_it_says_is_refused law =
      let same : 2 ^ 64 - 1 ≡ 7 =
      (law related (asks_read related_asked) related_asked.file_id refl refl).1 seven refl refl refl refl in
      omega (arith, same)

  -- a READ that succeeds tells the bytes of the file
  abbrev AReadTellsTheFileBy : (Sent S → Performed S) → Type 0
  AReadTellsTheFileBy perform =
      (it : Sent S) (asked : ReadRequest) → Succeeds it (perform it) (asks_read asked) →
      (response_body (perform it)
      ≡ reply_spelling (answers_read (file_bytes it.server.store (open_asked it) asked.offset asked.length)))
      × ((perform it).server ≡ it.server)

  a_read_tells_the_file : AReadTellsTheFile m ≡ AReadTellsTheFileBy (answered m)
  a_read_tells_the_file = refl

  -- wrong: a READ tells zeros
  abbrev zeros_read : Rules S
  zeros_read = record right {
    done = λ server ids asked step. elim asked [
      | asks_read it ↦ record step {
        response = record step.response { body = reply_spelling (answers_read (0 ∷ [])) };
      }
      | _ ↦ step
    ];
  }

  zeros_are_refused : AReadTellsTheFileBy (answered_by zeros_read) → ⊥
  unfolding header_of known_command request_of spelling file_read
  zeros_are_refused law =
      let tells = (law (sent (read_request 1 1)) (read_asked 0) (record {
        says = refl;
        context = fair;
        status =
            refl;
      })).0 in
      let same = byte_is 0 7 (ap (drop 16) tells) in
      omega (arith, same)

  -- a WRITE that succeeds leaves its bytes in the file
  abbrev AWriteIsInTheFileBy : (Sent S → Performed S) → Type 0
  AWriteIsInTheFileBy perform =
      (it : Sent S) (asked : WriteAsked) → Succeeds it (perform it) (asks_write asked) →
      ((perform it).server.store ≡ written_to it.server.store (open_asked it) asked.offset asked.buffer it.moment)
      × (response_body (perform it) ≡ reply_spelling (answers_write (record { count = length asked.buffer })))

  a_write_is_in_the_file : AWriteIsInTheFile m ≡ AWriteIsInTheFileBy (answered m)
  a_write_is_in_the_file = refl

  -- wrong: a WRITE is answered, and changes nothing
  abbrev nothing_written : Rules S
  nothing_written = record right {
    done = λ server ids asked step. elim asked [ asks_write it ↦ record step { server = server } | _ ↦ step ];
  }

  nothing_written_is_refused : AWriteIsInTheFileBy (answered_by nothing_written) → ⊥
  unfolding header_of known_command request_of spelling file_written
  nothing_written_is_refused law =
      let left = (law (sent (write_request 1 1)) write_asked (record {
        says = refl;
        context = fair;
        status =
            refl;
      })).0 in
      let same = byte_is 7 9 (ap (λ (s : StoreState). bytes_of s.tree.rows 2) left) in
      omega (arith, same)

  -- a CREATE that succeeds opens what it asks for
  abbrev ACreateOpensBy : (Sent S → Performed S) → Type 0
  ACreateOpensBy perform =
      (it : Sent S) (asked : CreateAsked) (read_only : Bool) → Succeeds it (perform it) (asks_create asked) →
      read_only_of it.server.sessions.table it.connection (request_ids it.context it.request).session_id
      ≡ Some read_only →
      (perform it).server.store ≡ created it.server.store (create_ask it asked read_only) it.moment

  a_create_opens : ACreateOpens m ≡ ACreateOpensBy (answered m)
  a_create_opens = refl

  -- wrong: a CREATE is answered, and opens nothing
  abbrev nothing_opened : Rules S
  nothing_opened = record right {
    done = λ server ids asked step. elim asked [ asks_create it ↦ record step { server = server } | _ ↦ step ];
  }

  nothing_opened_is_refused : ACreateOpensBy (answered_by nothing_opened) → ⊥
  unfolding header_of known_command request_of spelling file_created
  nothing_opened_is_refused law =
      let left = law (sent (create_request 1 1)) create_asked false (record {
        says = refl;
        context = fair;
        status =
            refl;
      }) refl in
      let same : 2 ≡ 3 = ap (λ (s : StoreState). s.next) left in
      omega (arith, same)

  -- a CLOSE that succeeds closes its open
  abbrev ACloseClosesBy : (Sent S → Performed S) → Type 0
  ACloseClosesBy perform =
      (it : Sent S) (asked : CloseRequest) → Succeeds it (perform it) (asks_close asked) →
      (perform it).server.store ≡ closed it.server.store (open_asked it)

  a_close_closes : ACloseCloses m ≡ ACloseClosesBy (answered m)
  a_close_closes = refl

  -- wrong: a CLOSE is answered, and its open stays
  abbrev nothing_closed : Rules S
  nothing_closed = record right {
    done = λ server ids asked step. elim asked [ asks_close it ↦ record step { server = server } | _ ↦ step ];
  }

  nothing_closed_is_refused : ACloseClosesBy (answered_by nothing_closed) → ⊥
  unfolding header_of known_command request_of spelling file_closed
  nothing_closed_is_refused law =
      let left = law (sent (close_request 1 1)) close_asked (record { says = refl; context = fair; status = refl }) in
      let same : 1 ≡ 0 = ap (λ (s : StoreState). length s.opens) left in
      omega (arith, same)

  -- a LOCK that succeeds has locked its ranges, or unlocked them
  abbrev ALockLocksBy : (Sent S → Performed S) → Type 0
  ALockLocksBy perform =
      (it : Sent S) (asked : LockAsked) → Succeeds it (perform it) (asks_lock asked) →
      let ranges = elements_asked asked in
      let left = (perform it).server.store in
      (is_unlock ranges ≡ false → left ≡ locked_through it.server.store (open_asked it) ranges)
      × (is_unlock ranges ≡ true → left ≡ unlocked_through it.server.store (open_asked it) ranges)

  a_lock_locks : ALockLocks m ≡ ALockLocksBy (answered m)
  a_lock_locks = refl

  -- wrong: a LOCK is answered, and locks nothing
  abbrev nothing_locked : Rules S
  nothing_locked = record right {
    done = λ server ids asked step. elim asked [ asks_lock it ↦ record step { server = server } | _ ↦ step ];
  }

  nothing_locked_is_refused : ALockLocksBy (answered_by nothing_locked) → ⊥
  unfolding header_of known_command request_of spelling
  nothing_locked_is_refused law =
      let left = (law (sent (lock_request 1 1)) locking_asked (record { says = refl; context = fair; status = refl })).0 refl in
      let same : 0 ≡ 1 = ap (λ (s : StoreState). length s.locks) left in
      omega (arith, same)

  -- a SET_INFO that succeeds has set what it asks for
  abbrev ASetInfoSetsBy : (Sent S → Performed S) → Type 0
  ASetInfoSetsBy perform =
      (it : Sent S) (asked : SetInfoAsked) → Succeeds it (perform it) (asks_set_info asked) →
      (ask : SetAsked) × (set_of asked.file_info_class.0 asked.buffer ≡ Some ask)
      × ((perform it).server.store ≡ stepped it.server.store (set_step (open_asked it) it.moment ask))

  a_set_info_sets : ASetInfoSets m ≡ ASetInfoSetsBy (answered m)
  a_set_info_sets = refl

  -- wrong: a SET_INFO is answered, and sets nothing
  abbrev nothing_set : Rules S
  nothing_set = record right {
    done = λ server ids asked step. elim asked [ asks_set_info it ↦ record step { server = server } | _ ↦ step ];
  }

  same_asked : (one other : SetAsked) → Some one ≡ Some other → one ≡ other
  same_asked one other e = cc

  -- how many bytes the file of the example has once this is set
  abbrev bytes_set : SetAsked → ℕ
  bytes_set ask = length (bytes_of (stepped (sent []).server.store (set_step 1 0 ask)).tree.rows 2)

  nothing_set_is_refused : ASetInfoSetsBy (answered_by nothing_set) → ⊥
  unfolding header_of known_command request_of spelling information_set
  nothing_set_is_refused law =
      let left = law (sent (end_request 1 1)) end_asked (record { says = refl; context = fair; status = refl }) in
      let asked : asks_end 0 ≡ left.0 = same_asked _ _ left.1 in
      let same : 1 ≡ bytes_set left.0 = ap (λ (s : StoreState). length (bytes_of s.tree.rows 2)) left.2 in
      let none : 1 ≡ 0 = same ∙ sym (ap bytes_set asked) in
      omega (arith, none)

  -- a FLUSH, an ECHO and a QUERY_INFO change nothing, and a QUERY_DIRECTORY nothing but the scan of its open
  abbrev AQuestionChangesNothingBy : (Sent S → Performed S) → Type 0
  AQuestionChangesNothingBy perform =
      (it : Sent S) →
      let ran = perform it in
      ((asked : FlushRequest) → Succeeds it ran (asks_flush asked) → ran.server ≡ it.server)
      × ((asked : ReservedRequest) → Succeeds it ran (asks_echo asked) → ran.server ≡ it.server)
      × ((asked : QueryInfoRequest) → Succeeds it ran (asks_query_info asked) → ran.server ≡ it.server)
      × ((asked : QueryDirectoryAsked) → Succeeds it ran (asks_query_directory asked) →
      (ran.server ≡ it.server)
      ⊎ ((scan : Scan) × (ran.server ≡ record it.server { store = scan_set it.server.store (open_asked it) scan })))

  a_question_changes_nothing : AQuestionChangesNothing m ≡ AQuestionChangesNothingBy (answered m)
  a_question_changes_nothing = refl

  -- wrong: a FLUSH ends all opens
  abbrev ended_by_flush : Rules S
  ended_by_flush = record right {
    done = λ server ids asked step. elim asked [
      | asks_flush it ↦ record step { server = record server { store = record server.store { opens = [] } } }
      | _ ↦ step
    ];
  }

  a_flush_that_ends_is_refused : AQuestionChangesNothingBy (answered_by ended_by_flush) → ⊥
  unfolding header_of known_command request_of spelling
  a_flush_that_ends_is_refused law =
      let left =
      (law (sent (flush_request 1 1))).0 flush_asked (record { says = refl; context = fair; status = refl }) in
      let same : 0 ≡ 1 = ap (λ (s : ServerState S). length s.store.opens) left in
      omega (arith, same)

  -- a TREE_CONNECT that succeeds names the share, and its session has the tree connect that the response tells
  abbrev ATreeConnectJoinsBy : (Sent S → Performed S) → Type 0
  ATreeConnectJoinsBy perform =
      (it : Sent S) (asked : TreeConnectAsked) (response : ResponseState) →
      Succeeds it (perform it) (asks_tree_connect asked) → (perform it).response ≡ Some response →
      (option_map_or (λ named. is_same_name named it.server.sessions.share) (share_in (path_parts asked.path)) false
      ≡ true)
      × (knows_tree
      (perform it).server.sessions.table
      (request_ids it.context it.request).session_id
      response.ids.tree_id
      ≡ true)

  a_tree_connect_joins : ATreeConnectJoins m ≡ ATreeConnectJoinsBy (answered m)
  a_tree_connect_joins = refl

  -- wrong: a TREE_CONNECT is answered, and the session has no tree connect more
  abbrev nothing_joined : Rules S
  nothing_joined = record right {
    done = λ server ids asked step. elim asked [ asks_tree_connect it ↦ record step { server = server } | _ ↦ step ];
  }

  nothing_joined_is_refused : ATreeConnectJoinsBy (answered_by nothing_joined) → ⊥
  unfolding header_of known_command request_of spelling tree_joined
  nothing_joined_is_refused law =
      let joined = law
      (sent (connect_request 1))
      connect_asked
      (with_body (record { session_id = 1; tree_id = 2 }) Success (answers_tree_connect (record {
        share_type = record { 0 = 1 };
        share_flags = record { 0 = 0 };
        capabilities = record { 0 = 0 };
        maximal_access = record { 0 = most_allowed false false };
      })))
      (record { says = refl; context = fair; status = refl })
      refl in
      let both : false ≡ true = joined.1 in
      cc

  -- a TREE_DISCONNECT that succeeds ends its tree connect, with its opens
  abbrev ATreeDisconnectLeavesBy : (Sent S → Performed S) → Type 0
  ATreeDisconnectLeavesBy perform =
      (it : Sent S) (asked : ReservedRequest) → Succeeds it (perform it) (asks_tree_disconnect asked) →
      let ids = request_ids it.context it.request in
      ((perform it).server.store ≡ closed_all it.server.store (Tree ids.session_id ids.tree_id))
      × (knows_tree (perform it).server.sessions.table ids.session_id ids.tree_id ≡ false)

  a_tree_disconnect_leaves : ATreeDisconnectLeaves m ≡ ATreeDisconnectLeavesBy (answered m)
  a_tree_disconnect_leaves = refl

  -- wrong: a TREE_DISCONNECT is answered, and the tree connect stays
  abbrev nothing_left : Rules S
  nothing_left = record right {
    done = λ server ids asked step. elim asked [ asks_tree_disconnect it ↦ record step { server = server } | _ ↦ step ];
  }

  nothing_left_is_refused : ATreeDisconnectLeavesBy (answered_by nothing_left) → ⊥
  unfolding header_of known_command request_of spelling tree_left
  nothing_left_is_refused law =
      let left =
      law (sent (disconnect_request 1 1)) nothing_asked (record { says = refl; context = fair; status = refl }) in
      let both : true ≡ false = left.1 in
      cc

  -- a LOGOFF that succeeds ends its session
  abbrev ALogoffEndsItsSessionBy : (Sent S → Performed S) → Type 0
  ALogoffEndsItsSessionBy perform =
      (it : Sent S) (asked : ReservedRequest) → IsInOrder it.server → Succeeds it (perform it) (asks_logoff asked) →
      IsOver (perform it).server (request_ids it.context it.request).session_id

  a_logoff_ends_its_session : ALogoffEndsItsSession m ≡ ALogoffEndsItsSessionBy (answered m)
  a_logoff_ends_its_session = refl

  -- wrong: a LOGOFF is answered, and its session stays
  abbrev nobody_logged_off : Rules S
  nobody_logged_off = record right {
    done = λ server ids asked step. elim asked [ asks_logoff it ↦ record step { server = server } | _ ↦ step ];
  }

  nobody_logged_off_is_refused : ALogoffEndsItsSessionBy (answered_by nobody_logged_off) → ⊥
  unfolding header_of known_command request_of spelling session_logged_off
  nobody_logged_off_is_refused law =
      let order : IsInOrder (sent (logoff_request 1)).server = record {
        sessions = (tt, tt);
        sessions_given =
            (omega arith, tt);
        opens = (tt, tt);
        opens_given = (omega arith, tt);
      } in
      let over = (law (sent (logoff_request 1)) nothing_asked order (record {
        says = refl;
        context = fair;
        status =
            refl;
      })).0 in
      cc

  -- what is refused changes nothing
  abbrev ARefusalChangesNothingBy : (Sent S → Performed S) → Type 0
  ARefusalChangesNothingBy perform =
      (it : Sent S) → may_change_though_refused it.request ≡ false →
      IfSome (perform it).response (λ response. response.status ≢ Success) → (perform it).server ≡ it.server

  a_refusal_changes_nothing : ARefusalChangesNothing m ≡ ARefusalChangesNothingBy (answered m)
  a_refusal_changes_nothing = refl

  -- wrong: a READ takes the number of the next open, though it is refused
  abbrev number_taken : Rules S
  number_taken = record right {
    done = λ server ids asked step. elim asked [
      | asks_read it ↦ record step {
        server = record server { store = record server.store { next = server.store.next + 1 } };
      }
      | _ ↦ step
    ];
  }

  number_taken_is_refused : ARefusalChangesNothingBy (answered_by number_taken) → ⊥
  unfolding header_of known_command request_of spelling file_read
  number_taken_is_refused law =
      let same : 3 ≡ 2 = ap (λ (s : ServerState S). s.store.next) (law (sent (read_request_at 5 1 1)) refl (λ e. cc)) in
      omega (arith, same)
