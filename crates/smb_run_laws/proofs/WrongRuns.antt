-- Wrong definitions of runs, which the laws refuse: with each the law is false.
use Rattle.std.proofs.Common.{◌≡◌, ℕ, true, false, List, [], ◌∷◌, ◌++◌, length, map, drop, None, Some, refl, sym, ap, arith, ◌∙◌}
use Rattle.std.specs.List.{AllByRecursion, flat_map}
use Rattle.smb_session.specs.Authenticator.{Meaning}
use Rattle.smb_opens.specs.State.{StoreState}
use Rattle.smb_request.specs.State.{ServerState, connection_ended}
use Rattle.smb_request_laws.proofs.Example.{server, session, opened, read_asked, read_request, write_asked, write_request}
use Rattle.std.specs.Prelude.{slice_get}
use Rattle.smb_wire.specs.Commands.{known_command}
use Rattle.smb_wire.specs.Number.{spelling}
use Rattle.smb_wire.specs.declared.nt_status.NtStatus.TheVariants.{Success}
use Rattle.smb_head.specs.Headers.{header_of}
use Rattle.smb_body.specs.Requests.{request_of}
use Rattle.smb_body.specs.Replies.{reply_spelling, answers_read, answers_write}
use Rattle.smb_opens.specs.Bytes.{written_to}
use Rattle.smb_request.specs.Context.{first_context}
use Rattle.smb_request.specs.Response.{ResponseState}
use Rattle.smb_peers.specs.Event.{EventText, ends}
use Rattle.smb_engine.specs.declared.arrival.Arrival.{Arrival}
use Rattle.smb_engine.specs.declared.connection.Connection.{Connection}
use Rattle.smb_engine.specs.Run.{PerformedRequest, Step, chain_step, Ran, run}
use Rattle.smb_engine.specs.Output.{Output, frame_to, reply_frame}
use Rattle.smb_engine.specs.State.{ShareState, new_stream, is_open, ended}
use Rattle.smb_head.specs.Replies.{Reply, joined_replies}
use Rattle.smb_serving.specs.Happenings.{Happening, run_of}
use Rattle.smb_run_laws.specs.Actions.{Action, serves, after, Lead, actions_of_run, ARunIsItsActions}
use Rattle.smb_run_laws.specs.Answers.{AnsweredPayload, AreReplies, AreAnsweredInOrder, requests_in, AChainIsAnsweredInOrder, ARunIsAnsweredInOrder}
use Rattle.smb_run_laws.specs.Rules.{LetGoOn, WhoKeepsTheRulesIsServedOn}
use Rattle.smb_run_laws.specs.Written.{IsReadAsWritten}
use Rattle.smb_run_laws.proofs.Leading.{run_leads}

some_is : (x y : ℕ) → Some x ≡ Some y → x ≡ y
some_is x y e = cc

-- actions lead to one store only, which refuses each run that leaves another
pub leads_to_one : {S : Type 0} (m : Meaning S) (store left other : StoreState) (actions : List (Action S)) → Lead m store actions left → Lead m store actions other → left ≡ other
leads_to_one m store left other [] a b = sym a ∙ b
leads_to_one m store left other (action ∷ actions) a b = leads_to_one m (after action).store left other actions a.2 b.2

module _ {S : Type 0} (m : Meaning S) (accounts : S) where
  abbrev ARunIsItsActionsBy : (ShareState S → List EventText → Ran S) → Type 0
  ARunIsItsActionsBy play = (s : ShareState S) (events : List EventText) → Lead m s.server.store (actions_of_run m s events) (play s events).state.server.store

  a_run_is_its_actions : ARunIsItsActions m ≡ ARunIsItsActionsBy (run m)
  a_run_is_its_actions = refl

  -- wrong: what a run did to the files is lost. The example has a connection with a session and an open, and it ends
  abbrev forgets : ShareState S → List EventText → Ran S
  forgets s events =
      let ran = run m s events in
      record ran { state = record ran.state { server = record ran.state.server { store = s.server.store } } }

  abbrev share : ShareState S
  share = record { server = server accounts ((1, session 1 (1 ∷ [])) ∷ []); streams = (1, new_stream) ∷ []; next = 2; most_connections = 64 }

  pub forgets_is_refused : ARunIsItsActionsBy forgets → ⊥
  unfolding connection_ended
  forgets_is_refused law =
      let events = ends 1 ∷ [] in
      let same : (run m share events).state.server.store ≡ share.server.store =
      leads_to_one m share.server.store (run m share events).state.server.store share.server.store (actions_of_run m share events) (run_leads m share events) (law share events) in
      let opens : [] ≡ opened ∷ [] = ap (λ (store : StoreState). store.opens) same in
      cc

-- Wrong actions, which the laws refuse
module _ {S : Type 0} (accounts : S) where
  abbrev now : ServerState S
  now = server accounts ((1, session 1 (1 ∷ [])) ∷ [])

  abbrev answer : List ℕ → ResponseState
  answer body = record { status = Success; refusal = None; ids = record { session_id = 1; tree_id = 1 }; body = body }

  abbrev served : ServerState S → List ℕ → ServerState S → List ℕ → PerformedRequest S
  served before request after body = record {
    before = before;
    dialect = None;
    context = first_context;
    request = Some request;
    after = after;
    response = Some (answer body);
    credits = 1;
  }

  abbrev later : ServerState S
  later = record now { store = written_to now.store 1 0 (9 ∷ []) 0 }

  -- a WRITE of the byte 9, and behind it a READ of the same place
  abbrev writing : PerformedRequest S
  writing = served now (write_request 1 1) later (reply_spelling (answers_write (record { count = 1 })))

  -- wrong: it is answered by a zero
  abbrev reading : PerformedRequest S
  reading = served later (read_request 1 1) later (reply_spelling (answers_read (0 ∷ [])))

  pub zeros_are_refused : IsReadAsWritten (serves 1 0 writing ∷ serves 1 0 reading ∷ []) → ⊥
  unfolding header_of known_command request_of spelling
  zeros_are_refused law =
      let told = law [] [] [] 1 0 1 0 2 writing reading write_asked (read_asked 0) refl
      (record { request = write_request 1 1; is_request = refl; says = refl; row = opened; through = refl; of_entry = refl; answered = refl })
      (record { request = read_request 1 1; is_request = refl; says = refl; row = opened; through = refl; of_entry = refl; answered = refl }) in
      let same : 0 ∷ [] ≡ told.0 = ap (drop 16) told.1 in
      let long = ap length same in
      let nine : slice_get told.0 0 ≡ Some 9 = told.2 0 0 (omega (arith, long)) (omega arith) refl tt in
      let zero : slice_get told.0 0 ≡ Some 0 = ap (λ (xs : List ℕ). slice_get xs 0) (sym same) in
      let both : 0 ≡ 9 = some_is 0 9 (sym zero ∙ nine) in
      omega (arith, both)

-- ---- what is put out, and who is ended

abbrev pairs : {S : Type 0} → ℕ → List (PerformedRequest S) → List (ℕ × PerformedRequest S)
pairs connection requests = map (λ served. (connection, served)) requests

module _ {S : Type 0} (m : Meaning S) (accounts : S) where
  -- the requests that a run performs are answered in order, and nothing else is put out
  abbrev ARunIsAnsweredInOrderBy : (ShareState S → List EventText → Ran S) → Type 0
  ARunIsAnsweredInOrderBy play =
      (s : ShareState S) (events : List EventText) → AreAnsweredInOrder (requests_in (actions_of_run m s events)) (play s events).outputs

  a_run_is_answered : ARunIsAnsweredInOrder m ≡ ARunIsAnsweredInOrderBy (run m)
  a_run_is_answered = refl

  -- wrong: a frame is put out that answers nothing
  abbrev speaks_first : ShareState S → List EventText → Ran S
  speaks_first s events =
      let ran = run m s events in
      record ran { outputs = frame_to 1 (0 ∷ []) ∷ ran.outputs }

  -- where no request was performed there is no frame
  no_frame_by : (one : AnsweredPayload S) → pairs one.connection one.requests ≡ [] → AreReplies one.requests one.replies → reply_frame one.connection (joined_replies one.replies) ≡ []
  unfolding joined_replies
  no_frame_by one none replies = by_requests one.connection one.requests one.replies none replies
    where
      by_requests : (connection : ℕ) (requests : List (PerformedRequest S)) (replies : List Reply) → pairs connection requests ≡ [] → AreReplies requests replies → reply_frame connection (joined_replies replies) ≡ []
      by_requests connection [] replies none h = ap (λ (rs : List Reply). reply_frame connection (joined_replies rs)) h
      by_requests connection (served ∷ requests) replies none h = cc

  front_none : {A : Type 0} (one two : List A) → one ++ two ≡ [] → (one ≡ []) × (two ≡ [])
  front_none [] two e = (refl, e)
  front_none (x ∷ one) two e = cc

  no_frames : (answered : List (AnsweredPayload S)) → [] ≡ flat_map (λ one. pairs one.connection one.requests) answered →
      AllByRecursion (λ one. AreReplies one.requests one.replies) answered → flat_map (λ one. reply_frame one.connection (joined_replies one.replies)) answered ≡ []
  no_frames [] e h = refl
  no_frames (one ∷ answered) e h =
      let parts = front_none (pairs one.connection one.requests) (flat_map (λ one. pairs one.connection one.requests) answered) (sym e) in
      ap (λ (os : List Output). os ++ flat_map (λ one. reply_frame one.connection (joined_replies one.replies)) answered) (no_frame_by one parts.0 h.0) ∙ no_frames answered (sym parts.1) h.1

  speaks_first_is_refused : ARunIsAnsweredInOrderBy speaks_first → ⊥
  speaks_first_is_refused law =
      let told = law (share m accounts) [] in
      let none : frame_to 1 (0 ∷ []) ∷ [] ≡ [] = told.2 ∙ no_frames told.0 told.1 told.3 in
      cc

  -- a chain is answered by one frame of the replies to its requests
  abbrev AChainIsAnsweredInOrderBy : (Arrival → ServerState S → Connection → List ℕ → Step S) → Type 0
  AChainIsAnsweredInOrderBy play =
      (arrival : Arrival) (server : ServerState S) (connection : Connection) (payload : List ℕ) →
      let step = play arrival server connection payload in
      (replies : List Reply) × (step.outputs ≡ reply_frame arrival.connection_id (joined_replies replies)) × AreReplies step.requests replies

  a_chain_is_answered : AChainIsAnsweredInOrder m ≡ AChainIsAnsweredInOrderBy (chain_step m)
  a_chain_is_answered = refl

  -- wrong: a payload of which nothing is performed is answered
  abbrev answers_nothing : Arrival → ServerState S → Connection → List ℕ → Step S
  answers_nothing arrival server connection payload = record {
    server = server;
    connection = connection;
    outputs = frame_to arrival.connection_id (0 ∷ []) ∷ [];
    stays_open = true;
    requests = [];
  }

  answers_nothing_is_refused : AChainIsAnsweredInOrderBy answers_nothing → ⊥
  unfolding joined_replies
  answers_nothing_is_refused law =
      let told = law (record { connection_id = 1; moment = 0 }) (share m accounts).server new_stream.connection [] in
      let none : frame_to 1 (0 ∷ []) ∷ [] ≡ [] = told.1 ∙ ap (λ (rs : List Reply). reply_frame 1 (joined_replies rs)) told.2 in
      cc

  -- the connection of a client who keeps the rules stays open
  abbrev WhoKeepsTheRulesIsServedOnBy : (ShareState S → List Happening → Ran S) → Type 0
  WhoKeepsTheRulesIsServedOnBy play =
      (s : ShareState S) (connection : ℕ) (happenings : List Happening) → is_open s connection ≡ true → LetGoOn m connection s happenings →
      is_open (play s happenings).state connection ≡ true

  who_keeps_the_rules_is_served_on : WhoKeepsTheRulesIsServedOn m ≡ WhoKeepsTheRulesIsServedOnBy (run_of m)
  who_keeps_the_rules_is_served_on = refl

  -- wrong: a client who says nothing is ended
  abbrev ends_the_silent : ShareState S → List Happening → Ran S
  ends_the_silent s [] = record { state = ended s 1; outputs = []; stop = None }
  ends_the_silent s (happening ∷ happenings) = run_of m s (happening ∷ happenings)

  ends_the_silent_is_refused : WhoKeepsTheRulesIsServedOnBy ends_the_silent → ⊥
  ends_the_silent_is_refused law = let same : false ≡ true = law (share m accounts) 1 [] refl tt in cc
