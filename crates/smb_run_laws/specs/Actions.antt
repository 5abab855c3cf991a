-- The actions of a run: the requests that it performed and the connections that it ended; and what each does to the
-- files, as steps of the store ([MS-SMB2] 3.3.5.2, 3.3.7.1).
use Rattle.std.specs.Prelude.{◌≡◌, ◌≢◌, ◌⊎◌, ℕ, Bool, true, false, List, [], ◌∷◌, ◌++◌, map, None, Some, MatchOption}
use Rattle.std.specs.Prelude.{if◌then◌else◌}
use Rattle.std.specs.Option.{option_map_or}
use Rattle.smb_wire.specs.Limits.{most_in_any_dialect}
use Rattle.smb_wire.specs.declared.nt_status.NtStatus.TheVariants.{Success}
use Rattle.smb_body.specs.Requests.{RequestValue, asks_negotiate, asks_session_setup, asks_logoff, asks_tree_connect}
use Rattle.smb_body.specs.Requests.{asks_tree_disconnect, asks_create, asks_close, asks_flush, asks_read, asks_write}
use Rattle.smb_body.specs.Requests.{asks_lock, asks_cancel, asks_echo, asks_query_directory, asks_query_info}
use Rattle.smb_body.specs.Requests.{asks_set_info}
use Rattle.smb_session.specs.Authenticator.{Meaning}
use Rattle.smb_session.specs.Table.{numbers_on}
use Rattle.smb_access.specs.declared.open_row.Owner.TheVariants.{Session, Tree}
use Rattle.smb_access.specs.declared.scan.Scan.{Scan}
use Rattle.smb_info.specs.SetInformation.{set_class, asked_of}
use Rattle.smb_info.specs.declared.set_info.SetInformationClass.{SetInformationClass}
use Rattle.smb_opens.specs.State.{StoreState}
use Rattle.smb_opens.specs.Steps.{StoreStep, creates, writes, locks, unlocks, sets_scan, closes, closes_all, stepped}
use Rattle.smb_opens.specs.Steps.{stepped_all}
use Rattle.smb_request.specs.declared.context.HeaderIds.{HeaderIds}
use Rattle.smb_request.specs.Call.{body_of, call_of}
use Rattle.smb_request.specs.declared.context.ContextOpen.TheVariants.{Refused}
use Rattle.smb_request.specs.Request.{performed}
use Rattle.smb_request.specs.State.{ServerState, connection_ended}
use Rattle.smb_request_laws.specs.Doing.{set_step, elements_asked, is_unlock}
use Rattle.smb_peers.specs.Event.{EventText, opens, brings, ends}
use Rattle.smb_engine.specs.Run.{PerformedRequest, piece_step, event_step, event_refusal, run}
use Rattle.smb_engine.specs.State.{StreamState, ShareState, stream_of}
use Rattle.smb_content_laws.specs.GoodStores.{Succeeds, AllSucceed}

-- a request that was performed, on a connection at a moment; or the end of a connection, with the server before it
pub data Action (S : Type 0) : Type 0 where
  serves : ℕ → ℕ → PerformedRequest S → Action S
  disconnects : ServerState S → ℕ → Action S

-- the server before an action, and after it
abbrev pub before : {S : Type 0} → Action S → ServerState S
before (serves connection moment served) = served.before
before (disconnects server connection) = server

abbrev pub after : {S : Type 0} → Action S → ServerState S
after (serves connection moment served) = served.after
after (disconnects server connection) = connection_ended server connection

-- WHAT A REQUEST ASKS OF THE FILES

-- the step of the store that a body asks for: under this session and tree connect, through the open of this number,
-- and at this moment. A CREATE's has the leave to write of its session, a QUERY_DIRECTORY's any scan
module _ (ids : HeaderIds) (open_number moment : ℕ) where
  abbrev pub IsAskedFor : RequestValue → StoreStep → Type 0
  IsAskedFor (asks_negotiate it) step = ⊥
  IsAskedFor (asks_session_setup it) step = step ≡ closes_all (Session it.previous_session_id)
  IsAskedFor (asks_logoff it) step = step ≡ closes_all (Session ids.session_id)
  IsAskedFor (asks_tree_connect it) step = ⊥
  IsAskedFor (asks_tree_disconnect it) step = step ≡ closes_all (Tree ids.session_id ids.tree_id)
  IsAskedFor (asks_create it) step =
      (read_only : Bool)
      × (step ≡ creates (record {
        name = it.name;
        access = it.desired_access.0;
        attributes = it.file_attributes.0;
        share = it.share_access.0;
        disposition = it.create_disposition.0;
        options = it.create_options.0;
        session = ids.session_id;
        tree = ids.tree_id;
        read_only = read_only;
      }) moment)
  IsAskedFor (asks_close it) step = step ≡ closes open_number
  IsAskedFor (asks_flush it) step = ⊥
  IsAskedFor (asks_read it) step = ⊥
  IsAskedFor (asks_write it) step = step ≡ writes open_number it.offset it.buffer moment
  IsAskedFor (asks_lock it) step =
      let asks = elements_asked it in
      step ≡ (if is_unlock asks then unlocks open_number asks else locks open_number asks)
  IsAskedFor (asks_cancel it) step = ⊥
  IsAskedFor (asks_echo it) step = ⊥
  IsAskedFor (asks_query_directory it) step = (scan : Scan) × (step ≡ sets_scan open_number scan)
  IsAskedFor (asks_query_info it) step = ⊥
  IsAskedFor (asks_set_info it) step =
      (class : SetInformationClass) × (set_class it.file_info_class.0 ≡ Some class)
      × (step ≡ set_step open_number moment (asked_of it.buffer class))

-- the step that a performed request asks for, by its header, its body and the requests before it in its chain. (No
-- dialect has a part in this.)
abbrev pub AsksFor : {S : Type 0} → ℕ → ℕ → PerformedRequest S → StoreStep → Type 0
AsksFor connection moment served step = MatchOption served.request ⊥ (λ request.
    let call = call_of connection moment None served.context request in
    MatchOption (body_of call.command request) ⊥ (λ body. IsAskedFor call.ids call.open_number moment body step))

-- WHAT AN ACTION DOES

-- a request was answered by SUCCESS
abbrev pub IsAnsweredBySuccess : {S : Type 0} → PerformedRequest S → Type 0
IsAnsweredBySuccess served = MatchOption served.response ⊥ (λ response. response.status ≡ Success)

-- a step that may be done though its request is refused: an UNLOCK has unlocked the ranges before the one that is
-- refused (3.3.5.14.1), and a QUERY_DIRECTORY has begun its scan (3.3.5.18)
abbrev pub is_done_though_refused : StoreStep → Bool
is_done_though_refused (unlocks number asks) = true
is_done_though_refused (sets_scan number scan) = true
is_done_though_refused step = false

-- a store is as it was before; or as one step leaves it, which was asked for and succeeds, and whose request is
-- answered by SUCCESS, but for those two
abbrev pub IsLeftBy : (StoreStep → Type 0) → Type 0 → StoreState → StoreState → Type 0
IsLeftBy asks IsAnswered before after =
    (after ≡ before)
    ⊎ ((step : StoreStep) × asks step × Succeeds most_in_any_dialect before step × (after ≡ stepped before step)
    × (IsAnswered ⊎ (is_done_though_refused step ≡ true)))

-- the steps of the end of a connection: the opens of each of its sessions are closed, in rising number of the sessions
-- (3.3.7.1)
abbrev pub end_steps : {S : Type 0} → ServerState S → ℕ → List StoreStep
end_steps server connection =
    map (λ session. closes_all (Session session)) (numbers_on server.sessions.table.sessions connection)

module _ {S : Type 0} (authenticator : Meaning S) where
  -- an action leaves the server, and gives the response, that the definition of its request or of the end of its
  -- connection says; and of the store what is above
  abbrev pub IsAsDefined : Action S → Type 0
  IsAsDefined (serves connection moment served) = MatchOption served.request (served.after ≡ served.before) (λ request.
      let done = performed authenticator connection moment served.before served.dialect served.context request in
      (served.after ≡ done.server) × (served.response ≡ done.response) × (served.context.last_open ≢ Refused Success)
      × IsLeftBy (AsksFor connection moment served) (IsAnsweredBySuccess served) served.before.store served.after.store)
  IsAsDefined (disconnects server connection) =
      (connection_ended server connection).store ≡ stepped_all server.store (end_steps server connection)

  -- actions lead from one store to another: each begins with the store that the one before it left, and is as defined
  abbrev pub Lead : StoreState → List (Action S) → StoreState → Type 0
  Lead store [] left = store ≡ left
  Lead store (action ∷ actions) left =
      ((before action).store ≡ store) × IsAsDefined action × Lead (after action).store actions left

module _ {S : Type 0} (authenticator : Meaning S) where
  -- the actions of an event, in order
  abbrev pub actions_of_event : ShareState S → EventText → List (Action S)
  actions_of_event s (opens connection) = []
  actions_of_event s (brings connection moment piece) = option_map_or
      (λ (stream : StreamState).
      let step = piece_step authenticator (record { connection_id = connection; moment = moment }) s.server stream piece in
      map (serves connection moment) step.requests ++ (if step.stays_open then [] else disconnects step.server connection ∷ []))
      (stream_of connection s.streams)
      []
  actions_of_event s (ends connection) = disconnects s.server connection ∷ []

  -- those of a run, up to an event that is refused
  abbrev pub actions_of_run : ShareState S → List EventText → List (Action S)
  actions_of_run s [] = []
  actions_of_run s (event ∷ events) = option_map_or
      (λ fault. [])
      (event_refusal s event)
      (actions_of_event s event ++ actions_of_run (event_step authenticator s event).state events)

  -- a run is its actions: they lead from the store before it to the store that it leaves
  abbrev pub ARunIsItsActions : Type 0
  ARunIsItsActions =
      (s : ShareState S) (events : List EventText) →
      Lead authenticator s.server.store (actions_of_run s events) (run authenticator s events).state.server.store

  -- a run is a list of steps of the store, each of which succeeds
  abbrev pub ARunIsSteps : Type 0
  ARunIsSteps =
      (s : ShareState S) (events : List EventText) →
      (steps : List StoreStep) × AllSucceed most_in_any_dialect s.server.store steps
      × (stepped_all s.server.store steps ≡ (run authenticator s events).state.server.store)
