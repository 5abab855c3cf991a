-- What is answered is what was done.
use Rattle.std.specs.Prelude.{◌≡◌, ◌≢◌, ◌⊎◌, ℕ, ◌-◌, ◌^◌, ◌==◌, bit_and, Bool, true, false, List, [], ◌∷◌, length, map, Option, Some, IfSome}
use Rattle.std.specs.Option.{option_map, option_map_or}
use Rattle.smb_wire.specs.LockFlags.{UNLOCK}
use Rattle.smb_wire.specs.Names.{is_same_name}
use Rattle.smb_wire.specs.declared.command.Command.TheVariants.{SessionSetup, Lock, QueryDirectory}
use Rattle.smb_wire.specs.declared.dialect.Dialect.{Dialect}
use Rattle.smb_wire.specs.declared.file_id.FileId.{FileId}
use Rattle.smb_wire.specs.declared.nt_status.NtStatus.TheVariants.{Success}
use Rattle.smb_head.specs.Chains.{is_related}
use Rattle.smb_body.specs.Create.{CreateAsked}
use Rattle.smb_body.specs.Replies.{reply_spelling, answers_read, answers_write}
use Rattle.smb_body.specs.Requests.{RequestValue, file_id_of, asks_logoff, asks_tree_connect, asks_tree_disconnect, asks_create, asks_close, asks_flush, asks_read, asks_write, asks_lock, asks_echo, asks_query_directory, asks_query_info, asks_set_info}
use Rattle.smb_body.specs.Lock.{LockAsked}
use Rattle.smb_body.specs.QueryDirectory.{QueryDirectoryAsked}
use Rattle.smb_body.specs.SetInfo.{SetInfoAsked}
use Rattle.smb_body.specs.TreeConnect.{TreeConnectAsked}
use Rattle.smb_body.specs.Write.{WriteAsked}
use Rattle.smb_body.specs.declared.close.CloseRequest.{CloseRequest}
use Rattle.smb_body.specs.declared.flush.FlushRequest.{FlushRequest}
use Rattle.smb_body.specs.declared.lock_element.LockElement.{LockElement}
use Rattle.smb_body.specs.declared.query_info.QueryInfoRequest.{QueryInfoRequest}
use Rattle.smb_body.specs.declared.read.ReadRequest.{ReadRequest}
use Rattle.smb_body.specs.declared.reserved.ReservedRequest.{ReservedRequest}
use Rattle.smb_session.specs.Authenticator.{Meaning}
use Rattle.smb_session.specs.Path.{path_parts, share_in}
use Rattle.smb_session.specs.Table.{knows_tree, read_only_of}
use Rattle.smb_locks.specs.declared.ask.LockAsk.{LockAsk}
use Rattle.smb_access.specs.declared.open_row.Owner.TheVariants.{Tree}
use Rattle.smb_access.specs.declared.scan.Scan.{Scan}
use Rattle.smb_access.specs.Asked.{FileAsked}
use Rattle.smb_info.specs.SetInformation.{SetAsked, asks_basic, asks_rename, asks_mark, asks_allocation, asks_end, set_of}
use Rattle.smb_opens.specs.Bytes.{file_bytes, written_to}
use Rattle.smb_opens.specs.Close.{closed, closed_all}
use Rattle.smb_opens.specs.Effect.{created}
use Rattle.smb_opens.specs.Locks.{locked_through, unlocked_through}
use Rattle.smb_opens.specs.Scans.{scan_set}
use Rattle.smb_opens.specs.Steps.{StoreStep, sets_delete, sets_size, sets_basic, renames, stepped}
use Rattle.smb_request.specs.declared.context.Context.{Context}
use Rattle.smb_request.specs.declared.context.ContextOpen.TheVariants.{Named}
use Rattle.smb_request.specs.Call.{body_of, call_of}
use Rattle.smb_request.specs.Laws.{IsInOrder, IsOver, request_ids}
use Rattle.smb_request.specs.Request.{performed}
use Rattle.smb_request.specs.Response.{Performed, ResponseState}
use Rattle.smb_request.specs.State.{ServerState}
use Rattle.smb_request_laws.specs.Acting.{command_in, IsNotRefusedBySuccess}

-- a request as it comes: on which connection, when, to what server, in which dialect, and behind what in its chain
pub record Sent (S : Type 0) : Type 0 where
  pub connection : ℕ
  pub moment : ℕ
  pub server : ServerState S
  pub dialect : Option Dialect
  pub context : Context
  pub request : List ℕ

-- what it leaves, and its response
abbrev pub answered : {S : Type 0} → Meaning S → Sent S → Performed S
answered authenticator it =
    performed authenticator it.connection it.moment it.server it.dialect it.context it.request

-- the number of the open that it names
abbrev pub open_asked : {S : Type 0} → Sent S → ℕ
open_asked it = (call_of it.connection it.moment it.dialect it.context it.request).open_number

-- what a CREATE asks of the files, under its session and its tree connect (2.2.13)
abbrev pub create_ask : {S : Type 0} → Sent S → CreateAsked → Bool → FileAsked
create_ask it asked read_only = record {
  name = asked.name;
  access = asked.desired_access.0;
  attributes = asked.file_attributes.0;
  share = asked.share_access.0;
  disposition = asked.create_disposition.0;
  options = asked.create_options.0;
  session = (request_ids it.context it.request).session_id;
  tree = (request_ids it.context it.request).tree_id;
  read_only = read_only;
}

-- the body of a response
abbrev pub response_body : {S : Type 0} → Performed S → List ℕ
response_body ran = option_map_or (λ response. response.body) ran.response []

-- a request asks this, and is answered by SUCCESS
pub record Succeeds {S : Type 0} (it : Sent S) (ran : Performed S) (asked : RequestValue) : Type 0 where
  pub says : body_of (command_in it.request) it.request ≡ Some asked
  pub context : IsNotRefusedBySuccess it.context
  pub status : option_map (λ response. response.status) ran.response ≡ Some Success

-- the step of the store that a SET_INFO asks for, through the open of a number
abbrev pub set_step : ℕ → ℕ → SetAsked → StoreStep
set_step number moment (asks_basic ask) = sets_basic number ask moment
set_step number moment (asks_rename replace name) = renames number name moment
set_step number moment (asks_mark mark) = sets_delete number mark
set_step number moment (asks_allocation size) = sets_size number size true moment
set_step number moment (asks_end size) = sets_size number size false moment

-- what the elements of a LOCK ask (2.2.26.1)
abbrev pub elements_asked : LockAsked → List LockAsk
elements_asked asked =
    let element_asked : LockElement → LockAsk =
    λ element. record { offset = element.offset; length = element.length; flags = element.flags } in
    map element_asked asked.locks

-- a LOCK unlocks where its first element has UNLOCK (3.3.5.14)
abbrev pub is_unlock : List LockAsk → Bool
is_unlock asks =
    let first : Bool = elim asks [ [] ↦ false | ask ∷ others ↦ bit_and ask.flags.0 UNLOCK == UNLOCK ] in
    first

-- a request that may change something though it is refused: a SESSION_SETUP that goes on or is denied (3.3.5.5.3), a
-- LOCK that unlocked some of its ranges (3.3.5.14.1), and a QUERY_DIRECTORY that began a scan (3.3.5.18)
abbrev pub may_change_though_refused : List ℕ → Bool
may_change_though_refused request = option_map_or
    (λ command. elim command [ SessionSetup ↦ true | Lock ↦ true | QueryDirectory ↦ true | _ ↦ false ])
    (command_in request)
    false

-- a request that is related to none before it names the open of its FileId (3.3.5.10); and by a FileId of all ones a
-- related request names the open that the one before it in its chain named or made (3.3.5.2.7.2)
abbrev pub ARequestNamesItsOpen : Type 0 → Type 0
ARequestNamesItsOpen S =
    (it : Sent S) (asked : RequestValue) (file_id : FileId) →
    body_of (command_in it.request) it.request ≡ Some asked → file_id_of asked ≡ Some file_id →
    (is_related it.request ≡ false → open_asked it ≡ file_id.persistent)
    × ((last : FileId) → file_id.persistent ≡ 2 ^ 64 - 1 → file_id.volatile ≡ 2 ^ 64 - 1 →
    is_related it.request ≡ true → it.context.last_open ≡ Named last → open_asked it ≡ last.persistent)

module _ {S : Type 0} (authenticator : Meaning S) where
  -- a READ that succeeds tells the bytes of the file of its open, from its offset on, at most as many as it asks for,
  -- and changes nothing (3.3.5.12)
  abbrev pub AReadTellsTheFile : Type 0
  AReadTellsTheFile =
      (it : Sent S) (asked : ReadRequest) → Succeeds it (answered authenticator it) (asks_read asked) →
      (response_body (answered authenticator it)
      ≡ reply_spelling (answers_read (file_bytes it.server.store (open_asked it) asked.offset asked.length)))
      × ((answered authenticator it).server ≡ it.server)

  -- a WRITE that succeeds leaves its bytes in the file of its open, at its offset, and returns how many (3.3.5.13)
  abbrev pub AWriteIsInTheFile : Type 0
  AWriteIsInTheFile =
      (it : Sent S) (asked : WriteAsked) → Succeeds it (answered authenticator it) (asks_write asked) →
      ((answered authenticator it).server.store
      ≡ written_to it.server.store (open_asked it) asked.offset asked.buffer it.moment)
      × (response_body (answered authenticator it)
      ≡ reply_spelling (answers_write (record { count = length asked.buffer })))

  -- a CREATE that succeeds opens what it asks for, under its session and its tree connect, with no more leave to write
  -- than the session has (3.3.5.9)
  abbrev pub ACreateOpens : Type 0
  ACreateOpens =
      (it : Sent S) (asked : CreateAsked) (read_only : Bool) →
      Succeeds it (answered authenticator it) (asks_create asked) →
      read_only_of it.server.sessions.table it.connection (request_ids it.context it.request).session_id
      ≡ Some read_only →
      (answered authenticator it).server.store ≡ created it.server.store (create_ask it asked read_only) it.moment

  -- a CLOSE that succeeds closes its open (3.3.5.10)
  abbrev pub ACloseCloses : Type 0
  ACloseCloses =
      (it : Sent S) (asked : CloseRequest) → Succeeds it (answered authenticator it) (asks_close asked) →
      (answered authenticator it).server.store ≡ closed it.server.store (open_asked it)

  -- a TREE_CONNECT that succeeds names the share, and its session has the tree connect that the response tells
  -- (3.3.5.7)
  abbrev pub ATreeConnectJoins : Type 0
  ATreeConnectJoins =
      (it : Sent S) (asked : TreeConnectAsked) (response : ResponseState) →
      Succeeds it (answered authenticator it) (asks_tree_connect asked) →
      (answered authenticator it).response ≡ Some response →
      (option_map_or
      (λ named. is_same_name named it.server.sessions.share)
      (share_in (path_parts asked.path))
      false
      ≡ true)
      × (knows_tree
      (answered authenticator it).server.sessions.table
      (request_ids it.context it.request).session_id
      response.ids.tree_id
      ≡ true)

  -- a TREE_DISCONNECT that succeeds ends its tree connect, with its opens (3.3.5.8)
  abbrev pub ATreeDisconnectLeaves : Type 0
  ATreeDisconnectLeaves =
      (it : Sent S) (asked : ReservedRequest) →
      Succeeds it (answered authenticator it) (asks_tree_disconnect asked) →
      let ids = request_ids it.context it.request in
      ((answered authenticator it).server.store ≡ closed_all it.server.store (Tree ids.session_id ids.tree_id))
      × (knows_tree (answered authenticator it).server.sessions.table ids.session_id ids.tree_id ≡ false)

  -- a LOGOFF that succeeds ends its session, with its trees and its opens (3.3.5.6)
  abbrev pub ALogoffEndsItsSession : Type 0
  ALogoffEndsItsSession =
      (it : Sent S) (asked : ReservedRequest) → IsInOrder it.server →
      Succeeds it (answered authenticator it) (asks_logoff asked) →
      IsOver (answered authenticator it).server (request_ids it.context it.request).session_id

  -- a LOCK that succeeds has locked its ranges; or unlocked them, where its first element has UNLOCK (3.3.5.14)
  abbrev pub ALockLocks : Type 0
  ALockLocks =
      (it : Sent S) (asked : LockAsked) → Succeeds it (answered authenticator it) (asks_lock asked) →
      let ranges = elements_asked asked in
      let left = (answered authenticator it).server.store in
      (is_unlock ranges ≡ false → left ≡ locked_through it.server.store (open_asked it) ranges)
      × (is_unlock ranges ≡ true → left ≡ unlocked_through it.server.store (open_asked it) ranges)

  -- a SET_INFO that succeeds has set what its class and its buffer ask for (3.3.5.21.1)
  abbrev pub ASetInfoSets : Type 0
  ASetInfoSets =
      (it : Sent S) (asked : SetInfoAsked) → Succeeds it (answered authenticator it) (asks_set_info asked) →
      (ask : SetAsked) × (set_of asked.file_info_class.0 asked.buffer ≡ Some ask)
      × ((answered authenticator it).server.store ≡ stepped it.server.store (set_step (open_asked it) it.moment ask))

  -- a FLUSH, an ECHO and a QUERY_INFO that succeed change nothing, and a QUERY_DIRECTORY nothing but the scan of its open
  -- (3.3.5.11, 3.3.5.17, 3.3.5.18, 3.3.5.20)
  abbrev pub AQuestionChangesNothing : Type 0
  AQuestionChangesNothing =
      (it : Sent S) →
      let ran = answered authenticator it in
      ((asked : FlushRequest) → Succeeds it ran (asks_flush asked) → ran.server ≡ it.server)
      × ((asked : ReservedRequest) → Succeeds it ran (asks_echo asked) → ran.server ≡ it.server)
      × ((asked : QueryInfoRequest) → Succeeds it ran (asks_query_info asked) → ran.server ≡ it.server)
      × ((asked : QueryDirectoryAsked) → Succeeds it ran (asks_query_directory asked) →
      (ran.server ≡ it.server)
      ⊎ ((scan : Scan) × (ran.server ≡ record it.server { store = scan_set it.server.store (open_asked it) scan })))

  -- what is refused changes nothing, but for the three that are named above (2.2.2)
  abbrev pub ARefusalChangesNothing : Type 0
  ARefusalChangesNothing =
      (it : Sent S) → may_change_though_refused it.request ≡ false →
      IfSome (answered authenticator it).response (λ response. response.status ≢ Success) →
      (answered authenticator it).server ≡ it.server
