-- For the proofs; nothing here need be believed.
-- Parts of the definitions that the proofs and private functions speak of.
use Rattle.std.specs.Prelude.{ℕ, ◌^◌, List, Option, Some, None, if◌then◌else◌, ◌+◌, ◌-◌, ◌/◌, Bool, false, ◌&&◌, ◌==◌, bit_and, [], ◌∷◌, true, ◌||◌, not, is_some, option_and_then, nat_lt, length, ◌%◌, nat_le, filter, map}
use Rattle.std.specs.Option.{is_none, option_map, option_map_or}
use Rattle.smb_head.specs.Chains.{is_related}
use Rattle.smb_request.specs.declared.call.Call.{Call}
use Rattle.smb_request.specs.declared.context.Context.{Context}
use Rattle.smb_request.specs.declared.context.ContextOpen.{ContextOpen}
use Rattle.smb_request.specs.Context.{open_named}
use Rattle.smb_request.specs.declared.context.ContextOpen.TheVariants.{Nothing, Named, Refused}
use Rattle.smb_wire.specs.declared.nt_status.NtStatus.{NtStatus}
use Rattle.smb_wire.specs.declared.nt_status.NtStatus.{NtStatus}
use Rattle.smb_wire.specs.declared.nt_status.NtStatus.TheVariants.{Success, BufferOverflow}
use Rattle.smb_refusals.specs.declared.refusal.Refusal.{Refusal}
use Rattle.smb_refusals.specs.declared.request.RequestRefusal.{RequestRefusal}
use Rattle.smb_refusals.specs.declared.request.RequestRefusal.TheVariants.{UnknownCommand, CommandNotPerformed, BodyUnreadable, UnknownTreeConnect, NoOpenHandedOn, CreateBeforeRefused, UnknownOpen}
use Rattle.smb_refusals.specs.declared.request.NegotiateRefusal.TheVariants.{NoDialect}
use Rattle.smb_refusals.specs.declared.session.SetupRefusal.TheVariants.{Denied}
use Rattle.smb_refusals.specs.declared.query.QueryDirectoryRefusal.{QueryDirectoryRefusal}
use Rattle.smb_refusals.specs.declared.query.QueryDirectoryRefusal.TheVariants.{ListNotGranted}
use Rattle.smb_refusals.specs.declared.query.QueryInfoRefusal.{QueryInfoRefusal}
use Rattle.smb_refusals.specs.declared.set_info.SetInfoRefusal.{SetInfoRefusal}
use Rattle.smb_wire.specs.declared.file_id.FileId.{FileId}
use Rattle.smb_body.specs.declared.create.CreateResponse.{CreateResponse}
use Rattle.smb_body.specs.declared.close.CloseFlags.{CloseFlags}
use Rattle.smb_body.specs.declared.close.CloseResponse.{CloseResponse}
use Rattle.smb_body.specs.Create.{CreateAsked}
use Rattle.smb_access.specs.declared.open_row.OpenRow.{OpenRow}
use Rattle.smb_access.specs.declared.open_row.Owner.TheVariants.{Session, Tree}
use Rattle.smb_access.specs.declared.view.View.{View}
use Rattle.smb_access.specs.declared.view.Created.{Created}
use Rattle.smb_access.specs.Opens.{open_of, is_held_by}
use Rattle.smb_access.specs.Asked.{FileAsked}
use Rattle.smb_request.specs.declared.context.HeaderIds.{HeaderIds}
use Rattle.smb_wire.specs.LockFlags.{UNLOCK}
use Rattle.smb_locks.specs.declared.ask.LockAsk.{LockAsk}
use Rattle.smb_body.specs.declared.lock_element.LockElement.{LockElement}
use Rattle.smb_wire.specs.declared.command.Command.{Command}
use Rattle.smb_wire.specs.declared.command.Command.TheVariants.{Ioctl, Cancel, ChangeNotify, OplockBreak}
use Rattle.smb_body.specs.declared.needs.Needs.{Needs}
use Rattle.smb_body.specs.declared.needs.Needs.TheVariants.{Session as SessionNeed, Tree as TreeNeed, Open}
use Rattle.smb_wire.specs.declared.dialect.Dialect.{Dialect}
use Rattle.smb_wire.specs.declared.dialect.Dialect.TheVariants.{Smb202, Smb210}
use Rattle.smb_session.specs.Numbers.{contains, without_number}
use Rattle.smb_session.specs.Session.{SessionState}
use Rattle.smb_session.specs.Table.{TableState, session_at, knows_session, knows_tree}
use Rattle.smb_access.specs.Access.{is_past_reading, most_allowed}
use Rattle.smb_wire.specs.Access.{has_any, FILE_READ_DATA}
use Rattle.smb_tree.specs.Entries.{is_folder_kind}
use Rattle.smb_body.specs.QueryDirectory.{QueryDirectoryAsked}
use Rattle.smb_body.specs.Replies.{ReplyValue, answers_session_setup, answers_query_directory, answers_set_info, answers_lock}
use Rattle.smb_opens.specs.Scans.{scan_set}
use Rattle.smb_info.specs.Queries.{ListAsked}
use Rattle.smb_info.specs.OpenQueries.{open_list_fault, open_bytes_listed, open_scan_after}
use Rattle.smb_request.specs.declared.query_directory.ListingRefusal.{ListingRefusal}
use Rattle.smb_request.specs.Response.{ResponseState, CommandStep, with_body, failure, refused, through_open, unless_refused}
use Rattle.smb_request.specs.State.{ServerState}
use Rattle.smb_request.specs.QueryDirectory.{has_room_for_fields, listing_refusal}
use Rattle.smb_tree.specs.Content.{used_space}
use Rattle.smb_tree.specs.WholeNames.{entry_copied}
use Rattle.smb_body.specs.declared.query_info.QueryInfoRequest.{QueryInfoRequest}
use Rattle.smb_info.specs.declared.written.Truncation.{Truncation}
use Rattle.smb_info.specs.declared.written.Truncation.TheVariants.{Whole, Cut}
use Rattle.smb_info.specs.Information.{Information}
use Rattle.smb_info.specs.Parts.{fixed_length}
use Rattle.smb_info.specs.FileInformation.{file_information}
use Rattle.smb_info.specs.FileSystemInformation.{VolumeFacts, fs_information}
use Rattle.smb_opens.specs.State.{StoreState}
use Rattle.smb_session.specs.Negotiate.{best_of}
use Rattle.smb_wire.specs.Dialects.{revision_of}
use Rattle.smb_request.specs.Negotiate.{negotiate_answer}
use Rattle.smb_opens.specs.Locks.{lock_refusal, unlock_refusal, locked_through, unlocked_through}
use Rattle.smb_body.specs.Requests.{RequestValue, asks_negotiate}
use Rattle.smb_body.specs.Needs.{needs_of}
use Rattle.smb_request.specs.Request.{acted, check_request}
use Rattle.smb_body.specs.declared.tree_connect.TreeConnectResponse.{TreeConnectResponse}
use Rattle.smb_session.specs.Sessions.{SetupStep}
use Rattle.smb_opens.specs.Close.{closed_all}
use Rattle.smb_session.specs.Setup.{SetupResult}
use Rattle.smb_session.specs.declared.setup.SetupStatus.{SetupStatus}
use Rattle.smb_session.specs.declared.setup.SetupStatus.TheVariants.{Success as SetUp, MoreProcessingRequired, LogonFailure}
use Rattle.smb_info.specs.declared.set_info.SetInformationClass.{SetInformationClass}
use Rattle.smb_info.specs.SetInformation.{SetAsked, asks_basic, asks_rename, asks_mark, asks_allocation, asks_end, set_length, is_readable, asked_of}
use Rattle.smb_request.specs.InfoTypes.{FILE, FILESYSTEM, SECURITY, QUOTA}
use Rattle.smb_opens.specs.Renames.{rename_refusal, rename_status, renamed_through}
use Rattle.smb_opens.specs.SetInfo.{delete_refusal, delete_status, delete_set_through, size_refusal, size_status, size_set_through, basic_refusal, basic_status, basic_set_through}
use Rattle.std.specs.List.{list_all, list_any, fold}
use Rattle.smb_session.specs.Authenticator.{Meaning}

-- a length from the least to the greatest
abbrev pub is_between : ℕ → ℕ → ℕ → Bool
is_between least greatest n = nat_le least n && nat_le n greatest

-- the server with another store
abbrev pub with_store : {S : Type 0} → ServerState S → StoreState → ServerState S
with_store server store = record server { store = store }

-- the response to a request that succeeds, under the session and tree connect of the request
abbrev pub success : HeaderIds → ReplyValue → ResponseState
success ids reply = with_body ids Success reply

-- a FileId of all ones stands for the inherited open
abbrev pub is_all_ones : FileId → Bool
is_all_ones id = id.persistent == 2 ^ 64 - 1 && id.volatile == 2 ^ 64 - 1

-- sessions end one after the other: each one's opens are closed (3.3.7.1)
abbrev pub closed_with : StoreState → List ℕ → StoreState
closed_with store sessions =
    let close : StoreState → ℕ → StoreState = λ store session. closed_all store (Session session) in
    fold close store sessions

-- what a SESSION_SETUP is answered
abbrev pub setup_response : HeaderIds → SetupResult → SetupStatus → ResponseState
setup_response ids told SetUp = with_body ids Success
    (answers_session_setup (record { session_flags = record { 0 = told.flags }; security_buffer = told.token }))
setup_response ids told MoreProcessingRequired = with_body ids NtStatus.MoreProcessingRequired
    (answers_session_setup (record { session_flags = record { 0 = told.flags }; security_buffer = told.token }))
setup_response ids told LogonFailure = failure ids (Refusal.SessionSetup Denied)

-- why a request that names this open is refused (P6 to P8)
abbrev pub open_refusal : List OpenRow → HeaderIds → ContextOpen → Option RequestRefusal
open_refusal opens ids Nothing = Some NoOpenHandedOn
open_refusal opens ids (Refused status) = Some (CreateBeforeRefused status)
open_refusal opens ids (Named id) =
    if id.persistent == id.volatile
    && option_map_or (is_held_by (Tree ids.session_id ids.tree_id)) (open_of opens id.persistent) false
    then None else Some UnknownOpen

-- the open that a request inherits; one that is not related inherits none (3.3.5.2.7.2)
abbrev pub inherited_open : Context → List ℕ → Option ContextOpen
inherited_open context request = if is_related request then Some context.last_open else None

-- the open that a request names, by its FileId and by the open that it inherits
abbrev pub named_open : Call → Option ContextOpen
named_open call = option_map (open_named call.inherited) call.file_id

-- how many a request has to take that sends or asks for so many bytes: 1, and 1 more for each further 65,536 of them,
-- begun or whole ([MS-SMB2] 3.3.5.2.5)
abbrev pub due_of : ℕ → ℕ
due_of payload = (payload - 1) / 65536 + 1

-- the number of a named open; 0, which no open has, where none is named
abbrev pub number_named : Option ContextOpen → ℕ
number_named named = option_map_or
    (λ named. elim named [ Nothing ↦ 0 | Named id ↦ id.persistent | Refused status ↦ 0 ])
    named
    0

-- a CREATE hands on the open that it made, which has the next number, or the status that refused it
abbrev pub created_open : ℕ → NtStatus → ContextOpen
created_open next Success = Named (record { persistent = next; volatile = next })
created_open next status = Refused status

-- what a CREATE asks of the files, under a session, which may only read or write too, and a tree
abbrev pub file_asked : HeaderIds → CreateAsked → Bool → FileAsked
file_asked ids asked read_only = record {
  name = asked.name;
  access = asked.desired_access.0;
  attributes = asked.file_attributes.0;
  share = asked.share_access.0;
  disposition = asked.create_disposition.0;
  options = asked.create_options.0;
  session = ids.session_id;
  tree = ids.tree_id;
  read_only = read_only;
}

-- what a CREATE that succeeds is answered: no oplock, what was done, the entry as it stands afterwards, and as FileId
-- the open's number twice (2.2.14)
abbrev pub create_response : Created → CreateResponse
create_response done = record {
  oplock_level = record { 0 = 0 };
  create_action = done.action;
  creation_time = done.view.creation_time;
  last_access_time = done.view.last_access_time;
  last_write_time = done.view.last_write_time;
  change_time = done.view.change_time;
  allocation_size = done.view.allocation_size;
  end_of_file = done.view.size;
  file_attributes = done.view.attributes;
  file_id = record { persistent = done.number; volatile = done.number };
}

-- a FileId names an open of this session and tree: both its halves are the open's number (3.3.5.10)
abbrev pub names_open : List OpenRow → HeaderIds → FileId → Bool
names_open opens ids id =
    id.persistent == id.volatile
    && option_map_or (is_held_by (Tree ids.session_id ids.tree_id)) (open_of opens id.persistent) false

-- what a CLOSE is answered: with POSTQUERY_ATTRIB (1) set, what the open showed before, else zeros (2.2.16)
abbrev pub close_response : CloseFlags → View → CloseResponse
close_response flags view =
    if bit_and flags.0 1 == 0
    then record {
      flags = record { 0 = 0 };
      creation_time = 0;
      last_access_time = 0;
      last_write_time = 0;
      change_time = 0;
      allocation_size = 0;
      end_of_file = 0;
      file_attributes = record { 0 = 0 };
    }
    else record {
      flags = record { 0 = 1 };
      creation_time = view.creation_time;
      last_access_time = view.last_access_time;
      last_write_time = view.last_write_time;
      change_time = view.change_time;
      allocation_size = view.allocation_size;
      end_of_file = view.size;
      file_attributes = view.attributes;
    }

-- what the elements of a request ask (2.2.26.1)
abbrev pub lock_ask : LockElement → LockAsk
lock_ask element = record { offset = element.offset; length = element.length; flags = element.flags }

-- a request unlocks where its first element has UNLOCK (3.3.5.14)
abbrev pub asks_unlock : List LockAsk → Bool
asks_unlock asks =
    let unlocks : Bool = elim asks [ [] ↦ false | ask ∷ others ↦ bit_and ask.flags.0 UNLOCK == UNLOCK ] in
    unlocks

-- what needs a finished session, also where it needs more (3.3.5.2.9)
abbrev pub needs_session : Needs → Bool
needs_session needs = elim needs [ SessionNeed ↦ true | TreeNeed ↦ true | Open ↦ true | _ ↦ false ]

-- what needs a tree connect, also where it needs an open (3.3.5.2.11)
abbrev pub needs_tree : Needs → Bool
needs_tree needs = elim needs [ TreeNeed ↦ true | Open ↦ true | _ ↦ false ]

-- the commands that this server does not perform
abbrev pub is_unsupported : Command → Bool
is_unsupported command = elim command [ Ioctl ↦ true | ChangeNotify ↦ true | OplockBreak ↦ true | _ ↦ false ]

-- a CANCEL is passed over and not answered (3.3.5.16)
abbrev pub is_cancel_command : Option Command → Bool
is_cancel_command command = option_map_or (λ command. elim command [ Cancel ↦ true | _ ↦ false ]) command false

-- what the server can do in the dialect that is established: requests of several credits in 2.1,
-- SMB2_GLOBAL_CAP_LARGE_MTU ([MS-SMB2] 2.2.4)
abbrev pub capabilities_of : Option Dialect → ℕ
capabilities_of dialect = option_map_or (λ known. elim known [ Smb202 ↦ 0 | Smb210 ↦ 4 ]) dialect 0

-- a session is finished, and connected to a tree
abbrev pub has_tree : ℕ → SessionState → Bool
has_tree tree session = is_some session.user && contains session.trees tree

-- an open can only read: it has no right but those that may be granted to whoever may only read, and is not to delete
-- its entry
abbrev pub only_reads : OpenRow → Bool
only_reads row = not (is_past_reading row.access) && not row.delete_on_close

-- a session may have an open: it is finished, it has the open's tree, and where it may only read the open can only read
-- too
abbrev pub owns : OpenRow → SessionState → Bool
owns row session = has_tree row.tree session && (not session.read_only || only_reads row)

-- an open's owner stands
abbrev pub is_owned : TableState → OpenRow → Bool
is_owned table row = option_map_or (owns row) (session_at table row.session) false

-- what is asked of the directory (2.2.33)
abbrev pub list_asked_by : QueryDirectoryAsked → ListAsked
list_asked_by asked = record {
  class = asked.file_information_class.0;
  flags = asked.flags.0;
  pattern = asked.file_name;
  room = asked.output_buffer_length;
}

-- why an open may not list: it is not of a directory, or it was not granted FILE_LIST_DIRECTORY, the bit that is
-- FILE_READ_DATA of a file (2.2.13.1.2)
abbrev pub view_refusal : View → Option QueryDirectoryRefusal
view_refusal view =
    if not (is_folder_kind view.kind) then Some QueryDirectoryRefusal.EntryIsFile else
    if not (has_any view.access.0 FILE_READ_DATA) then Some ListNotGranted else None

-- why a query is refused before its class is looked at, the first that holds
abbrev pub directory_refusal : ℕ → Option View → QueryDirectoryAsked → Option QueryDirectoryRefusal
directory_refusal most view asked =
    if nat_lt most asked.output_buffer_length then Some QueryDirectoryRefusal.LengthTooGreat else
    option_map_or view_refusal view (Some QueryDirectoryRefusal.EntryIsFile)

-- a listing that is not refused: the entries, and the open's scan goes on behind them
abbrev pub directory_listed : {S : Type 0} → ServerState S → Call → ListAsked → CommandStep S
directory_listed server call ask = record {
  server = with_store server (scan_set server.store call.open_number (open_scan_after server.store call.open_number ask));
  response = success call.ids (answers_query_directory (open_bytes_listed server.store call.open_number ask));
}

-- one that is refused: but for the scan, all is as it was
abbrev pub listing_refused : {S : Type 0} → ServerState S → Call → ListingRefusal → CommandStep S
listing_refused server call refusal = record {
  server = option_map_or (λ scan. with_store server (scan_set server.store call.open_number scan)) refusal.scan server;
  response = failure call.ids (Refusal.QueryDirectory refusal.refusal);
}

-- what is listed, or why nothing is
abbrev pub listed_as_asked : {S : Type 0} → ServerState S → Call → ListAsked → CommandStep S
listed_as_asked server call ask = option_map_or
    (listing_refused server call)
    (option_and_then (listing_refusal (has_room_for_fields ask)) (open_list_fault server.store call.open_number ask))
    (directory_listed server call ask)

-- what the class of a number tells of the entry of an open, if there is such a class ([MS-FSCC] 2.4)
abbrev pub open_information : StoreState → ℕ → ℕ → Option Information
open_information store open_number class = option_and_then
    (λ (row : OpenRow). option_and_then (λ entry. file_information class entry row.access.0) (entry_copied store.tree.rows row.entry))
    (open_of store.opens open_number)

-- the share as a volume ([MS-FSCC] 2.5)
abbrev pub volume_of : {S : Type 0} → ServerState S → VolumeFacts
volume_of server = record {
  created = server.settings.created;
  label = server.settings.label;
  capacity = server.store.tree.capacity;
  used = used_space server.store.tree.rows;
}

-- what is asked for: of the entry of the open, or of the share as a volume
abbrev pub information_asked : {S : Type 0} → ServerState S → ℕ → QueryInfoRequest → Option Information
information_asked server open_number asked =
    if asked.info_type.0 == FILE
    then open_information server.store open_number asked.file_info_class.0
    else fs_information asked.file_info_class.0 (volume_of server)

-- why a request is refused whatever information it asks for, by the most bytes that it may ask for
abbrev pub request_refusal : ℕ → QueryInfoRequest → Option QueryInfoRefusal
request_refusal most asked =
    if asked.info_type.0 == SECURITY || asked.info_type.0 == QUOTA then Some QueryInfoRefusal.TypeNotSupported else
    if not (asked.info_type.0 == FILE || asked.info_type.0 == FILESYSTEM) then Some QueryInfoRefusal.UnknownType else
    if nat_lt most asked.output_buffer_length then Some QueryInfoRefusal.LengthTooGreat else None

-- why information is not given: there is no such class, or no room for its fixed part ([MS-FSCC] 2.4, 2.5)
abbrev pub room_refusal : Option Information → ℕ → Option QueryInfoRefusal
room_refusal information room = option_map_or
    (λ known. if nat_lt room (fixed_length known) then Some QueryInfoRefusal.NoRoomForFields else None)
    information
    (Some QueryInfoRefusal.UnknownClass)

-- the status of information that is returned: where it is cut, BUFFER_OVERFLOW, which is no failure (3.3.4.4)
abbrev pub written_status : Truncation → NtStatus
written_status written = elim written [ Whole ↦ Success | Cut ↦ BufferOverflow ]

-- the dialect of the connection afterwards: that by which a NEGOTIATE was answered
abbrev pub dialect_after : Option Dialect → RequestValue → Option Dialect
dialect_after dialect asked = elim asked [
  | asks_negotiate it ↦ option_map_or (λ best. Some best) (best_of it.dialects) dialect
  | _ ↦ dialect
]

-- why a request whose charge is enough is refused
abbrev pub check_session_tree_and_open : {S : Type 0} → ServerState S → Call → RequestValue → Option RequestRefusal
check_session_tree_and_open server call asked =
    -- P4. the SessionId is that of no finished session of the connection (3.3.5.2.9)
    if needs_session (needs_of asked) && not (knows_session server.sessions.table call.connection call.ids.session_id)
    then Some RequestRefusal.UnknownSession else
    -- P5. the TreeId is that of no tree connect of the session (3.3.5.2.11)
    if needs_tree (needs_of asked) && not (knows_tree server.sessions.table call.ids.session_id call.ids.tree_id)
    then Some UnknownTreeConnect else
    option_and_then (open_refusal server.store.opens call.ids) (named_open call)

-- where a session ended, its opens are closed
abbrev pub closed_for : StoreState → Option ℕ → StoreState
closed_for store ended = option_map_or (λ session. closed_all store (Session session)) ended store

-- SESSION_SETUP (3.3.5.5): the previous session ends with its opens
abbrev pub setup_answered : {S : Type 0} → ServerState S → HeaderIds → SetupStep S → CommandStep S
setup_answered server ids step = record {
  server = record server { sessions = step.state; store = closed_for server.store step.told.ended };
  response = setup_response (record ids { session_id = step.told.session }) step.told step.told.status;
}

-- what a tree is: a disk, without flags and capabilities, and with all access that a session can be granted (2.2.10)
abbrev pub tree_response : Bool → TreeConnectResponse
tree_response read_only = record {
  share_type = record { 0 = 1 };
  share_flags = record { 0 = 0 };
  capabilities = record { 0 = 0 };
  maximal_access = record { 0 = most_allowed read_only false };
}

-- why the store refuses what is asked of the entry of an open (3.3.5.21.1)
abbrev pub set_refusal : StoreState → ℕ → SetAsked → Option Refusal
set_refusal store open_number (asks_basic ask) = option_map (λ row. Refusal.SetBasic row) (basic_refusal store open_number ask)
set_refusal store open_number (asks_rename replace name) = option_map (λ row. Refusal.Rename row) (rename_refusal store open_number name replace)
set_refusal store open_number (asks_mark mark) = option_map (λ row. Refusal.SetDisposition row) (delete_refusal store open_number mark)
set_refusal store open_number (asks_allocation size) = option_map (λ row. Refusal.SetSize row) (size_refusal store open_number size)
set_refusal store open_number (asks_end size) = option_map (λ row. Refusal.SetSize row) (size_refusal store open_number size)

-- the status that the store gives it
abbrev pub set_status : StoreState → ℕ → SetAsked → NtStatus
set_status store open_number (asks_basic ask) = basic_status store open_number ask
set_status store open_number (asks_rename replace name) = rename_status store open_number name replace
set_status store open_number (asks_mark mark) = delete_status store open_number mark
set_status store open_number (asks_allocation size) = size_status store open_number size
set_status store open_number (asks_end size) = size_status store open_number size

-- the store with it set at a moment
abbrev pub set_through : StoreState → ℕ → ℕ → SetAsked → StoreState
set_through store open_number moment (asks_basic ask) = basic_set_through store open_number ask moment
set_through store open_number moment (asks_rename replace name) = renamed_through store open_number name moment
set_through store open_number moment (asks_mark mark) = delete_set_through store open_number mark
set_through store open_number moment (asks_allocation size) = size_set_through store open_number size true moment
set_through store open_number moment (asks_end size) = size_set_through store open_number size false moment

-- what is asked: a refusal changes nothing
abbrev pub set_as_asked : {S : Type 0} → ServerState S → Call → SetAsked → CommandStep S
set_as_asked server call ask = unless_refused server call.ids
    (through_open server.store call.open_number (set_refusal server.store call.open_number ask))
    (record {
      server = with_store server (set_through server.store call.open_number call.moment ask);
      response = success call.ids answers_set_info;
    })

-- a class that can be set, as its buffer asks ([MS-FSCC] 2.4)
abbrev pub class_set : {S : Type 0} → ServerState S → Call → List ℕ → SetInformationClass → CommandStep S
class_set server call buffer class =
    -- the buffer is shorter than the fixed part (3.3.5.21.1)
    if nat_lt (length buffer) (set_length class) then refused server call.ids (Refusal.SetInfo SetInfoRefusal.BufferTooShort) else
    -- a rename says no name ([MS-FSCC] 2.4.42)
    if not (is_readable buffer class) then refused server call.ids (Refusal.SetInfo SetInfoRefusal.RenameSaysNoName) else
    set_as_asked server call (asked_of buffer class)

-- why nothing is set of an InfoType, or None for that of a file or a directory
abbrev pub set_type_refusal : ℕ → Option SetInfoRefusal
set_type_refusal info_type =
    -- the share as a file system, a security descriptor, or quotas (3.3.5.21.2 to 3.3.5.21.4)
    if info_type == FILESYSTEM || info_type == SECURITY || info_type == QUOTA then Some SetInfoRefusal.TypeNotSupported else
    -- no InfoType (2.2.39)
    if not (info_type == FILE) then Some SetInfoRefusal.UnknownType else None

-- the characters that no name has: " * / : < > ? \ |
abbrev pub barred : List ℕ
barred = 34 ∷ 42 ∷ 47 ∷ 58 ∷ 60 ∷ 62 ∷ 63 ∷ 92 ∷ 124 ∷ []

-- a character that a share's name may have
abbrev pub is_share_character : ℕ → Bool
is_share_character c = is_between 0x21 0x7E c && not (list_any (λ b. b == c) barred)

-- a share's name: 1 to 80 such characters
abbrev pub is_share_name : List ℕ → Bool
is_share_name share = is_between 1 80 (length share) && list_all is_share_character share

-- a label: up to 32 printable characters
abbrev pub is_label : List ℕ → Bool
is_label label = nat_le (length label) 32 && list_all (is_between 0x20 0x7E) label

-- a capacity: a multiple of 4,096, from 4,096 to the greatest one
abbrev pub is_capacity : ℕ → ℕ → Bool
is_capacity greatest capacity = is_between 4096 greatest capacity && (capacity % 4096 == 0)

-- a connection is gone, and its sessions with their trees (3.3.7.1)
abbrev pub without_connection : TableState → ℕ → TableState
without_connection table connection = record table {
  connections = without_number table.connections connection;
  sessions = filter (λ e. not (e.1.connection == connection)) table.sessions;
}

-- what the elements of a request ask (2.2.26.1)
abbrev pub lock_asks : List LockElement → List LockAsk
lock_asks elements = map lock_ask elements

-- whether the authenticator has each session that it signs sign its requests
abbrev pub requires_of : {S : Type 0} → Meaning S → ServerState S → Bool
requires_of authenticator server = authenticator.requires_signing server.sessions.authenticator

-- the token that the authenticator offers first
abbrev pub hello_of : {S : Type 0} → Meaning S → ServerState S → List ℕ
hello_of authenticator server = authenticator.hello server.sessions.authenticator

-- a request other than CANCEL: it is refused by the first row that holds, or performed
abbrev pub performed_by : {S : Type 0} → Meaning S → ServerState S → Call → Option RequestValue → CommandStep S
performed_by authenticator server call body =
    if option_map_or is_unsupported call.command false then refused server call.ids (Refusal.Request CommandNotPerformed) else
    option_map_or
    (λ asked. unless_refused server call.ids
    (option_map (λ refusal. Refusal.Request refusal) (check_request server call asked))
    (acted authenticator server call asked))
    body
    (refused server call.ids (Refusal.Request (if is_none call.command then UnknownCommand else BodyUnreadable)))

-- NEGOTIATE (3.3.5.4): it is answered by the greatest dialect of the server's that its body lists
abbrev pub negotiated : {S : Type 0} → Meaning S → ServerState S → Call → List ℕ → CommandStep S
negotiated authenticator server call dialects = option_map_or
    (λ best. record {
      server = server;
      response = success call.ids (negotiate_answer
          (authenticator.requires_signing server.sessions.authenticator)
          server.settings.guid
          (authenticator.hello server.sessions.authenticator)
          call.moment
          (Some best)
          (revision_of best));
    })
    (best_of dialects)
    (refused server call.ids (Refusal.Negotiate NoDialect))

-- a LOCK that locks (3.3.5.14.2): a refusal changes nothing
abbrev pub file_locked : {S : Type 0} → ServerState S → Call → List LockAsk → CommandStep S
file_locked server call asks = unless_refused server call.ids
    (through_open server.store call.open_number (option_map (λ refusal. Refusal.Lock refusal) (lock_refusal server.store call.open_number asks)))
    (record {
      server = with_store server (locked_through server.store call.open_number asks);
      response = success call.ids answers_lock;
    })

-- a LOCK that unlocks (3.3.5.14.1): a refusal leaves the elements before it unlocked
abbrev pub file_unlocked : {S : Type 0} → ServerState S → Call → List LockAsk → CommandStep S
file_unlocked server call asks =
    let after = with_store server (unlocked_through server.store call.open_number asks) in
    unless_refused after call.ids (through_open server.store call.open_number (option_map (λ refusal. Refusal.Lock refusal) (unlock_refusal server.store call.open_number asks)))
    (record { server = after; response = success call.ids answers_lock })
