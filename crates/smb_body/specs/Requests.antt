-- Requests of all commands ([MS-SMB2] 2.2).
use Rattle.std.specs.Prelude.{◌≡◌, ℕ, ◌<◌, List, ◌++◌, length, Bool, false, nat_eq, nat_lt, ◌||◌, Option, Some, None, if◌then◌else◌, ◌↔◌}
use Rattle.std.specs.Option.{option_map}
use Rattle.smb_wire.specs.Fields.{AllStand, joined}
use Rattle.smb_body.specs.Buffers.{body}
use Rattle.smb_body.specs.Negotiate.{NegotiateAsked, negotiate_asked, SaysNegotiate, negotiate_in, negotiate_spelling, FitsNegotiate}
use Rattle.smb_body.specs.SessionSetup.{SessionSetupAsked, session_setup_asked, SaysSessionSetup, session_setup_in, session_setup_laid, session_setup_spelling, FitsSessionSetup}
use Rattle.smb_body.specs.Reserved.{reserved_fields, reserved_in, FitsReserved}
use Rattle.smb_body.specs.TreeConnect.{TreeConnectAsked, tree_connect_asked, SaysTreeConnect, tree_connect_in, tree_connect_laid, tree_connect_spelling, FitsTreeConnect}
use Rattle.smb_body.specs.Create.{CreateAsked, create_asked, SaysCreate, create_in, create_laid, create_spelling, FitsCreate}
use Rattle.smb_body.specs.Close.{close_fields, close_in, FitsClose}
use Rattle.smb_body.specs.Flush.{flush_fields, flush_in, FitsFlush}
use Rattle.smb_body.specs.Read.{read_fields, read_in, FitsRead}
use Rattle.smb_body.specs.Write.{WriteAsked, write_asked, SaysWrite, write_in, write_laid, write_spelling, FitsWrite}
use Rattle.smb_body.specs.Lock.{LockAsked, lock_asked, SaysLock, lock_in, lock_spelling, FitsLock}
use Rattle.smb_body.specs.QueryDirectory.{QueryDirectoryAsked, query_directory_asked, SaysQueryDirectory, query_directory_in, query_directory_laid, query_directory_spelling, FitsQueryDirectory}
use Rattle.smb_body.specs.QueryInfo.{query_info_fields, query_info_in, FitsQueryInfo}
use Rattle.smb_body.specs.SetInfo.{SetInfoAsked, set_info_asked, SaysSetInfo, set_info_in, set_info_laid, set_info_spelling, FitsSetInfo}
use Rattle.smb_wire.specs.declared.file_id.FileId.{FileId}
use Rattle.smb_body.specs.declared.reserved.ReservedRequest.{ReservedRequest}
use Rattle.smb_body.specs.declared.close.CloseRequest.{CloseRequest}
use Rattle.smb_body.specs.declared.flush.FlushRequest.{FlushRequest}
use Rattle.smb_body.specs.declared.read.ReadRequest.{ReadRequest}
use Rattle.smb_body.specs.declared.query_info.QueryInfoRequest.{QueryInfoRequest}
use Rattle.smb_body.specs.declared.request.Request.{Request}
use Rattle.smb_body.specs.declared.request.Request.TheVariants.{Negotiate, SessionSetup, Logoff, TreeConnect, TreeDisconnect, Create, Close, Flush, Read, Write, Lock, Cancel, Echo, QueryDirectory, QueryInfo, SetInfo}

-- a request, without where its parts lie in memory
pub data RequestValue : Type 0 where
  asks_negotiate : NegotiateAsked → RequestValue
  asks_session_setup : SessionSetupAsked → RequestValue
  asks_logoff : ReservedRequest → RequestValue
  asks_tree_connect : TreeConnectAsked → RequestValue
  asks_tree_disconnect : ReservedRequest → RequestValue
  asks_create : CreateAsked → RequestValue
  asks_close : CloseRequest → RequestValue
  asks_flush : FlushRequest → RequestValue
  asks_read : ReadRequest → RequestValue
  asks_write : WriteAsked → RequestValue
  asks_lock : LockAsked → RequestValue
  asks_cancel : ReservedRequest → RequestValue
  asks_echo : ReservedRequest → RequestValue
  asks_query_directory : QueryDirectoryAsked → RequestValue
  asks_query_info : QueryInfoRequest → RequestValue
  asks_set_info : SetInfoAsked → RequestValue

-- a request's value
abbrev pub request_value : Request → RequestValue
request_value (Negotiate r) = asks_negotiate (negotiate_asked r)
request_value (SessionSetup r) = asks_session_setup (session_setup_asked r)
request_value (Logoff r) = asks_logoff r
request_value (TreeConnect r) = asks_tree_connect (tree_connect_asked r)
request_value (TreeDisconnect r) = asks_tree_disconnect r
request_value (Create r) = asks_create (create_asked r)
request_value (Close r) = asks_close r
request_value (Flush r) = asks_flush r
request_value (Read r) = asks_read r
request_value (Write r) = asks_write (write_asked r)
request_value (Lock r) = asks_lock (lock_asked r)
request_value (Cancel r) = asks_cancel r
request_value (Echo r) = asks_echo r
request_value (QueryDirectory r) = asks_query_directory (query_directory_asked r)
request_value (QueryInfo r) = asks_query_info r
request_value (SetInfo r) = asks_set_info (set_info_asked r)

-- the number of its command ([MS-SMB2] 2.2.1)
abbrev pub command_of : RequestValue → ℕ
command_of (asks_negotiate a) = 0
command_of (asks_session_setup a) = 1
command_of (asks_logoff a) = 2
command_of (asks_tree_connect a) = 3
command_of (asks_tree_disconnect a) = 4
command_of (asks_create a) = 5
command_of (asks_close a) = 6
command_of (asks_flush a) = 7
command_of (asks_read a) = 8
command_of (asks_write a) = 9
command_of (asks_lock a) = 10
command_of (asks_cancel a) = 12
command_of (asks_echo a) = 13
command_of (asks_query_directory a) = 14
command_of (asks_query_info a) = 16
command_of (asks_set_info a) = 17

-- the FileId that it names, where it acts on an open
abbrev pub file_id_of : RequestValue → Option FileId
file_id_of (asks_negotiate a) = None
file_id_of (asks_session_setup a) = None
file_id_of (asks_logoff a) = None
file_id_of (asks_tree_connect a) = None
file_id_of (asks_tree_disconnect a) = None
file_id_of (asks_create a) = None
file_id_of (asks_close a) = Some a.file_id
file_id_of (asks_flush a) = Some a.file_id
file_id_of (asks_read a) = Some a.file_id
file_id_of (asks_write a) = Some a.file_id
file_id_of (asks_lock a) = Some a.file_id
file_id_of (asks_cancel a) = None
file_id_of (asks_echo a) = None
file_id_of (asks_query_directory a) = Some a.file_id
file_id_of (asks_query_info a) = Some a.file_id
file_id_of (asks_set_info a) = Some a.file_id

-- how many bytes it sends or asks for, by which it is charged: Length in READ and WRITE, OutputBufferLength in QUERY_INFO
-- and QUERY_DIRECTORY, BufferLength in SET_INFO, and 0 in all others ([MS-SMB2] 3.3.5.2.5)
abbrev pub payload_of : RequestValue → ℕ
payload_of (asks_read a) = a.length
payload_of (asks_write a) = length a.buffer
payload_of (asks_query_directory a) = a.output_buffer_length
payload_of (asks_query_info a) = a.output_buffer_length
payload_of (asks_set_info a) = length a.buffer
payload_of _ = 0

-- the bytes of a request, its header among them, say this in its body
abbrev pub SaysBody : List ℕ → RequestValue → Type 0
SaysBody request (asks_negotiate a) = SaysNegotiate request a
SaysBody request (asks_session_setup a) = SaysSessionSetup request a
SaysBody request (asks_logoff a) = AllStand (body request) (reserved_fields a)
SaysBody request (asks_tree_connect a) = SaysTreeConnect request a
SaysBody request (asks_tree_disconnect a) = AllStand (body request) (reserved_fields a)
SaysBody request (asks_create a) = SaysCreate request a
SaysBody request (asks_close a) = AllStand (body request) (close_fields a)
SaysBody request (asks_flush a) = AllStand (body request) (flush_fields a)
SaysBody request (asks_read a) = AllStand (body request) (read_fields a)
SaysBody request (asks_write a) = SaysWrite request a
SaysBody request (asks_lock a) = SaysLock request a
SaysBody request (asks_cancel a) = AllStand (body request) (reserved_fields a)
SaysBody request (asks_echo a) = AllStand (body request) (reserved_fields a)
SaysBody request (asks_query_directory a) = SaysQueryDirectory request a
SaysBody request (asks_query_info a) = AllStand (body request) (query_info_fields a)
SaysBody request (asks_set_info a) = SaysSetInfo request a

-- a request of this command says this
pub record SaysRequest (command : ℕ) (request : List ℕ) (v : RequestValue) : Type 0 where
  pub kind : command_of v ≡ command
  pub says : SaysBody request v

-- what a request of a command says; IOCTL, CHANGE_NOTIFY, OPLOCK_BREAK and numbers without a command say nothing
unfoldable pub request_of : ℕ → List ℕ → Option RequestValue
request_of command request =
    if nat_eq command 0 then option_map asks_negotiate (negotiate_in request) else
    if nat_eq command 1 then option_map asks_session_setup (session_setup_in request) else
    if nat_eq command 2 then option_map asks_logoff (reserved_in request) else
    if nat_eq command 3 then option_map asks_tree_connect (tree_connect_in request) else
    if nat_eq command 4 then option_map asks_tree_disconnect (reserved_in request) else
    if nat_eq command 5 then option_map asks_create (create_in request) else
    if nat_eq command 6 then option_map asks_close (close_in request) else
    if nat_eq command 7 then option_map asks_flush (flush_in request) else
    if nat_eq command 8 then option_map asks_read (read_in request) else
    if nat_eq command 9 then option_map asks_write (write_in request) else
    if nat_eq command 10 then option_map asks_lock (lock_in request) else
    if nat_eq command 12 then option_map asks_cancel (reserved_in request) else
    if nat_eq command 13 then option_map asks_echo (reserved_in request) else
    if nat_eq command 14 then option_map asks_query_directory (query_directory_in request) else
    if nat_eq command 16 then option_map asks_query_info (query_info_in request) else
    if nat_eq command 17 then option_map asks_set_info (set_info_in request) else
    None

-- the same but for layout: the offsets of checked buffers as a writer sets them
abbrev pub request_laid : RequestValue → RequestValue
request_laid (asks_negotiate a) = asks_negotiate a
request_laid (asks_session_setup a) = asks_session_setup (session_setup_laid a)
request_laid (asks_logoff a) = asks_logoff a
request_laid (asks_tree_connect a) = asks_tree_connect (tree_connect_laid a)
request_laid (asks_tree_disconnect a) = asks_tree_disconnect a
request_laid (asks_create a) = asks_create (create_laid a)
request_laid (asks_close a) = asks_close a
request_laid (asks_flush a) = asks_flush a
request_laid (asks_read a) = asks_read a
request_laid (asks_write a) = asks_write (write_laid a)
request_laid (asks_lock a) = asks_lock a
request_laid (asks_cancel a) = asks_cancel a
request_laid (asks_echo a) = asks_echo a
request_laid (asks_query_directory a) = asks_query_directory (query_directory_laid a)
request_laid (asks_query_info a) = asks_query_info a
request_laid (asks_set_info a) = asks_set_info (set_info_laid a)

-- two values differ in nothing but offsets of checked buffers
abbrev pub SameButForLayout : RequestValue → RequestValue → Type 0
SameButForLayout v w = request_laid v ≡ request_laid w

-- the one spelling of a body
abbrev pub request_spelling : RequestValue → List ℕ
request_spelling (asks_negotiate a) = negotiate_spelling a
request_spelling (asks_session_setup a) = session_setup_spelling a
request_spelling (asks_logoff a) = joined (reserved_fields a)
request_spelling (asks_tree_connect a) = tree_connect_spelling a
request_spelling (asks_tree_disconnect a) = joined (reserved_fields a)
request_spelling (asks_create a) = create_spelling a
request_spelling (asks_close a) = joined (close_fields a)
request_spelling (asks_flush a) = joined (flush_fields a)
request_spelling (asks_read a) = joined (read_fields a)
request_spelling (asks_write a) = write_spelling a
request_spelling (asks_lock a) = lock_spelling a
request_spelling (asks_cancel a) = joined (reserved_fields a)
request_spelling (asks_echo a) = joined (reserved_fields a)
request_spelling (asks_query_directory a) = query_directory_spelling a
request_spelling (asks_query_info a) = joined (query_info_fields a)
request_spelling (asks_set_info a) = set_info_spelling a

-- each number fits its field
abbrev pub FitsRequest : RequestValue → Type 0
FitsRequest (asks_negotiate a) = FitsNegotiate a
FitsRequest (asks_session_setup a) = FitsSessionSetup a
FitsRequest (asks_logoff a) = FitsReserved a
FitsRequest (asks_tree_connect a) = FitsTreeConnect a
FitsRequest (asks_tree_disconnect a) = FitsReserved a
FitsRequest (asks_create a) = FitsCreate a
FitsRequest (asks_close a) = FitsClose a
FitsRequest (asks_flush a) = FitsFlush a
FitsRequest (asks_read a) = FitsRead a
FitsRequest (asks_write a) = FitsWrite a
FitsRequest (asks_lock a) = FitsLock a
FitsRequest (asks_cancel a) = FitsReserved a
FitsRequest (asks_echo a) = FitsReserved a
FitsRequest (asks_query_directory a) = FitsQueryDirectory a
FitsRequest (asks_query_info a) = FitsQueryInfo a
FitsRequest (asks_set_info a) = FitsSetInfo a

-- a length or a count passes its field, of two bytes, or of four in a WRITE, a SET_INFO and the contexts of a CREATE; of
-- a text the field counts bytes, two for each unit
abbrev pub is_too_long : RequestValue → Bool
is_too_long (asks_negotiate a) = nat_lt 65535 (length a.dialects)
is_too_long (asks_session_setup a) = nat_lt 65535 (length a.security_buffer)
is_too_long (asks_tree_connect a) = nat_lt 32767 (length a.path)
is_too_long (asks_create a) = nat_lt 32767 (length a.name) || nat_lt 4294967295 (length a.create_contexts)
is_too_long (asks_write a) = nat_lt 4294967295 (length a.buffer)
is_too_long (asks_lock a) = nat_lt 65535 (length a.locks)
is_too_long (asks_query_directory a) = nat_lt 32767 (length a.file_name)
is_too_long (asks_set_info a) = nat_lt 4294967295 (length a.buffer)
is_too_long _ = false

-- a list that may not be empty is not: the dialects of a NEGOTIATE, the elements of a LOCK
abbrev pub HasElements : RequestValue → Type 0
HasElements (asks_negotiate a) = 0 < length a.dialects
HasElements (asks_lock a) = 0 < length a.locks
HasElements _ = Unit {0}

-- what was written is read behind any header, the same but for layout
abbrev pub IsReadBack : RequestValue → Type 0
IsReadBack v =
    (header : List ℕ) → length header ≡ 64 → HasElements v →
    SaysRequest (command_of v) (header ++ request_spelling v) (request_laid v)

-- a request of a command says one value at most, that which `request_of` gives
abbrev pub RequestsAreTold : Type 0
RequestsAreTold =
    (command : ℕ) (request : List ℕ) (v : RequestValue) → SaysRequest command request v ↔ (request_of command request ≡ Some v)

-- what a writer sets is layout alone
abbrev pub LaidIsTheSame : Type 0
LaidIsTheSame = (v : RequestValue) → SameButForLayout (request_laid v) v
