-- An example: a share with one file, `A`, of one byte, and an open of it by session 1; and requests.
use Rattle.std.proofs.Common.{◌≡◌, ℕ, List, [], ◌∷◌, ◌++◌, false, None, Some, bit_or}
use Rattle.smb_wire.specs.Access.{FILE_READ_DATA, FILE_WRITE_DATA}
use Rattle.smb_wire.specs.Fields.{joined}
use Rattle.smb_wire.specs.Limits.{default_limits}
use Rattle.smb_wire.specs.declared.file_id.FileId.{FileId}
use Rattle.smb_head.specs.Headers.{fields}
use Rattle.smb_head.specs.declared.header.Header.{Header}
use Rattle.smb_body.specs.Close.{close_fields}
use Rattle.smb_body.specs.Create.{create_fields, CreateAsked}
use Rattle.smb_body.specs.Flush.{flush_fields}
use Rattle.smb_body.specs.Lock.{LockAsked, lock_request_fields}
use Rattle.smb_body.specs.Locks.{lock_bytes}
use Rattle.smb_body.specs.Read.{read_fields}
use Rattle.smb_body.specs.Reserved.{reserved_fields}
use Rattle.smb_body.specs.SessionSetup.{session_setup_fields, SessionSetupAsked}
use Rattle.smb_body.specs.TreeConnect.{tree_connect_fields, TreeConnectAsked}
use Rattle.smb_body.specs.Write.{write_fields, WriteAsked}
use Rattle.smb_body.specs.declared.close.CloseRequest.{CloseRequest}
use Rattle.smb_body.specs.SetInfo.{SetInfoAsked, set_info_fields}
use Rattle.smb_body.specs.declared.flush.FlushRequest.{FlushRequest}
use Rattle.smb_body.specs.declared.read.ReadRequest.{ReadRequest}
use Rattle.smb_body.specs.declared.reserved.ReservedRequest.{ReservedRequest}
use Rattle.smb_tree.specs.declared.entry.Kind.TheVariants.{File, Folder}
use Rattle.smb_tree.specs.Entries.{Entry, new_entry}
use Rattle.smb_tree.specs.Parts.{new_basic}
use Rattle.smb_access.specs.declared.open_row.OpenRow.{OpenRow}
use Rattle.smb_access.specs.Parts.{no_scan}
use Rattle.smb_session.specs.Session.{SessionState}
use Rattle.smb_opens.specs.State.{StoreState}
use Rattle.smb_request.specs.State.{ServerState}

-- the file: it has number 2, and one byte, 7
abbrev pub file : Entry
file = record {
  number = 2;
  kind = File;
  spelling = 65 ∷ [];
  bytes = 7 ∷ [];
  basic = new_basic 0 0;
  mark = false;
}

-- open 1, of the file, by session 1 under its tree connect 1, which may read and write
abbrev pub opened : OpenRow
opened = record {
  number = 1;
  entry = 2;
  session = 1;
  tree = 1;
  access = record { 0 = bit_or FILE_READ_DATA FILE_WRITE_DATA };
  share = record { 0 = 0 };
  delete_on_close = false;
  scan = no_scan;
}

-- the root, which has number 1, the file in it, and the open
abbrev pub store : StoreState
store = record {
  tree = record {
    rows = ([], new_entry 1 [] Folder 0 0) ∷ ((65 ∷ []) ∷ [], file) ∷ [];
    next = 3;
    capacity = 8192;
    limits = default_limits;
  };
  opens = opened ∷ [];
  locks = [];
  next = 2;
}

-- a finished session of a connection, with these trees
abbrev pub session : ℕ → List ℕ → SessionState
session connection trees =
    record { connection = connection; user = Some []; read_only = false; signing = None; trees = trees; next_tree = 2 }

-- a share with these sessions, and with the file and the open
abbrev pub server : {S : Type 0} → S → List (ℕ × SessionState) → ServerState S
server accounts sessions = record {
  settings = record { share = []; label = []; guid = []; capacity = 8192; created = 0; limits = default_limits };
  sessions = record {
    authenticator = accounts;
    share = 66 ∷ [];
    table = record { connections = 1 ∷ 2 ∷ []; sessions = sessions; next = 3 };
  };
  store = store;
}

-- the header of a request: its command, its SessionId and its TreeId
abbrev pub header : ℕ → ℕ → ℕ → Header
header command session tree = record {
  credit_charge = 0;
  status = 0;
  command = record { 0 = command };
  credits = 1;
  flags = record { 0 = 0 };
  next_command = 0;
  message_id = 0;
  reserved = 0;
  tree_id = tree;
  session_id = session;
  signature = 0 ∷ 0 ∷ 0 ∷ 0 ∷ 0 ∷ 0 ∷ 0 ∷ 0 ∷ 0 ∷ 0 ∷ 0 ∷ 0 ∷ 0 ∷ 0 ∷ 0 ∷ 0 ∷ [];
}

abbrev file_id : FileId
file_id = record { persistent = 1; volatile = 1 }

-- a READ of one byte through open 1, from an offset on, under a session and a tree connect
abbrev pub read_asked : ℕ → ReadRequest
read_asked offset = record {
  padding = 0;
  flags = record { 0 = 0 };
  length = 1;
  offset = offset;
  file_id = file_id;
  minimum_count = 0;
  channel = record { 0 = 0 };
  remaining_bytes = 0;
  read_channel_info_offset = 0;
  read_channel_info_length = 0;
}

abbrev pub read_request_at : ℕ → ℕ → ℕ → List ℕ
read_request_at offset session tree =
    joined (fields (header 8 session tree)) ++ joined (read_fields (read_asked offset))

-- of the first byte
abbrev pub read_request : ℕ → ℕ → List ℕ
read_request = read_request_at 0

-- a WRITE of the byte 9 over it
abbrev pub write_asked : WriteAsked
write_asked = record {
  data_offset = 112;
  buffer = 9 ∷ [];
  offset = 0;
  file_id = file_id;
  channel = record { 0 = 0 };
  remaining_bytes = 0;
  write_channel_info_offset = 0;
  write_channel_info_length = 0;
  flags = record { 0 = 0 };
}

abbrev pub write_request : ℕ → ℕ → List ℕ
write_request session tree = joined (fields (header 9 session tree)) ++ joined (write_fields write_asked) ++ 9 ∷ []

-- a CLOSE of open 1
abbrev pub close_asked : CloseRequest
close_asked = record { flags = record { 0 = 0 }; reserved = 0; file_id = file_id }

abbrev pub close_request : ℕ → ℕ → List ℕ
close_request session tree = joined (fields (header 6 session tree)) ++ joined (close_fields close_asked)

-- a FLUSH of open 1
abbrev pub flush_asked : FlushRequest
flush_asked = record { reserved1 = 0; reserved2 = 0; file_id = file_id }

abbrev pub flush_request : ℕ → ℕ → List ℕ
flush_request session tree = joined (fields (header 7 session tree)) ++ joined (flush_fields flush_asked)

-- a LOCK of the first byte through open 1: exclusive, and at once or not at all
abbrev pub locking_asked : LockAsked
locking_asked = record {
  lock_sequence = record { 0 = 0 };
  file_id = file_id;
  locks = record { offset = 0; length = 1; flags = record { 0 = 0x12 }; reserved = 0 } ∷ [];
}

abbrev pub lock_request : ℕ → ℕ → List ℕ
lock_request session tree =
    joined (fields (header 10 session tree)) ++ joined (lock_request_fields locking_asked)
    ++ lock_bytes locking_asked.locks

-- a SET_INFO of FileEndOfFileInformation through open 1: the file has no bytes
abbrev pub end_asked : SetInfoAsked
end_asked = record {
  info_type = record { 0 = 1 };
  file_info_class = record { 0 = 20 };
  buffer = 0 ∷ 0 ∷ 0 ∷ 0 ∷ 0 ∷ 0 ∷ 0 ∷ 0 ∷ [];
  buffer_offset = 96;
  reserved = 0;
  additional_information = record { 0 = 0 };
  file_id = file_id;
}

abbrev pub end_request : ℕ → ℕ → List ℕ
end_request session tree =
    joined (fields (header 17 session tree)) ++ joined (set_info_fields end_asked) ++ end_asked.buffer

-- a CREATE of a new file `B`, to read it
abbrev pub create_asked : CreateAsked
create_asked = record {
  security_flags = record { 0 = 0 };
  requested_oplock_level = record { 0 = 0 };
  impersonation_level = record { 0 = 0 };
  smb_create_flags = record { 0 = 0 };
  reserved = 0;
  desired_access = record { 0 = FILE_READ_DATA };
  file_attributes = record { 0 = 0 };
  share_access = record { 0 = 0 };
  create_disposition = record { 0 = 2 };
  create_options = record { 0 = 0 };
  name_offset = 120;
  name = 66 ∷ [];
  create_contexts_offset = 0;
  create_contexts = [];
}

abbrev pub create_request : ℕ → ℕ → List ℕ
create_request session tree =
    joined (fields (header 5 session tree)) ++ joined (create_fields create_asked) ++ 66 ∷ 0 ∷ []

-- a TREE_CONNECT to the share `B` of the server `A`
abbrev pub connect_asked : TreeConnectAsked
connect_asked = record { reserved = 0; path_offset = 72; path = 92 ∷ 92 ∷ 65 ∷ 92 ∷ 66 ∷ [] }

abbrev pub connect_request : ℕ → List ℕ
connect_request session =
    joined (fields (header 3 session 0)) ++ joined (tree_connect_fields connect_asked)
    ++ 92 ∷ 0 ∷ 92 ∷ 0 ∷ 65 ∷ 0 ∷ 92 ∷ 0 ∷ 66 ∷ 0 ∷ []

-- what a LOGOFF, a TREE_DISCONNECT and an ECHO ask
abbrev pub nothing_asked : ReservedRequest
nothing_asked = record { reserved = 0 }

-- a TREE_DISCONNECT
abbrev pub disconnect_request : ℕ → ℕ → List ℕ
disconnect_request session tree =
    joined (fields (header 4 session tree)) ++ joined (reserved_fields nothing_asked)

-- a LOGOFF
abbrev pub logoff_request : ℕ → List ℕ
logoff_request session = joined (fields (header 2 session 0)) ++ joined (reserved_fields nothing_asked)

-- an ECHO
abbrev pub echo_request : List ℕ
echo_request = joined (fields (header 13 0 0)) ++ joined (reserved_fields nothing_asked)

-- a SESSION_SETUP without a token
abbrev pub setup_asked : SessionSetupAsked
setup_asked = record {
  flags = record { 0 = 0 };
  security_mode = record { 0 = 0 };
  capabilities = record { 0 = 0 };
  channel = record { 0 = 0 };
  security_buffer_offset = 88;
  security_buffer = [];
  previous_session_id = 0;
}

abbrev pub setup_request : ℕ → List ℕ
setup_request session = joined (fields (header 1 session 0)) ++ joined (session_setup_fields setup_asked)

-- one byte is another
pub byte_is : (a b : ℕ) → a ∷ [] ≡ b ∷ [] → a ≡ b
byte_is a b e = cc
