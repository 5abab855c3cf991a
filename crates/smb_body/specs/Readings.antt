-- For the proofs; nothing here need be believed.
-- What requests say, for each command in two parts: whether they say anything, and what; and parts of other definitions.
use Rattle.std.specs.Prelude.{ℕ, ◌+◌, ◌*◌, List, length, take, drop, Bool, nat_le, nat_lt, ◌&&◌, ◌%◌, nat_eq, ◌/◌, map, [], ◌∷◌, Option, ◌||◌}
use Rattle.smb_wire.specs.Fields.{number_in, AllStand}
use Rattle.smb_wire.specs.Pairs.{units_in}
use Rattle.smb_body.specs.Buffers.{body, has_fixed_part, is_within, file_id_at}
use Rattle.smb_body.specs.Negotiate.{NegotiateAsked, NegotiateAnswered}
use Rattle.smb_body.specs.SessionSetup.{SessionSetupAsked, SessionSetupAnswered}
use Rattle.smb_body.specs.declared.reserved.ReservedRequest.{ReservedRequest}
use Rattle.smb_body.specs.TreeConnect.{TreeConnectAsked}
use Rattle.smb_body.specs.Create.{CreateAsked}
use Rattle.smb_body.specs.declared.close.CloseRequest.{CloseRequest}
use Rattle.smb_body.specs.declared.flush.FlushRequest.{FlushRequest}
use Rattle.smb_body.specs.declared.read.ReadRequest.{ReadRequest}
use Rattle.smb_body.specs.Write.{WriteAsked}
use Rattle.smb_body.specs.LockLists.{lock_at}
use Rattle.smb_body.specs.Lock.{LockAsked}
use Rattle.smb_body.specs.QueryDirectory.{QueryDirectoryAsked}
use Rattle.smb_body.specs.declared.query_info.QueryInfoRequest.{QueryInfoRequest}
use Rattle.smb_body.specs.SetInfo.{SetInfoAsked}
use Rattle.std.specs.Simd.{first_chunks}
use Rattle.smb_body.specs.declared.lock_element.LockElement.{LockElement}
use Rattle.std.specs.Cmp.Lexicographic.{pointwise}
use Rattle.smb_body.specs.Smb1.{texts_of}
use Rattle.smb_body.specs.Read.{read_fields}
use Rattle.smb_body.specs.Close.{close_fields}
use Rattle.smb_body.specs.Flush.{flush_fields}
use Rattle.smb_body.specs.QueryInfo.{query_info_fields}
use Rattle.smb_body.specs.Reserved.{reserved_fields}

-- the bytes that an offset and a length name; offsets of buffers count from the header's first byte
abbrev pub slice : ℕ → ℕ → List ℕ → List ℕ
slice offset size request = take size (drop offset request)

-- the elements that bytes say, 24 bytes each; bytes left over say none
abbrev pub locks_in : List ℕ → List LockElement
locks_in bytes = map lock_at (first_chunks 24 (length bytes / 24) bytes)

-- 0xFF, the letters SMB and the command 0x72
abbrev pub smb1_head : List ℕ
smb1_head = 255 ∷ 83 ∷ 77 ∷ 66 ∷ 114 ∷ []

-- the bytes of the list
abbrev pub list_bytes : List ℕ → List ℕ
list_bytes payload = take (number_in 2 33 payload) (drop 35 payload)

-- the texts of a list; none where bytes are no list
abbrev pub texts_in : List ℕ → Option (List (List ℕ))
texts_in bytes = (texts_of bytes).0

-- whether the parts round the list are right
abbrev pub is_smb1 : List ℕ → Bool
is_smb1 payload =
    nat_le 35 (length payload)
    && pointwise nat_eq (take 5 payload) smb1_head
    && nat_eq (number_in 1 32 payload) 0
    && nat_le (35 + number_in 2 33 payload) (length payload)

-- whether a request says anything
abbrev pub is_negotiate : List ℕ → Bool
is_negotiate request =
    has_fixed_part 36 36 request
    && nat_lt 0 (number_in 2 2 (body request))
    && nat_le (36 + 2 * number_in 2 2 (body request)) (length (body request))

-- what a request says, if it says anything
abbrev pub negotiate_of : List ℕ → NegotiateAsked
negotiate_of request = record {
  security_mode = record { 0 = number_in 2 4 (body request) };
  reserved = number_in 2 6 (body request);
  capabilities = record { 0 = number_in 4 8 (body request) };
  client_guid = record { 0 = take 16 (drop 12 (body request)) };
  client_start_time = number_in 8 28 (body request);
  dialects = units_in (take (2 * number_in 2 2 (body request)) (drop 36 (body request)));
}

-- whether a request says anything
abbrev pub is_session_setup : List ℕ → Bool
is_session_setup request =
    has_fixed_part 24 25 request
    && is_within (64 + 24) (number_in 2 12 (body request)) (number_in 2 14 (body request)) request

-- what a request says, if it says anything
abbrev pub session_setup_of : List ℕ → SessionSetupAsked
session_setup_of request = record {
  flags = record { 0 = number_in 1 2 (body request) };
  security_mode = record { 0 = number_in 1 3 (body request) };
  capabilities = record { 0 = number_in 4 4 (body request) };
  channel = record { 0 = number_in 4 8 (body request) };
  security_buffer_offset = number_in 2 12 (body request);
  security_buffer = slice (number_in 2 12 (body request)) (number_in 2 14 (body request)) request;
  previous_session_id = number_in 8 16 (body request);
}

-- whether a request says anything
abbrev pub is_reserved : List ℕ → Bool
is_reserved = has_fixed_part 4 4

-- what a request says, if it says anything
abbrev pub reserved_of : List ℕ → ReservedRequest
reserved_of request = record { reserved = number_in 2 2 (body request) }

-- whether a request says anything
abbrev pub is_tree_connect : List ℕ → Bool
is_tree_connect request =
    has_fixed_part 8 9 request
    && nat_eq (number_in 2 6 (body request) % 2) 0
    && is_within (64 + 8) (number_in 2 4 (body request)) (number_in 2 6 (body request)) request

-- what a request says, if it says anything
abbrev pub tree_connect_of : List ℕ → TreeConnectAsked
tree_connect_of request = record {
  reserved = number_in 2 2 (body request);
  path_offset = number_in 2 4 (body request);
  path = units_in (slice (number_in 2 4 (body request)) (number_in 2 6 (body request)) request);
}

-- whether a request says anything
abbrev pub is_create : List ℕ → Bool
is_create request =
    has_fixed_part 56 57 request
    && nat_eq (number_in 2 46 (body request) % 2) 0
    && is_within (64 + 56) (number_in 2 44 (body request)) (number_in 2 46 (body request)) request
    && is_within (64 + 56) (number_in 4 48 (body request)) (number_in 4 52 (body request)) request

-- what a request says, if it says anything
abbrev pub create_of : List ℕ → CreateAsked
create_of request = record {
  security_flags = record { 0 = number_in 1 2 (body request) };
  requested_oplock_level = record { 0 = number_in 1 3 (body request) };
  impersonation_level = record { 0 = number_in 4 4 (body request) };
  smb_create_flags = record { 0 = number_in 8 8 (body request) };
  reserved = number_in 8 16 (body request);
  desired_access = record { 0 = number_in 4 24 (body request) };
  file_attributes = record { 0 = number_in 4 28 (body request) };
  share_access = record { 0 = number_in 4 32 (body request) };
  create_disposition = record { 0 = number_in 4 36 (body request) };
  create_options = record { 0 = number_in 4 40 (body request) };
  name_offset = number_in 2 44 (body request);
  name = units_in (slice (number_in 2 44 (body request)) (number_in 2 46 (body request)) request);
  create_contexts_offset = number_in 4 48 (body request);
  create_contexts = slice (number_in 4 48 (body request)) (number_in 4 52 (body request)) request;
}

-- whether a request says anything
abbrev pub is_close : List ℕ → Bool
is_close = has_fixed_part 24 24

-- what a request says, if it says anything
abbrev pub close_of : List ℕ → CloseRequest
close_of request = record {
  flags = record { 0 = number_in 2 2 (body request) };
  reserved = number_in 4 4 (body request);
  file_id = file_id_at 8 (body request);
}

-- whether a request says anything
abbrev pub is_flush : List ℕ → Bool
is_flush = has_fixed_part 24 24

-- what a request says, if it says anything
abbrev pub flush_of : List ℕ → FlushRequest
flush_of request = record {
  reserved1 = number_in 2 2 (body request);
  reserved2 = number_in 4 4 (body request);
  file_id = file_id_at 8 (body request);
}

-- whether a request says anything
abbrev pub is_read : List ℕ → Bool
is_read = has_fixed_part 48 49

-- what a request says, if it says anything
abbrev pub read_of : List ℕ → ReadRequest
read_of request = record {
  padding = number_in 1 2 (body request);
  flags = record { 0 = number_in 1 3 (body request) };
  length = number_in 4 4 (body request);
  offset = number_in 8 8 (body request);
  file_id = file_id_at 16 (body request);
  minimum_count = number_in 4 32 (body request);
  channel = record { 0 = number_in 4 36 (body request) };
  remaining_bytes = number_in 4 40 (body request);
  read_channel_info_offset = number_in 2 44 (body request);
  read_channel_info_length = number_in 2 46 (body request);
}

-- whether a request says anything
abbrev pub is_write : List ℕ → Bool
is_write request =
    has_fixed_part 48 49 request
    && is_within (64 + 48) (number_in 2 2 (body request)) (number_in 4 4 (body request)) request

-- what a request says, if it says anything
abbrev pub write_of : List ℕ → WriteAsked
write_of request = record {
  data_offset = number_in 2 2 (body request);
  buffer = slice (number_in 2 2 (body request)) (number_in 4 4 (body request)) request;
  offset = number_in 8 8 (body request);
  file_id = file_id_at 16 (body request);
  channel = record { 0 = number_in 4 32 (body request) };
  remaining_bytes = number_in 4 36 (body request);
  write_channel_info_offset = number_in 2 40 (body request);
  write_channel_info_length = number_in 2 42 (body request);
  flags = record { 0 = number_in 4 44 (body request) };
}

-- whether a request says anything
abbrev pub is_lock : List ℕ → Bool
is_lock request =
    has_fixed_part 24 48 request
    && nat_lt 0 (number_in 2 2 (body request))
    && nat_le (24 + 24 * number_in 2 2 (body request)) (length (body request))

-- what a request says, if it says anything
abbrev pub lock_of : List ℕ → LockAsked
lock_of request = record {
  lock_sequence = record { 0 = number_in 4 4 (body request) };
  file_id = file_id_at 8 (body request);
  locks = map lock_at (first_chunks 24 (number_in 2 2 (body request)) (drop 24 (body request)));
}

-- whether a request says anything
abbrev pub is_query_directory : List ℕ → Bool
is_query_directory request =
    has_fixed_part 32 33 request
    && nat_eq (number_in 2 26 (body request) % 2) 0
    && is_within (64 + 32) (number_in 2 24 (body request)) (number_in 2 26 (body request)) request

-- what a request says, if it says anything
abbrev pub query_directory_of : List ℕ → QueryDirectoryAsked
query_directory_of request = record {
  file_information_class = record { 0 = number_in 1 2 (body request) };
  flags = record { 0 = number_in 1 3 (body request) };
  file_index = number_in 4 4 (body request);
  file_id = file_id_at 8 (body request);
  file_name_offset = number_in 2 24 (body request);
  file_name = units_in (slice (number_in 2 24 (body request)) (number_in 2 26 (body request)) request);
  output_buffer_length = number_in 4 28 (body request);
}

-- whether a request says anything
abbrev pub is_query_info : List ℕ → Bool
is_query_info = has_fixed_part 40 41

-- what a request says, if it says anything
abbrev pub query_info_of : List ℕ → QueryInfoRequest
query_info_of request = record {
  info_type = record { 0 = number_in 1 2 (body request) };
  file_info_class = record { 0 = number_in 1 3 (body request) };
  output_buffer_length = number_in 4 4 (body request);
  input_buffer_offset = number_in 2 8 (body request);
  reserved = number_in 2 10 (body request);
  input_buffer_length = number_in 4 12 (body request);
  additional_information = record { 0 = number_in 4 16 (body request) };
  flags = record { 0 = number_in 4 20 (body request) };
  file_id = file_id_at 24 (body request);
}

-- whether a request says anything
abbrev pub is_set_info : List ℕ → Bool
is_set_info request =
    has_fixed_part 32 33 request
    && is_within (64 + 32) (number_in 2 8 (body request)) (number_in 4 4 (body request)) request

-- what a request says, if it says anything
abbrev pub set_info_of : List ℕ → SetInfoAsked
set_info_of request = record {
  info_type = record { 0 = number_in 1 2 (body request) };
  file_info_class = record { 0 = number_in 1 3 (body request) };
  buffer = slice (number_in 2 8 (body request)) (number_in 4 4 (body request)) request;
  buffer_offset = number_in 2 8 (body request);
  reserved = number_in 2 10 (body request);
  additional_information = record { 0 = number_in 4 12 (body request) };
  file_id = file_id_at 16 (body request);
}

-- a length passes its field
abbrev pub is_negotiate_too_long : NegotiateAsked → Bool
is_negotiate_too_long a = nat_lt 65535 (length a.dialects)

-- the length of a response's buffer passes its field
abbrev pub is_negotiate_response_too_long : NegotiateAnswered → Bool
is_negotiate_response_too_long a = nat_lt 65535 (length a.security_buffer)

-- a length passes its field
abbrev pub is_session_setup_too_long : SessionSetupAsked → Bool
is_session_setup_too_long a = nat_lt 65535 (length a.security_buffer)

-- the length of a response's buffer passes its field
abbrev pub is_session_setup_response_too_long : SessionSetupAnswered → Bool
is_session_setup_response_too_long a = nat_lt 65535 (length a.security_buffer)

-- a length passes its field
abbrev pub is_tree_connect_too_long : TreeConnectAsked → Bool
is_tree_connect_too_long a = nat_lt 32767 (length a.path)

-- a length passes its field
abbrev pub is_create_too_long : CreateAsked → Bool
is_create_too_long a = nat_lt 32767 (length a.name) || nat_lt 4294967295 (length a.create_contexts)

-- a length passes its field
abbrev pub is_write_too_long : WriteAsked → Bool
is_write_too_long a = nat_lt 4294967295 (length a.buffer)

-- a length passes its field
abbrev pub is_lock_too_long : LockAsked → Bool
is_lock_too_long a = nat_lt 65535 (length a.locks)

-- a length passes its field
abbrev pub is_query_directory_too_long : QueryDirectoryAsked → Bool
is_query_directory_too_long a = nat_lt 32767 (length a.file_name)

-- a length passes its field
abbrev pub is_set_info_too_long : SetInfoAsked → Bool
is_set_info_too_long a = nat_lt 4294967295 (length a.buffer)

-- the length of a response's buffer passes its field
abbrev pub is_read_response_too_long : List ℕ → Bool
is_read_response_too_long buffer = nat_lt 4294967295 (length buffer)

-- a request says this: its fields stand at their places
pub record SaysRead (request : List ℕ) (r : ReadRequest) : Type 0 where
  pub fields : AllStand (body request) (read_fields r)

-- the length of a response's buffer passes its field
abbrev pub is_query_response_too_long : List ℕ → Bool
is_query_response_too_long output_buffer = nat_lt 4294967295 (length output_buffer)

-- a request says this: its fields stand at their places
pub record SaysClose (request : List ℕ) (r : CloseRequest) : Type 0 where
  pub fields : AllStand (body request) (close_fields r)

-- a request says this: its fields stand at their places
pub record SaysFlush (request : List ℕ) (r : FlushRequest) : Type 0 where
  pub fields : AllStand (body request) (flush_fields r)

-- a request says this: its fields stand at their places
pub record SaysQueryInfo (request : List ℕ) (r : QueryInfoRequest) : Type 0 where
  pub fields : AllStand (body request) (query_info_fields r)

-- a request says this: its fields stand at their places
pub record SaysReserved (request : List ℕ) (r : ReservedRequest) : Type 0 where
  pub fields : AllStand (body request) (reserved_fields r)
