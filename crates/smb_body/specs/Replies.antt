-- Replies of all commands ([MS-SMB2] 2.2).
use Rattle.std.specs.Prelude.{◌≡◌, ℕ, ◌+◌, ◌-◌, List, [], ◌∷◌, ◌++◌, length, drop, Bool, false, nat_lt, Option, None, Some}
use Rattle.smb_wire.specs.Fields.{Field, num, number_in, joined, width_of}
use Rattle.smb_body.specs.Negotiate.{NegotiateAnswered, negotiate_answered, negotiate_response_fields}
use Rattle.smb_body.specs.SessionSetup.{SessionSetupAnswered, session_setup_answered}
use Rattle.smb_body.specs.Create.{create_response_fields}
use Rattle.smb_body.specs.Close.{close_response_fields}
use Rattle.smb_body.specs.declared.tree_connect.TreeConnectResponse.{TreeConnectResponse}
use Rattle.smb_body.specs.declared.create.CreateResponse.{CreateResponse}
use Rattle.smb_body.specs.declared.close.CloseResponse.{CloseResponse}
use Rattle.smb_body.specs.declared.write.WriteResponse.{WriteResponse}
use Rattle.smb_body.specs.declared.reply.Reply.{Reply}
use Rattle.smb_body.specs.declared.reply.Reply.TheVariants.{Error, Negotiate, SessionSetup, Logoff, TreeConnect, TreeDisconnect, Create, Close, Flush, Read, Write, Lock, Echo, QueryDirectory, QueryInfo, SetInfo}

-- a reply, without where its buffer lies in memory
pub data ReplyValue : Type 0 where
  answers_error : ReplyValue
  answers_negotiate : NegotiateAnswered → ReplyValue
  answers_session_setup : SessionSetupAnswered → ReplyValue
  answers_logoff : ReplyValue
  answers_tree_connect : TreeConnectResponse → ReplyValue
  answers_tree_disconnect : ReplyValue
  answers_create : CreateResponse → ReplyValue
  answers_close : CloseResponse → ReplyValue
  answers_flush : ReplyValue
  answers_read : List ℕ → ReplyValue
  answers_write : WriteResponse → ReplyValue
  answers_lock : ReplyValue
  answers_echo : ReplyValue
  answers_query_directory : List ℕ → ReplyValue
  answers_query_info : List ℕ → ReplyValue
  answers_set_info : ReplyValue

-- a reply's value
abbrev pub reply_value : Reply → ReplyValue
reply_value Error = answers_error
reply_value (Negotiate r) = answers_negotiate (negotiate_answered r)
reply_value (SessionSetup r) = answers_session_setup (session_setup_answered r)
reply_value Logoff = answers_logoff
reply_value (TreeConnect r) = answers_tree_connect r
reply_value TreeDisconnect = answers_tree_disconnect
reply_value (Create r) = answers_create r
reply_value (Close r) = answers_close r
reply_value Flush = answers_flush
reply_value (Read r) = answers_read r.buffer.now
reply_value (Write r) = answers_write r
reply_value Lock = answers_lock
reply_value Echo = answers_echo
reply_value (QueryDirectory r) = answers_query_directory r.output_buffer.now
reply_value (QueryInfo r) = answers_query_info r.output_buffer.now
reply_value SetInfo = answers_set_info

-- the fixed part of a body ([MS-SMB2] 2.2.2, 2.2.6, 2.2.10, 2.2.20, 2.2.22, 2.2.34, 2.2.38, 2.2.40), the last one that of
-- LOGOFF, TREE_DISCONNECT, FLUSH, LOCK and ECHO (2.2.8, 2.2.12, 2.2.18, 2.2.27, 2.2.29)
abbrev pub reply_fields : ReplyValue → List Field
reply_fields answers_error =
    num 0 2 9  -- StructureSize
    ∷ num 2 1 0  -- ErrorContextCount
    ∷ num 3 1 0  -- Reserved
    ∷ num 4 4 0  -- ByteCount
    ∷ num 8 1 0  -- ErrorData
    ∷ []
reply_fields (answers_negotiate a) = negotiate_response_fields a
reply_fields (answers_session_setup a) =
    num 0 2 9  -- StructureSize
    ∷ num 2 2 a.session_flags.0  -- SessionFlags
    ∷ num 4 2 72  -- SecurityBufferOffset
    ∷ num 6 2 (length a.security_buffer)  -- SecurityBufferLength
    ∷ []
reply_fields (answers_tree_connect r) =
    num 0 2 16  -- StructureSize
    ∷ num 2 1 r.share_type.0  -- ShareType
    ∷ num 3 1 0  -- Reserved
    ∷ num 4 4 r.share_flags.0  -- ShareFlags
    ∷ num 8 4 r.capabilities.0  -- Capabilities
    ∷ num 12 4 r.maximal_access.0  -- MaximalAccess
    ∷ []
reply_fields (answers_create r) = create_response_fields r
reply_fields (answers_close r) = close_response_fields r
reply_fields (answers_read buffer) =
    num 0 2 17  -- StructureSize
    ∷ num 2 1 80  -- DataOffset
    ∷ num 3 1 0  -- Reserved
    ∷ num 4 4 (length buffer)  -- DataLength
    ∷ num 8 4 0  -- DataRemaining
    ∷ num 12 4 0  -- Reserved2
    ∷ []
reply_fields (answers_write r) =
    num 0 2 17  -- StructureSize
    ∷ num 2 2 0  -- Reserved
    ∷ num 4 4 r.count  -- Count
    ∷ num 8 4 0  -- Remaining
    ∷ num 12 2 0  -- WriteChannelInfoOffset
    ∷ num 14 2 0  -- WriteChannelInfoLength
    ∷ []
reply_fields (answers_query_directory buffer) =
    num 0 2 9  -- StructureSize
    ∷ num 2 2 72  -- OutputBufferOffset
    ∷ num 4 4 (length buffer)  -- OutputBufferLength
    ∷ []
reply_fields (answers_query_info buffer) =
    num 0 2 9  -- StructureSize
    ∷ num 2 2 72  -- OutputBufferOffset
    ∷ num 4 4 (length buffer)  -- OutputBufferLength
    ∷ []
reply_fields answers_set_info =
    num 0 2 2  -- StructureSize
    ∷ []
reply_fields _ =
    num 0 2 4  -- StructureSize
    ∷ num 2 2 0  -- Reserved
    ∷ []

-- the buffer behind the fixed part
abbrev pub reply_buffer : ReplyValue → List ℕ
reply_buffer (answers_negotiate a) = a.security_buffer
reply_buffer (answers_session_setup a) = a.security_buffer
reply_buffer (answers_read a) = a
reply_buffer (answers_query_directory a) = a
reply_buffer (answers_query_info a) = a
reply_buffer _ = []

-- the one spelling of a body
abbrev pub reply_spelling : ReplyValue → List ℕ
reply_spelling v = joined (reply_fields v) ++ reply_buffer v

-- the field that tells where the buffer stands: its width and its offset
abbrev pub offset_field : ReplyValue → Option (ℕ × ℕ)
offset_field (answers_negotiate a) = Some (2, 56)
offset_field (answers_session_setup a) = Some (2, 4)
offset_field (answers_read a) = Some (1, 2)
offset_field (answers_query_directory a) = Some (2, 2)
offset_field (answers_query_info a) = Some (2, 2)
offset_field _ = None

-- the buffer stands where that field says, counted from the header, whose 64 bytes come before the body
abbrev pub HasBufferAtItsOffset : ReplyValue → Type 0
HasBufferAtItsOffset v =
    (field : ℕ × ℕ) → offset_field v ≡ Some field →
    drop (number_in field.0 field.1 (reply_spelling v) - 64) (reply_spelling v) ≡ reply_buffer v

-- how many bytes a body has
abbrev pub reply_length : ReplyValue → ℕ
reply_length v = width_of (reply_fields v) + length (reply_buffer v)

-- the length of the buffer passes its field
abbrev pub is_reply_too_long : ReplyValue → Bool
is_reply_too_long (answers_negotiate a) = nat_lt 65535 (length a.security_buffer)
is_reply_too_long (answers_session_setup a) = nat_lt 65535 (length a.security_buffer)
is_reply_too_long (answers_read buffer) = nat_lt 4294967295 (length buffer)
is_reply_too_long (answers_query_directory buffer) = nat_lt 4294967295 (length buffer)
is_reply_too_long (answers_query_info buffer) = nat_lt 4294967295 (length buffer)
is_reply_too_long _ = false
