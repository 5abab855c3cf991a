-- SMB_COM_NEGOTIATE as a connection's first payload, by which a client of several protocols begins
-- ([MS-SMB2] 3.3.5.3.1, 3.3.5.3.2).
use Rattle.std.specs.Prelude.{replicate, Option, Some, None, if◌then◌else◌}
use Rattle.smb_head.specs.Replies.{Reply}
use Rattle.smb_body.specs.Replies.{ReplyValue, reply_spelling}
use Rattle.smb_body.specs.declared.smb1.Smb1Dialects.{Smb1Dialects}
use Rattle.smb_wire.specs.declared.dialect.Dialect.TheVariants.{Smb202}
use Rattle.smb_wire.specs.Dialects.{revision_of}
use Rattle.smb_request.specs.declared.smb1.Smb1Answer.{Smb1Answer}
use Rattle.smb_wire.specs.declared.nt_status.NtStatus.TheVariants.{Success}
use Rattle.smb_wire.specs.NtStatus.{status_code}

-- "SMB 2.???" is answered by the revision 0x02FF, and the client is to choose by an SMB2 NEGOTIATE; else "SMB 2.002" by
-- 0x0202, which stands from now on; without either there is no answer
abbrev pub answer_to_smb1 : Smb1Dialects → Option Smb1Answer
answer_to_smb1 dialects =
    if dialects.smb_2_wildcard then Some (record { dialect_revision = 0x02FF; dialect = None }) else
    if dialects.smb_2_002 then Some (record { dialect_revision = revision_of Smb202; dialect = Some Smb202 }) else None

-- the reply: an SMB2 NEGOTIATE response to MessageId 0, which tells one credit
abbrev pub reply_to_smb1 : ReplyValue → Reply
reply_to_smb1 response = record {
  header = record {
    credit_charge = 0;
    status = status_code Success;
    command = record { 0 = 0 };
    credits = 1;
    flags = record { 0 = 1 };
    next_command = 0;
    message_id = 0;
    reserved = 0;
    tree_id = 0;
    session_id = 0;
    signature = replicate 16 0;
  };
  body = reply_spelling response;
  key = None;
}
