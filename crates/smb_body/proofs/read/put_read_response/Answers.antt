use Rattle.std.proofs.Common.{refl}
use Rattle.smb_wire.specs.Fields.{joined}
use Rattle.smb_body.proofs.Behind.{table_behind}
use Rattle.smb_body.proofs.read.put_read_response.Goals as goal
use Rattle.smb_body.specs.Replies.{answers_read, reply_fields}

pub returns-clause-ok : goal.returns-clause-ok
returns-clause-ok c =
    table_behind c.args.out.now.items _ _ (joined (reply_fields (answers_read c.args.response.buffer.now))) _ _ c.in_ok-put_response_fixed.ensures.ok c.in_ok-put_bytes.ensures.ok refl
