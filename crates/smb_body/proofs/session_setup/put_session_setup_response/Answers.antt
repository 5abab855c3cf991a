use Rattle.std.proofs.Common.{refl}
use Rattle.smb_wire.specs.Fields.{joined}
use Rattle.smb_body.specs.SessionSetup.{session_setup_answered}
use Rattle.smb_body.proofs.Behind.{table_behind}
use Rattle.smb_body.proofs.session_setup.put_session_setup_response.Goals as goal
use Rattle.smb_body.specs.Replies.{answers_session_setup, reply_fields}

pub returns-clause-ok : goal.returns-clause-ok
returns-clause-ok c =
    table_behind c.args.out.now.items _ _ (joined (reply_fields (answers_session_setup (session_setup_answered c.args.response)))) _ _ c.in_ok-put_response_fixed.ensures.ok c.in_ok-put_bytes.ensures.ok refl
