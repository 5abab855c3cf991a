use Rattle.std.proofs.Common.{refl}
use Rattle.smb_wire.specs.Fields.{joined}
use Rattle.smb_body.specs.SessionSetup.{session_setup_asked, session_setup_fields, session_setup_laid, session_setup_spelling}
use Rattle.smb_body.proofs.Behind.{table_behind}
use Rattle.smb_body.proofs.session_setup.put_session_setup.Goals as goal

pub returns-clause-ok : goal.returns-clause-ok
unfolding session_setup_spelling
returns-clause-ok c =
    table_behind c.args.out.now.items _ _ (joined (session_setup_fields (session_setup_laid (session_setup_asked c.args.request)))) _ _ c.in_ok-put_fixed.ensures.ok c.in_ok-put_bytes.ensures.ok refl
