use Rattle.smb_wire.specs.Fields.{joined}
use Rattle.smb_body.specs.Negotiate.{negotiate_asked, negotiate_fields, negotiate_spelling}
use Rattle.smb_body.proofs.Behind.{table_behind}
use Rattle.smb_body.proofs.negotiate.put_negotiate.Goals as goal

pub returns-clause-ok : goal.returns-clause-ok
unfolding negotiate_spelling
returns-clause-ok c =
    table_behind c.args.out.now.items _ _ (joined (negotiate_fields (negotiate_asked c.args.request))) _ _ c.in_ok-put_fixed.ensures.ok c.in_ok-put_bytes.ensures.ok c.bytes.ensures.bytes
