use Rattle.std.proofs.Common.{refl}
use Rattle.smb_wire.specs.Fields.{joined}
use Rattle.smb_body.specs.Write.{write_asked, write_fields, write_laid, write_spelling}
use Rattle.smb_body.proofs.Behind.{table_behind}
use Rattle.smb_body.proofs.write.put_write.Goals as goal

pub returns-clause-ok : goal.returns-clause-ok
unfolding write_spelling
returns-clause-ok c =
    table_behind c.args.out.now.items _ _ (joined (write_fields (write_laid (write_asked c.args.request)))) _ _ c.in_ok-put_fixed.ensures.ok c.in_ok-put_bytes.ensures.ok refl
