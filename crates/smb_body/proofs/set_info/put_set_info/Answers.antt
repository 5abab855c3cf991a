use Rattle.std.proofs.Common.{refl}
use Rattle.smb_wire.specs.Fields.{joined}
use Rattle.smb_body.specs.SetInfo.{set_info_asked, set_info_fields, set_info_laid, set_info_spelling}
use Rattle.smb_body.proofs.Behind.{table_behind}
use Rattle.smb_body.proofs.set_info.put_set_info.Goals as goal

pub returns-clause-ok : goal.returns-clause-ok
unfolding set_info_spelling
returns-clause-ok c =
    table_behind c.args.out.now.items _ _ (joined (set_info_fields (set_info_laid (set_info_asked c.args.request)))) _ _ c.in_ok-put_fixed.ensures.ok c.in_ok-put_bytes.ensures.ok refl
