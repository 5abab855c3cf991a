use Rattle.std.proofs.Common.{refl}
use Rattle.smb_wire.specs.Fields.{joined}
use Rattle.smb_body.specs.Negotiate.{negotiate_answered, negotiate_response_fields}
use Rattle.smb_body.proofs.Behind.{table_behind}
use Rattle.smb_body.proofs.negotiate.put_negotiate_response.Goals as goal

pub returns-clause-ok : goal.returns-clause-ok
returns-clause-ok c =
    table_behind c.args.out.now.items _ _ (joined (negotiate_response_fields (negotiate_answered c.args.response))) _ _ c.in_ok-put_response_fixed.ensures.ok c.in_ok-put_bytes.ensures.ok refl
