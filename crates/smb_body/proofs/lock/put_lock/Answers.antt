use Rattle.smb_wire.specs.Fields.{joined}
use Rattle.smb_body.specs.Lock.{lock_asked, lock_request_fields, lock_spelling}
use Rattle.smb_body.proofs.Behind.{table_behind}
use Rattle.smb_body.proofs.lock.put_lock.Goals as goal

pub returns-clause-ok : goal.returns-clause-ok
unfolding lock_spelling
returns-clause-ok c =
    table_behind c.args.out.now.items _ _ (joined (lock_request_fields (lock_asked c.args.request))) _ _ c.in_ok-put_fixed.ensures.ok c.in_ok-put_bytes.ensures.ok c.bytes.ensures.bytes
