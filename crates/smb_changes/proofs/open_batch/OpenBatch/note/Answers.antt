use Rattle.std.proofs.Common.{◌∙◌, ap, drop}
use Rattle.smb_changes.proofs.Open.{behind}
use Rattle.smb_changes.proofs.open_batch.OpenBatch.note.Goals as goal

pub returns-clause-ok : goal.returns-clause-ok
returns-clause-ok c =
    ap (drop 24) c.in_ok-put_change.ensures.ok ∙ behind _ _ _ c.in_ok-make_room.ensures.ok c.in_ok-make_room.ensures.same
