use Rattle.std.proofs.Common.{ℕ, ◌-◌, length, ◌∙◌}
use Rattle.std.proofs.lemmas.List.{drop-replicate}
use Rattle.smb_changes.proofs.Checks.{stirred-zeros}
use Rattle.smb_changes.proofs.check.stirred_short.Goals as goal

pub returns : goal.returns
returns c =
    c.stirred.ensures
    ∙ rw (c.copy_from_slice.ensures.after, c.split_at_mut-front.ensures.back, drop-replicate {X = ℕ} (length c.args.bytes.now) 32 0)
    (stirred-zeros c.args.sum c.args.bytes.now (32 - length c.args.bytes.now))
