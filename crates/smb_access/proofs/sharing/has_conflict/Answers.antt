use Rattle.std.proofs.Common.{sym, ◌∙◌}
use Rattle.smb_access.proofs.Uses.{conflict_last}
use Rattle.smb_access.proofs.sharing.has_conflict.Goals as goal

pub returns-else-is_kept_out : goal.returns-else-is_kept_out
returns-else-is_kept_out g c =
    c.keeps_out.ensures
    ∙ sym (conflict_last (g.O.Opens.content c.args.opens.now) c.args.entry c.args.access c.args.share (sym c.is_shared_access.ensures ∙ c.if-is_shared_access.true) (sym c.is_kept_out.ensures ∙ c.if-is_kept_out.false))
