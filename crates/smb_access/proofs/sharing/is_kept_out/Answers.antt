use Rattle.std.proofs.Common.{◌≡◌, ◌&&◌, ◌||◌, false, sym, arith, ◌∙◌}
use Rattle.smb_access.specs.declared.use_kind.SharingUse.TheVariants.{SharesNoRead, SharesNoWrite}
use Rattle.smb_access.specs.Access.{is_reading, is_writing}
use Rattle.smb_access.specs.Sharing.{has_use}
use Rattle.smb_access.proofs.Uses.{kept_out_last}
use Rattle.smb_access.proofs.sharing.is_kept_out.Goals as goal

pub returns-then-is_deleting : goal.returns-then-is_deleting
returns-then-is_deleting g c =
    let rows = g.O.Opens.content c.args.opens.now in
    let none : (is_reading c.args.access && has_use rows c.args.entry SharesNoRead || is_writing c.args.access && has_use rows c.args.entry SharesNoWrite) ≡ false = grind arith in
    c.has_use-then-is_deleting.ensures ∙ sym (kept_out_last rows c.args.entry c.args.access none (sym c.is_deleting.ensures ∙ c.if-is_deleting.true))
