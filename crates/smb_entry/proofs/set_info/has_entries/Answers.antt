use Rattle.std.proofs.Common.{is_some, ap, ◌∙◌}
use Rattle.smb_entry.proofs.Settings.{entries_told}
use Rattle.smb_entry.proofs.set_info.has_entries.Goals as goal

pub returns : goal.returns
returns g c = c.is_some.ensures ∙ ap is_some c.child_after.ensures ∙ entries_told (g.T.Tree.content c.args.tree.now).rows c.args.number
