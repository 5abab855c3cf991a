use Rattle.std.proofs.Common.{◌∙◌}
use Rattle.smb_entry.proofs.Renaming.{open_told}
use Rattle.smb_entry.proofs.rename.has_open.Goals as goal

pub returns : goal.returns
returns g c = c.is_some.ensures ∙ open_told (g.O.Opens.content c.args.opens.now) c.args.entry c.on_entry.result c.on_entry.ensures
