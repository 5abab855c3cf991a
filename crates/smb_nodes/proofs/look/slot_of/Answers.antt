use Rattle.std.proofs.Common.{◌∙◌}
use Rattle.smb_nodes.proofs.Indexed.{lookup_is}
use Rattle.smb_nodes.proofs.look.slot_of.Goals as goal

pub returns : goal.returns
returns c = c.copied.ensures ∙ c.get.ensures.value ∙ lookup_is c.args.index.now.entries c.args.number
