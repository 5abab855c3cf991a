use Rattle.std.proofs.Common.{sym}
use Rattle.smb_nodes.specs.Nodes.{levels-is}
use Rattle.smb_nodes.proofs.whole_names.most_levels.Goals as goal

pub returns : goal.returns
returns c = sym levels-is
