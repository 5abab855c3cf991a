use Rattle.std.proofs.Common.{arith}
use Rattle.smb_nodes.specs.Nodes.{levels-is}
use Rattle.smb_nodes.proofs.ways.is_deep.Goals as goal

pub overflow_add-result : goal.overflow_add-result
overflow_add-result c = omega (arith, c.in-Some.ensures.few, c.most_levels.ensures, levels-is)
