use Rattle.std.proofs.Common.{ℕ, List}
use Rattle.smb_nodes.specs.Nodes.{IsTree}
use Rattle.smb_nodes.specs.Seen.{heap_of}
use Rattle.smb_nodes.proofs.Distances.{bound_counted}
use Rattle.smb_nodes.proofs.ways.bound_for.Goals as goal

pub returns : goal.returns
returns c = λ (index : List (ℕ × ℕ)) (next : ℕ) (t : IsTree (heap_of c.args.nodes.now) index next) _. bound_counted (heap_of c.args.nodes.now) index next t c.count_deepest.result c.count_deepest.ensures.few c.count_deepest.ensures.all
