use Rattle.std.proofs.Common.{◌+◌, ◌≤◌, arith}
use Rattle.smb_nodes.specs.Seen.{heap_of}
use Rattle.smb_nodes.proofs.Distances.{none_deep}
use Rattle.smb_nodes.proofs.ways.gets_deep.Goals as goal

pub returns-then-count-below-le-MOST_COMPONENTS-clause-none : goal.returns-then-count-below-le-MOST_COMPONENTS-clause-none
returns-then-count-below-le-MOST_COMPONENTS-clause-none c =
    let few : c.args.count + c.args.below ≤ 32 = omega arith in
    λ _. none_deep (heap_of c.args.nodes.now) c.args.top c.args.count c.args.below few c.requires.below
