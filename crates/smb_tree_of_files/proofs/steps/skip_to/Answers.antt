use Rattle.std.proofs.Common.{arith}
use Rattle.smb_tree_of_files.proofs.Begun.{leads_next}
use Rattle.smb_tree_of_files.proofs.steps.skip_to.Goals as goal

pub returns : goal.returns
returns c = λ files. rw c.skip_to.ensures (leads_next files c.args.tree.now c.args.number (omega arith))
