use Rattle.std.proofs.Common.{arith}
use Rattle.smb_lanes.proofs.Blocks.{block_of_whole, block_of_tail, block_of_tail_2}
use Rattle.smb_lanes.proofs.source.Source.block.Goals as goal

pub returns-then-at-full-clause-value : goal.returns-then-at-full-clause-value
returns-then-at-full-clause-value c q s lt =
    block_of_whole c.args.self.now.whole.now _ q c.args.at _ _ s.4 (omega arith) (omega arith) (omega arith)

pub returns-then-at-full-2-clause-value : goal.returns-then-at-full-2-clause-value
returns-then-at-full-2-clause-value c q s lt =
    block_of_tail c.args.self.now.whole.now c.args.self.now.tail q c.args.at _ s.4 (omega arith) (omega arith)

pub returns-else-at-full-2-clause-value : goal.returns-else-at-full-2-clause-value
returns-else-at-full-2-clause-value c q s lt =
    block_of_tail_2 c.args.self.now.whole.now c.args.self.now.tail q c.args.at _ s.4 (omega arith) (omega arith)
