use Rattle.std.proofs.Common.{arith}
use Rattle.smb_signing.proofs.Equal.{equal_more, equal_all}
use Rattle.smb_signing.proofs.key.are_equal.Goals as goal

pub loop-i-preserved : goal.loop-i-preserved
loop-i-preserved c = equal_more c.args.left.now c.args.right.now c.loop-i.i c.loop-i.difference c.loop-i.invariant

pub returns : goal.returns
returns c = equal_all c.args.left.now c.args.right.now c.loop-i.i c.loop-i.difference (omega arith) c.if-left-right.false c.loop-i.invariant
