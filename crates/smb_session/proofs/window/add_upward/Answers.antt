use Rattle.std.proofs.Common.{arith}
use Rattle.smb_session.proofs.Windows.{added_more}
use Rattle.smb_session.proofs.window.add_upward.Goals as goal

pub loop-i-preserved : goal.loop-i-preserved
loop-i-preserved c = record {
  items = added_more _ _ _ _ _ c.loop-i.invariant.items c.push.ensures.items;
  len = omega (arith, c.push.ensures.len, c.loop-i.invariant.len);
}
