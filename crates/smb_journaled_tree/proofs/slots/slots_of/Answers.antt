use Rattle.std.proofs.Common.{[], refl, arith}
use Rattle.smb_journaled_tree.proofs.Slotting.{all_slotted}
use Rattle.smb_journaled_tree.proofs.slots.slots_of.Goals as goal

pub loop-number-preserved : goal.loop-number-preserved
loop-number-preserved c = (
  c.in_ok-add.ensures.dirty [] refl c.loop-number.invariant.0,
  all_slotted c.loop-number.slots c.add.new.self c.args.numbers.now c.loop-number.number-index (omega (arith, c.loop-number-test.true)) c.loop-number.invariant.1 c.in_ok-add.ensures.others c.in_ok-add.ensures.ok,
)
