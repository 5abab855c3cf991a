use Rattle.std.proofs.Common.{refl}
use Rattle.smb_journaled_tree.proofs.Slotting.{fewer_set, fewer_removed}
use Rattle.smb_journaled_tree.proofs.slots.Slots.clear.Goals as goal

pub returns-in-Some-clause-fewer : goal.returns-in-Some-clause-fewer
returns-in-Some-clause-fewer c = λ h. rw ((c.get_mut.follows.holds _).0) (fewer_set _ c.args.self.now.by_number.entries _ refl h)

pub returns-else-stays-clause-fewer : goal.returns-else-stays-clause-fewer
returns-else-stays-clause-fewer c = λ h. rw c.remove.ensures.entries (fewer_removed _ c.args.self.now.by_number.entries h)
