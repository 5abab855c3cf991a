use Rattle.std.proofs.Common.{◌∙◌}
use Rattle.smb_journaled_tree.proofs.Slotting.{dirty_taken, cleared_clean}
use Rattle.smb_journaled_tree.proofs.slots.Slots.take_first.Goals as goal

pub returns-clause-dirty : goal.returns-clause-dirty
returns-clause-dirty c = λ dirty a.
    dirty_taken c.args.self.now _ c.args.number dirty _ c.clear.ensures.slots (cleared_clean c.args.stays _) (c.clear.ensures.first ∙ c.next_of-self.ensures) a
