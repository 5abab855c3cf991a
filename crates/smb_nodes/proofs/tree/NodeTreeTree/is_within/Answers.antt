use Rattle.std.proofs.Common.{sym, ◌∙◌}
use Rattle.smb_nodes.proofs.Within.{none_above, none_within, within_told}
use Rattle.smb_nodes.proofs.tree.NodeTreeTree.is_within.Goals as goal

pub returns-in_default : goal.returns-in_default
returns-in_default c = rw (← c.self.view_is) (none_above c.self.inside c.args.above c.args.number c.self.invariant (sym c.slot_of.ensures ∙ c.in_default.is))

pub returns-in_default-slot_of : goal.returns-in_default-slot_of
returns-in_default-slot_of c = rw (← c.self.view_is) (none_within c.self.inside c.args.above c.args.number c.in-Some.top c.self.invariant (sym c.in-Some.ensures) (sym c.slot_of-2.ensures ∙ c.in_default-slot_of.is))

pub returns : goal.returns
returns c =
    rw (← c.self.view_is) (within_told c.self.inside c.args.above c.args.number c.in-Some.top c.self.invariant (sym c.in-Some.ensures) c.in-Some-slot_of.slot c.is_within.result (sym c.in-Some-slot_of.ensures) c.is_within.ensures)
