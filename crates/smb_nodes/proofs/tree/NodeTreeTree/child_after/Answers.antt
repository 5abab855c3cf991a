use Rattle.std.proofs.Common.{◌≡◌, None, rules, sym, ◌∙◌}
use Rattle.std.specs.Option.{option_copied}
use Rattle.smb_nodes.proofs.Following.{no_folder, child_next, no_child_next}
use Rattle.smb_nodes.proofs.Kept.{live_is}
use Rattle.smb_nodes.proofs.tree.NodeTreeTree.child_after.Goals as goal

pub returns-in_err-slot : goal.returns-in_err-slot
returns-in_err-slot c =
    let none : c.from_residual.result ≡ None = search rules in
    none ∙ rw (← c.self.view_is) (no_folder c.self.inside c.args.number (option_copied c.args.after) c.self.invariant (sym c.slot_of.ensures ∙ c.in_err-slot.was))

pub next_child-requires : goal.next_child-requires
next_child-requires c = live_is c.self.inside c.args.number c.in_ok-slot.slot c.self.invariant (sym c.in_ok-slot.ensures)

pub returns-in_err-child : goal.returns-in_err-child
returns-in_err-child c =
    let none : c.from_residual-in_err-child.result ≡ None = search rules in
    none ∙ rw (← c.self.view_is) (no_child_next c.self.inside c.args.number c.in_ok-slot.slot c.self.invariant (sym c.in_ok-slot.ensures) (option_copied c.args.after) c.in_err-child.ensures.none)

pub returns : goal.returns
returns c =
    rw (← c.self.view_is) (child_next c.self.inside c.args.number c.in_ok-slot.slot c.self.invariant (sym c.in_ok-slot.ensures) (option_copied c.args.after) c.in_ok-child.child c.number_or_none.result c.in_ok-child.ensures.some c.number_or_none.ensures)
