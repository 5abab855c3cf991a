use Rattle.std.proofs.Common.{◌≡◌, true, Some, refl, ◌∙◌, sym, ap, Option, IsSome, subst}
use Rattle.smb_journaled_tree.specs.declared.slots.Slot.{Slot}
use Rattle.smb_journaled_tree.specs.declared.slots.Slot.TheVariants.{Dirty}
use Rattle.smb_journaled_tree.specs.Slots.{slot_of, is_dirty, is_dirty_slot}
use Rattle.smb_journaled_tree.proofs.Slotting.{puts_by, dirty_marked, dirty_already, puts_same}
use Rattle.smb_journaled_tree.proofs.slots.Slots.mark.Goals as goal

pub returns-in-Clean-clause-dirty : goal.returns-in-Clean-clause-dirty
returns-in-Clean-clause-dirty c = λ dirty has a.
    let its = c.in-Some.ensures.value in
    dirty_marked c.args.self.now _ c.args.number dirty
    (puts_by c.args.self.now.by_number (c.get_mut.follows.lender (Dirty c.args.self.now.first)) c.args.number _ ((c.get_mut.follows.holds _).3 (subst (λ (o : Option Slot). IsSome o) its refl)).0) refl
    (ap Some (sym c.in-Clean.is) ∙ its) a

pub returns-in_default-slot-clause-dirty : goal.returns-in_default-slot-clause-dirty
returns-in_default-slot-clause-dirty c = λ dirty has a.
    let its = c.in-Some.ensures.value in
    let here : is_dirty (slot_of c.args.self.now c.args.number) ≡ true = ap is_dirty (sym its) ∙ ap is_dirty_slot c.in_default-slot.is in
    dirty_already c.args.self.now _ c.args.number dirty
    (puts_same _ _ c.args.number _ (puts_by c.args.self.now.by_number (c.get_mut.follows.lender c.in-Some.slot.now) c.args.number _ ((c.get_mut.follows.holds _).3 (subst (λ (o : Option Slot). IsSome o) its refl)).0) its)
    refl here a
