use Rattle.std.proofs.Common.{ℕ, List, ap, refl}
use Rattle.std.specs.Map.{lookup}
use Rattle.std.specs.Ordering.{nat_cmp}
use Rattle.std.specs.BTreeMap.{is_at}
use Rattle.smb_journaled_tree.specs.declared.slots.Slot.{Slot}
use Rattle.smb_journaled_tree.proofs.Slotting.{dirty_same, dirty_added, puts_by}
use Rattle.smb_journaled_tree.proofs.slots.Slots.add.Goals as goal

pub returns-in_err-insert-clause-dirty : goal.returns-in_err-insert-clause-dirty
returns-in_err-insert-clause-dirty c = λ dirty absent a. dirty_same c.args.self.now _ dirty
    (λ q. ap (λ (es : List (ℕ × Slot)). lookup (is_at (nat_cmp q)) es) c.in_err-insert.ensures.err) refl a

pub returns-clause-dirty : goal.returns-clause-dirty
returns-clause-dirty c = λ dirty absent a.
    dirty_added c.args.self.now _ c.args.number dirty (puts_by c.args.self.now.by_number c.insert.new.self c.args.number _ c.in_ok-insert.ensures.updates.0) refl absent a
