use Rattle.std.proofs.Common.{◌≡◌, ◌==◌, ◌&&◌, ℕ, false, List, None, Some, refl, sym, ap, ◌∙◌}
use Rattle.smb_wire.specs.Names.{folded}
use Rattle.smb_wire.specs.Paths.{folded_path}
use Rattle.smb_wire.specs.PathViews.{parts_of}
use Rattle.smb_tree.specs.declared.fault.TreeFault.TheVariants.{NoMemory}
use Rattle.smb_tree.specs.Content.{Row, used_space}
use Rattle.smb_nodes.specs.Nodes.{name_of_slot, is_same_component, up_in, walk}
use Rattle.smb_nodes.specs.Seen.{heap_of}
use Rattle.smb_nodes.specs.Ways.{NoneBelow}
use Rattle.smb_tree.proofs.Refused.{refused_by}
use Rattle.smb_nodes.proofs.Kept.{no_row, live_is, same_tree, same_rows, same_bound}
use Rattle.smb_nodes.proofs.Relocating.{some}
use Rattle.smb_nodes.proofs.Putting.{on_err}
use Rattle.smb_nodes.proofs.Placing.{MayMove, not_it, fault_is, no_memory, may_move, no_folder_found, above, around, apart, same_keeps, same_space, own_bound, same_content, free_keeps, free_space, free_bound, free_content, target_there, over_keeps, over_enough, over_space, over_bound, over_content}
use Rattle.smb_nodes.proofs.tree.NodeTreeTree.move_entry.Goals as goal

pub returns-in_default-clause-why : goal.returns-in_default-clause-why
returns-in_default-clause-why c =
    let none = no_row c.self.inside c.args.number c.self.invariant (sym c.slot_of.ensures ∙ c.in_default.is) in
    λ _. rw (← c.self.view_is, none) refl

pub move_fault-requires-clause-live : goal.move_fault-requires-clause-live
move_fault-requires-clause-live c =
    live_is c.self.inside c.args.number c.in-Some.slot c.self.invariant (sym c.in-Some.ensures)

pub returns-in_default-walk_down-clause-why : goal.returns-in_default-walk_down-clause-why
returns-in_default-walk_down-clause-why c =
    λ _. rw (← c.self.view_is) (no_folder_found c.self.inside c.args.number c.in-Some.slot c.self.invariant (sym c.in-Some.ensures) (parts_of c.args.path.now) (ap (walk (heap_of c.self.inside.nodes) (Some 0)) (sym c.around.ensures) ∙ sym c.walk_down.ensures ∙ c.in_default-walk_down.is))

pub target_in-target-requires : goal.target_in-target-requires
target_in-target-requires c = ap (walk (heap_of c.self.inside.nodes) (Some 0)) (sym c.around.ensures) ∙ sym c.walk_down.ensures ∙ c.in-Some-walk_down.is

pub move_fault-requires-clause-folder : goal.move_fault-requires-clause-folder
move_fault-requires-clause-folder c = ap (walk (heap_of c.self.inside.nodes) (Some 0)) (sym c.around.ensures) ∙ sym c.walk_down.ensures ∙ c.in-Some-walk_down.is

pub bound_for-bound-requires-clause-live : goal.bound_for-bound-requires-clause-live
bound_for-bound-requires-clause-live c = live_is c.self.inside c.args.number c.in-Some.slot c.self.invariant (sym c.in-Some.ensures)

pub levels_beneath-below-requires : goal.levels_beneath-below-requires
levels_beneath-below-requires c = live_is c.self.inside c.args.number c.in-Some.slot c.self.invariant (sym c.in-Some.ensures)

pub move_fault-requires-clause-below : goal.move_fault-requires-clause-below
move_fault-requires-clause-below c = c.levels_beneath-below.ensures.below c.self.inside.index.entries c.self.inside.next c.self.invariant.is_tree (c.bound_for-bound.ensures c.self.inside.index.entries c.self.inside.next c.self.invariant.is_tree c.self.invariant.bound)

pub returns-in-Some-move_fault-clause-why : goal.returns-in-Some-move_fault-clause-why
returns-in-Some-move_fault-clause-why c =
    λ _. rw (← c.self.view_is) (fault_is c.self.inside c.args.number c.in-Some.slot c.self.invariant (sym c.in-Some.ensures) (parts_of c.args.path.now) c.move_fault.result c.move_fault.ensures ∙ c.in-Some-move_fault.is)

pub returns-in-Some-move_fault-clause-memory : goal.returns-in-Some-move_fault-clause-memory
returns-in-Some-move_fault-clause-memory c =
    λ e. absurd (no_memory c.self.inside c.args.number c.in-Some.slot c.self.invariant (sym c.in-Some.ensures) (parts_of c.args.path.now) c.move_fault.result c.move_fault.ensures c.in-Some-move_fault.fault c.in-Some-move_fault.is e)

pub last_spelling-requires : goal.last_spelling-requires
last_spelling-requires c =
    some (heap_of c.self.inside.nodes) c.self.inside.index.entries c.self.inside.next c.self.invariant.is_tree c.args.number c.in-Some.slot (sym c.in-Some.ensures) c.requires (parts_of c.args.path.now) (may_move c.self.inside c.args.number c.in-Some.slot c.self.invariant (sym c.in-Some.ensures) (parts_of c.args.path.now) c.move_fault.result c.move_fault.ensures c.in_default-move_fault.is c.requires)

pub returns-in_err-spelling-clause-memory : goal.returns-in_err-spelling-clause-memory
returns-in_err-spelling-clause-memory c =
    refused_by c.from_residual.result (λ fault. fault ≡ NoMemory) (rw (← c.self.view_is) (fault_is c.self.inside c.args.number c.in-Some.slot c.self.invariant (sym c.in-Some.ensures) (parts_of c.args.path.now) c.move_fault.result c.move_fault.ensures ∙ c.in_default-move_fault.is))

pub settle-requires-clause-live : goal.settle-requires-clause-live
settle-requires-clause-live c =
    live_is c.self.inside c.args.number c.in-Some.slot c.self.invariant (sym c.in-Some.ensures)

pub invariant_of-self : goal.invariant_of-self
invariant_of-self c =
    let may : MayMove c.self.inside c.args.number c.in-Some.slot (parts_of c.args.path.now) c.in-Some-walk_down.folder = record { keeps = c.self.invariant; at = sym c.in-Some.ensures; root = c.requires; is_movable = may_move c.self.inside c.args.number c.in-Some.slot c.self.invariant (sym c.in-Some.ensures) (parts_of c.args.path.now) c.move_fault.result c.move_fault.ensures c.in_default-move_fault.is c.requires; at_up = ap (walk (heap_of c.self.inside.nodes) (Some 0)) (sym c.around.ensures) ∙ sym c.walk_down.ensures ∙ c.in-Some-walk_down.is } in
    let here : walk (heap_of c.self.inside.nodes) (Some 0) (folded_path (parts_of c.args.path.now)) ≡ Some c.in-Some.slot = sym c.target_in-target.ensures ∙ c.is_slot.ensures.yes c.if-is_slot.true in
    let low : NoneBelow (heap_of c.self.inside.nodes) c.in-Some.slot c.levels_beneath-below.result = c.levels_beneath-below.ensures.below c.self.inside.index.entries c.self.inside.next c.self.invariant.is_tree (c.bound_for-bound.ensures c.self.inside.index.entries c.self.inside.next c.self.invariant.is_tree c.self.invariant.bound) in
    record { is_tree = same_keeps c.self.inside c.args.number c.in-Some.slot (parts_of c.args.path.now) c.in-Some-walk_down.folder may (heap_of c.settle.new.nodes) (rw c.in_ok-spelling.ensures.units at c.settle.ensures) here; used = same_space c.self.inside c.args.number c.in-Some.slot (parts_of c.args.path.now) c.in-Some-walk_down.folder may (heap_of c.settle.new.nodes) (rw c.in_ok-spelling.ensures.units at c.settle.ensures) here; bound = own_bound c.self.inside c.args.number c.in-Some.slot (parts_of c.args.path.now) c.in-Some-walk_down.folder may (heap_of c.settle.new.nodes) (rw c.in_ok-spelling.ensures.units at c.settle.ensures) here c.bound_for-bound.result (c.bound_for-bound.ensures c.self.inside.index.entries c.self.inside.next c.self.invariant.is_tree c.self.invariant.bound) c.len-count.result c.levels_beneath-below.result c.deepest_with-deepest.result c.len-count.ensures.len low c.deepest_with-deepest.ensures }

pub returns-then-is_slot-clause-ok : goal.returns-then-is_slot-clause-ok
returns-then-is_slot-clause-ok c =
    let may : MayMove c.self.inside c.args.number c.in-Some.slot (parts_of c.args.path.now) c.in-Some-walk_down.folder = record { keeps = c.self.invariant; at = sym c.in-Some.ensures; root = c.requires; is_movable = may_move c.self.inside c.args.number c.in-Some.slot c.self.invariant (sym c.in-Some.ensures) (parts_of c.args.path.now) c.move_fault.result c.move_fault.ensures c.in_default-move_fault.is c.requires; at_up = ap (walk (heap_of c.self.inside.nodes) (Some 0)) (sym c.around.ensures) ∙ sym c.walk_down.ensures ∙ c.in-Some-walk_down.is } in
    let here : walk (heap_of c.self.inside.nodes) (Some 0) (folded_path (parts_of c.args.path.now)) ≡ Some c.in-Some.slot = sym c.target_in-target.ensures ∙ c.is_slot.ensures.yes c.if-is_slot.true in
    rw (← c.self.view_is) (same_content c.self.inside c.args.number c.in-Some.slot (parts_of c.args.path.now) c.in-Some-walk_down.folder may (heap_of c.settle.new.nodes) (rw c.in_ok-spelling.ensures.units at c.settle.ensures) here)

pub returns-then-is_slot-clause-lawful : goal.returns-then-is_slot-clause-lawful
returns-then-is_slot-clause-lawful c =
    rw (← c.self.view_is) (fault_is c.self.inside c.args.number c.in-Some.slot c.self.invariant (sym c.in-Some.ensures) (parts_of c.args.path.now) c.move_fault.result c.move_fault.ensures ∙ c.in_default-move_fault.is)

pub reparent-requires-clause-live : goal.reparent-requires-clause-live
reparent-requires-clause-live c =
    live_is c.self.inside c.args.number c.in-Some.slot c.self.invariant (sym c.in-Some.ensures)

pub reparent-requires-clause-above : goal.reparent-requires-clause-above
reparent-requires-clause-above c =
    let may : MayMove c.self.inside c.args.number c.in-Some.slot (parts_of c.args.path.now) c.in-Some-walk_down.folder = record { keeps = c.self.invariant; at = sym c.in-Some.ensures; root = c.requires; is_movable = may_move c.self.inside c.args.number c.in-Some.slot c.self.invariant (sym c.in-Some.ensures) (parts_of c.args.path.now) c.move_fault.result c.move_fault.ensures c.in_default-move_fault.is c.requires; at_up = ap (walk (heap_of c.self.inside.nodes) (Some 0)) (sym c.around.ensures) ∙ sym c.walk_down.ensures ∙ c.in-Some-walk_down.is } in
    above c.self.inside c.args.number c.in-Some.slot (parts_of c.args.path.now) c.in-Some-walk_down.folder may

pub reparent-requires-clause-around : goal.reparent-requires-clause-around
reparent-requires-clause-around c =
    let may : MayMove c.self.inside c.args.number c.in-Some.slot (parts_of c.args.path.now) c.in-Some-walk_down.folder = record { keeps = c.self.invariant; at = sym c.in-Some.ensures; root = c.requires; is_movable = may_move c.self.inside c.args.number c.in-Some.slot c.self.invariant (sym c.in-Some.ensures) (parts_of c.args.path.now) c.move_fault.result c.move_fault.ensures c.in_default-move_fault.is c.requires; at_up = ap (walk (heap_of c.self.inside.nodes) (Some 0)) (sym c.around.ensures) ∙ sym c.walk_down.ensures ∙ c.in-Some-walk_down.is } in
    around c.self.inside c.args.number c.in-Some.slot (parts_of c.args.path.now) c.in-Some-walk_down.folder may

pub reparent-requires-clause-apart : goal.reparent-requires-clause-apart
reparent-requires-clause-apart c =
    let may : MayMove c.self.inside c.args.number c.in-Some.slot (parts_of c.args.path.now) c.in-Some-walk_down.folder = record { keeps = c.self.invariant; at = sym c.in-Some.ensures; root = c.requires; is_movable = may_move c.self.inside c.args.number c.in-Some.slot c.self.invariant (sym c.in-Some.ensures) (parts_of c.args.path.now) c.move_fault.result c.move_fault.ensures c.in_default-move_fault.is c.requires; at_up = ap (walk (heap_of c.self.inside.nodes) (Some 0)) (sym c.around.ensures) ∙ sym c.walk_down.ensures ∙ c.in-Some-walk_down.is } in
    ap (λ (us : List ℕ). up_in (heap_of c.self.inside.nodes c.in-Some.slot) == c.in-Some-walk_down.folder && is_same_component (folded us) (name_of_slot (heap_of c.self.inside.nodes) c.in-Some.slot)) c.in_ok-spelling.ensures.units
    ∙ apart c.self.inside c.args.number c.in-Some.slot (parts_of c.args.path.now) c.in-Some-walk_down.folder may (λ e. c.is_slot.ensures.no c.if-is_slot.false (c.target_in-target.ensures ∙ e))

pub invariant_of-self-in_err-reparent : goal.invariant_of-self-in_err-reparent
invariant_of-self-in_err-reparent c =
    record {
      is_tree = same_tree (heap_of c.self.inside.nodes) (heap_of c.reparent.new.nodes) c.self.inside.index.entries c.self.inside.index.entries c.self.inside.next c.in_err-reparent.ensures.err.0 refl c.self.invariant.is_tree;
      used = c.self.invariant.used ∙ sym (ap used_space (same_rows (heap_of c.self.inside.nodes) (heap_of c.reparent.new.nodes) c.self.inside.index.entries c.self.inside.index.entries c.in_err-reparent.ensures.err.0 refl));
      bound = same_bound (heap_of c.self.inside.nodes) (heap_of c.reparent.new.nodes) c.self.inside.index.entries c.self.inside.index.entries c.self.inside.deepest c.in_err-reparent.ensures.err.0 refl c.self.invariant.bound;
    }

pub returns-in_err-reparent-clause-err : goal.returns-in_err-reparent-clause-err
returns-in_err-reparent-clause-err c =
    let rows = same_rows (heap_of c.self.inside.nodes) (heap_of c.reparent.new.nodes) c.self.inside.index.entries c.self.inside.index.entries c.in_err-reparent.ensures.err.0 refl in
    on_err c.from_residual-in_err-reparent.result (rw (← c.self.view_is) (ap (λ (rows : List Row). record (record { rows = rows; next = c.self.inside.next; capacity = c.self.inside.capacity; limits = c.self.inside.limits }) { rows = rows }) rows))

pub returns-in_err-reparent-clause-memory : goal.returns-in_err-reparent-clause-memory
returns-in_err-reparent-clause-memory c =
    refused_by c.from_residual-in_err-reparent.result (λ fault. fault ≡ NoMemory) (rw (← c.self.view_is) (fault_is c.self.inside c.args.number c.in-Some.slot c.self.invariant (sym c.in-Some.ensures) (parts_of c.args.path.now) c.move_fault.result c.move_fault.ensures ∙ c.in_default-move_fault.is))

pub invariant_of-self-in_default-target : goal.invariant_of-self-in_default-target
invariant_of-self-in_default-target c =
    let may : MayMove c.self.inside c.args.number c.in-Some.slot (parts_of c.args.path.now) c.in-Some-walk_down.folder = record { keeps = c.self.invariant; at = sym c.in-Some.ensures; root = c.requires; is_movable = may_move c.self.inside c.args.number c.in-Some.slot c.self.invariant (sym c.in-Some.ensures) (parts_of c.args.path.now) c.move_fault.result c.move_fault.ensures c.in_default-move_fault.is c.requires; at_up = ap (walk (heap_of c.self.inside.nodes) (Some 0)) (sym c.around.ensures) ∙ sym c.walk_down.ensures ∙ c.in-Some-walk_down.is } in
    let none : walk (heap_of c.self.inside.nodes) (Some 0) (folded_path (parts_of c.args.path.now)) ≡ None = sym c.target_in-target.ensures ∙ c.in_default-target.is in
    let low : NoneBelow (heap_of c.self.inside.nodes) c.in-Some.slot c.levels_beneath-below.result = c.levels_beneath-below.ensures.below c.self.inside.index.entries c.self.inside.next c.self.invariant.is_tree (c.bound_for-bound.ensures c.self.inside.index.entries c.self.inside.next c.self.invariant.is_tree c.self.invariant.bound) in
    record { is_tree = free_keeps c.self.inside c.args.number c.in-Some.slot (parts_of c.args.path.now) c.in-Some-walk_down.folder may (heap_of c.reparent.new.nodes) (rw c.in_ok-spelling.ensures.units at c.in_ok-reparent.ensures.ok) none; used = free_space c.self.inside c.args.number c.in-Some.slot (parts_of c.args.path.now) c.in-Some-walk_down.folder may (heap_of c.reparent.new.nodes) (rw c.in_ok-spelling.ensures.units at c.in_ok-reparent.ensures.ok) none; bound = free_bound c.self.inside c.args.number c.in-Some.slot (parts_of c.args.path.now) c.in-Some-walk_down.folder may (heap_of c.reparent.new.nodes) (rw c.in_ok-spelling.ensures.units at c.in_ok-reparent.ensures.ok) none c.bound_for-bound.result (c.bound_for-bound.ensures c.self.inside.index.entries c.self.inside.next c.self.invariant.is_tree c.self.invariant.bound) c.len-count.result c.levels_beneath-below.result c.deepest_with-deepest.result c.len-count.ensures.len low c.deepest_with-deepest.ensures }

pub returns-in_default-target-clause-ok : goal.returns-in_default-target-clause-ok
returns-in_default-target-clause-ok c =
    let may : MayMove c.self.inside c.args.number c.in-Some.slot (parts_of c.args.path.now) c.in-Some-walk_down.folder = record { keeps = c.self.invariant; at = sym c.in-Some.ensures; root = c.requires; is_movable = may_move c.self.inside c.args.number c.in-Some.slot c.self.invariant (sym c.in-Some.ensures) (parts_of c.args.path.now) c.move_fault.result c.move_fault.ensures c.in_default-move_fault.is c.requires; at_up = ap (walk (heap_of c.self.inside.nodes) (Some 0)) (sym c.around.ensures) ∙ sym c.walk_down.ensures ∙ c.in-Some-walk_down.is } in
    let none : walk (heap_of c.self.inside.nodes) (Some 0) (folded_path (parts_of c.args.path.now)) ≡ None = sym c.target_in-target.ensures ∙ c.in_default-target.is in
    rw (← c.self.view_is) (free_content c.self.inside c.args.number c.in-Some.slot (parts_of c.args.path.now) c.in-Some-walk_down.folder may (heap_of c.reparent.new.nodes) (rw c.in_ok-spelling.ensures.units at c.in_ok-reparent.ensures.ok) none)

pub returns-in_default-target-clause-lawful : goal.returns-in_default-target-clause-lawful
returns-in_default-target-clause-lawful c =
    rw (← c.self.view_is) (fault_is c.self.inside c.args.number c.in-Some.slot c.self.invariant (sym c.in-Some.ensures) (parts_of c.args.path.now) c.move_fault.result c.move_fault.ensures ∙ c.in_default-move_fault.is)

pub evict-requires : goal.evict-requires
evict-requires c =
    let may : MayMove c.self.inside c.args.number c.in-Some.slot (parts_of c.args.path.now) c.in-Some-walk_down.folder = record { keeps = c.self.invariant; at = sym c.in-Some.ensures; root = c.requires; is_movable = may_move c.self.inside c.args.number c.in-Some.slot c.self.invariant (sym c.in-Some.ensures) (parts_of c.args.path.now) c.move_fault.result c.move_fault.ensures c.in_default-move_fault.is c.requires; at_up = ap (walk (heap_of c.self.inside.nodes) (Some 0)) (sym c.around.ensures) ∙ sym c.walk_down.ensures ∙ c.in-Some-walk_down.is } in
    let there : walk (heap_of c.self.inside.nodes) (Some 0) (folded_path (parts_of c.args.path.now)) ≡ Some c.in-Some-target.other = sym c.target_in-target.ensures ∙ c.in-Some-target.is in
    let other : c.in-Some.slot == c.in-Some-target.other ≡ false = not_it c.target_in-target.result c.in-Some.slot c.in-Some-target.other (c.is_slot.ensures.no c.if-is_slot.false) c.in-Some-target.is in
    target_there c.self.inside c.args.number c.in-Some.slot (parts_of c.args.path.now) c.in-Some-walk_down.folder may (heap_of c.reparent.new.nodes) (rw c.in_ok-spelling.ensures.units at c.in_ok-reparent.ensures.ok) c.in-Some-target.other there other

pub overflow_sub-self : goal.overflow_sub-self
overflow_sub-self c =
    let may : MayMove c.self.inside c.args.number c.in-Some.slot (parts_of c.args.path.now) c.in-Some-walk_down.folder = record { keeps = c.self.invariant; at = sym c.in-Some.ensures; root = c.requires; is_movable = may_move c.self.inside c.args.number c.in-Some.slot c.self.invariant (sym c.in-Some.ensures) (parts_of c.args.path.now) c.move_fault.result c.move_fault.ensures c.in_default-move_fault.is c.requires; at_up = ap (walk (heap_of c.self.inside.nodes) (Some 0)) (sym c.around.ensures) ∙ sym c.walk_down.ensures ∙ c.in-Some-walk_down.is } in
    let there : walk (heap_of c.self.inside.nodes) (Some 0) (folded_path (parts_of c.args.path.now)) ≡ Some c.in-Some-target.other = sym c.target_in-target.ensures ∙ c.in-Some-target.is in
    let other : c.in-Some.slot == c.in-Some-target.other ≡ false = not_it c.target_in-target.result c.in-Some.slot c.in-Some-target.other (c.is_slot.ensures.no c.if-is_slot.false) c.in-Some-target.is in
    over_enough c.self.inside c.args.number c.in-Some.slot (parts_of c.args.path.now) c.in-Some-walk_down.folder may (heap_of c.reparent.new.nodes) (rw c.in_ok-spelling.ensures.units at c.in_ok-reparent.ensures.ok) c.in-Some-target.other there other (heap_of c.evict.new.nodes) c.evict.new.index.entries c.evict.result c.evict.ensures.nodes c.evict.ensures.index c.evict.ensures.space

pub invariant_of-self-2 : goal.invariant_of-self-2
invariant_of-self-2 c =
    let may : MayMove c.self.inside c.args.number c.in-Some.slot (parts_of c.args.path.now) c.in-Some-walk_down.folder = record { keeps = c.self.invariant; at = sym c.in-Some.ensures; root = c.requires; is_movable = may_move c.self.inside c.args.number c.in-Some.slot c.self.invariant (sym c.in-Some.ensures) (parts_of c.args.path.now) c.move_fault.result c.move_fault.ensures c.in_default-move_fault.is c.requires; at_up = ap (walk (heap_of c.self.inside.nodes) (Some 0)) (sym c.around.ensures) ∙ sym c.walk_down.ensures ∙ c.in-Some-walk_down.is } in
    let there : walk (heap_of c.self.inside.nodes) (Some 0) (folded_path (parts_of c.args.path.now)) ≡ Some c.in-Some-target.other = sym c.target_in-target.ensures ∙ c.in-Some-target.is in
    let other : c.in-Some.slot == c.in-Some-target.other ≡ false = not_it c.target_in-target.result c.in-Some.slot c.in-Some-target.other (c.is_slot.ensures.no c.if-is_slot.false) c.in-Some-target.is in
    let low : NoneBelow (heap_of c.self.inside.nodes) c.in-Some.slot c.levels_beneath-below.result = c.levels_beneath-below.ensures.below c.self.inside.index.entries c.self.inside.next c.self.invariant.is_tree (c.bound_for-bound.ensures c.self.inside.index.entries c.self.inside.next c.self.invariant.is_tree c.self.invariant.bound) in
    record { is_tree = over_keeps c.self.inside c.args.number c.in-Some.slot (parts_of c.args.path.now) c.in-Some-walk_down.folder may (heap_of c.reparent.new.nodes) (rw c.in_ok-spelling.ensures.units at c.in_ok-reparent.ensures.ok) c.in-Some-target.other there other (heap_of c.evict.new.nodes) c.evict.new.index.entries c.evict.result c.evict.ensures.nodes c.evict.ensures.index c.evict.ensures.space; used = over_space c.self.inside c.args.number c.in-Some.slot (parts_of c.args.path.now) c.in-Some-walk_down.folder may (heap_of c.reparent.new.nodes) (rw c.in_ok-spelling.ensures.units at c.in_ok-reparent.ensures.ok) c.in-Some-target.other there other (heap_of c.evict.new.nodes) c.evict.new.index.entries c.evict.result c.evict.ensures.nodes c.evict.ensures.index c.evict.ensures.space; bound = over_bound c.self.inside c.args.number c.in-Some.slot (parts_of c.args.path.now) c.in-Some-walk_down.folder may (heap_of c.reparent.new.nodes) (rw c.in_ok-spelling.ensures.units at c.in_ok-reparent.ensures.ok) c.in-Some-target.other there other (heap_of c.evict.new.nodes) c.evict.new.index.entries c.evict.result c.evict.ensures.nodes c.evict.ensures.index c.evict.ensures.space c.bound_for-bound.result (c.bound_for-bound.ensures c.self.inside.index.entries c.self.inside.next c.self.invariant.is_tree c.self.invariant.bound) c.len-count.result c.levels_beneath-below.result c.deepest_with-deepest.result c.len-count.ensures.len low c.deepest_with-deepest.ensures }

pub returns-clause-ok : goal.returns-clause-ok
returns-clause-ok c =
    let may : MayMove c.self.inside c.args.number c.in-Some.slot (parts_of c.args.path.now) c.in-Some-walk_down.folder = record { keeps = c.self.invariant; at = sym c.in-Some.ensures; root = c.requires; is_movable = may_move c.self.inside c.args.number c.in-Some.slot c.self.invariant (sym c.in-Some.ensures) (parts_of c.args.path.now) c.move_fault.result c.move_fault.ensures c.in_default-move_fault.is c.requires; at_up = ap (walk (heap_of c.self.inside.nodes) (Some 0)) (sym c.around.ensures) ∙ sym c.walk_down.ensures ∙ c.in-Some-walk_down.is } in
    let there : walk (heap_of c.self.inside.nodes) (Some 0) (folded_path (parts_of c.args.path.now)) ≡ Some c.in-Some-target.other = sym c.target_in-target.ensures ∙ c.in-Some-target.is in
    let other : c.in-Some.slot == c.in-Some-target.other ≡ false = not_it c.target_in-target.result c.in-Some.slot c.in-Some-target.other (c.is_slot.ensures.no c.if-is_slot.false) c.in-Some-target.is in
    rw (← c.self.view_is) (over_content c.self.inside c.args.number c.in-Some.slot (parts_of c.args.path.now) c.in-Some-walk_down.folder may (heap_of c.reparent.new.nodes) (rw c.in_ok-spelling.ensures.units at c.in_ok-reparent.ensures.ok) c.in-Some-target.other there other (heap_of c.evict.new.nodes) c.evict.new.index.entries c.evict.result c.evict.ensures.nodes c.evict.ensures.index c.evict.ensures.space)

pub returns-clause-lawful : goal.returns-clause-lawful
returns-clause-lawful c =
    rw (← c.self.view_is) (fault_is c.self.inside c.args.number c.in-Some.slot c.self.invariant (sym c.in-Some.ensures) (parts_of c.args.path.now) c.move_fault.result c.move_fault.ensures ∙ c.in_default-move_fault.is)
