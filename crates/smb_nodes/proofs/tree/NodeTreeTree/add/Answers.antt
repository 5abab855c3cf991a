use Rattle.std.proofs.Common.{◌≡◌, ◌+◌, ◌++◌, ◌∷◌, [], max, ℕ, false, List, Some, None, arith, refl, sym, ap, ◌∙◌}
use Rattle.std.proofs.lemmas.List.{length-map}
use Rattle.smb_wire.specs.Names.{folded}
use Rattle.smb_wire.specs.Paths.{folded_path}
use Rattle.smb_wire.specs.PathViews.{parts_of}
use Rattle.smb_tree.specs.Content.{Row, parent, used_space}
use Rattle.smb_tree.specs.Entries.{last_part, new_entry}
use Rattle.smb_tree.proofs.Additions.{number_left}
use Rattle.smb_nodes.specs.Nodes.{child_in, entry_down, walk, rows_in, levels}
use Rattle.smb_nodes.specs.Seen.{heap_of}
use Rattle.smb_wire.proofs.Parting.{ends_count}
use Rattle.smb_nodes.proofs.Adding.{IsLawful, lawful, short_path, name_free, grown_tree, grown_rows, grown_used}
use Rattle.smb_nodes.proofs.Bounds.{bound_same, bound_added}
use Rattle.smb_nodes.proofs.Kept.{same_tree, same_rows, same_bound}
use Rattle.smb_nodes.proofs.Numbered.{add_fault_down}
use Rattle.smb_nodes.proofs.Putting.{on_err}
use Rattle.smb_tree.specs.declared.fault.TreeFault.TheVariants.{NoMemory}
use Rattle.smb_tree.proofs.Refused.{refused_by}
use Rattle.smb_nodes.proofs.tree.NodeTreeTree.add.Goals as goal

pub returns-in_default-clause-why : goal.returns-in_default-clause-why
returns-in_default-clause-why c =
    let n = add_fault_down (heap_of c.self.inside.nodes) c.self.inside.index.entries c.self.inside.next c.self.inside.capacity c.self.inside.limits (folded_path (parts_of c.args.path.now)) c.self.invariant.is_tree in
    let none : walk (heap_of c.self.inside.nodes) (Some 0) (parent (folded_path (parts_of c.args.path.now))) ≡ None = ap (walk (heap_of c.self.inside.nodes) (Some 0)) (sym c.around.ensures) ∙ sym c.walk_down.ensures ∙ c.in_default.is in
    λ _. rw (← c.self.view_is, n, none) refl

pub returns-in-Some-add_fault-clause-why : goal.returns-in-Some-add_fault-clause-why
returns-in-Some-add_fault-clause-why c =
    let n = add_fault_down (heap_of c.self.inside.nodes) c.self.inside.index.entries c.self.inside.next c.self.inside.capacity c.self.inside.limits (folded_path (parts_of c.args.path.now)) c.self.invariant.is_tree in
    λ _. rw (← c.self.view_is, n, ← c.len.ensures.len, ← c.add_fault.ensures) c.in-Some-add_fault.is

pub place-requires-clause-free : goal.place-requires-clause-free
place-requires-clause-free c =
    let w : IsLawful (entry_down (heap_of c.self.inside.nodes)) (folded_path (parts_of c.args.path.now)) = lawful (entry_down (heap_of c.self.inside.nodes)) c.self.inside.limits.entries c.len.result c.self.inside.next (folded_path (parts_of c.args.path.now)) (sym c.add_fault.ensures ∙ c.in_default-add_fault.is) (short_path (parts_of c.args.path.now) c.args.path.now.ends.count (ends_count _ _ _ c.args.path.now.kept.ends) c.args.path.now.kept.ends.few) in
    ap (λ (us : List ℕ). child_in (heap_of c.self.inside.nodes c.in-Some.parent) (folded us)) c.in_ok-spelling.ensures.units
    ∙ name_free (heap_of c.self.inside.nodes) c.self.inside.index.entries c.self.inside.next (parts_of c.args.path.now) c.self.invariant.is_tree w c.in-Some.parent (ap (walk (heap_of c.self.inside.nodes) (Some 0)) (sym c.around.ensures) ∙ sym c.walk_down.ensures ∙ c.in-Some.is)

pub invariant_of-self : goal.invariant_of-self
invariant_of-self c = record {
  is_tree = same_tree (heap_of c.self.inside.nodes) (heap_of c.place.new.nodes) c.self.inside.index.entries c.place.new.index.entries c.self.inside.next c.in_err-place.ensures.err.0 c.in_err-place.ensures.err_index c.self.invariant.is_tree;
  used = c.self.invariant.used ∙ sym (ap used_space (same_rows (heap_of c.self.inside.nodes) (heap_of c.place.new.nodes) c.self.inside.index.entries c.place.new.index.entries c.in_err-place.ensures.err.0 c.in_err-place.ensures.err_index));
  bound = same_bound (heap_of c.self.inside.nodes) (heap_of c.place.new.nodes) c.self.inside.index.entries c.place.new.index.entries c.self.inside.deepest c.in_err-place.ensures.err.0 c.in_err-place.ensures.err_index c.self.invariant.bound;
}

pub returns-in_err-place-clause-err : goal.returns-in_err-place-clause-err
returns-in_err-place-clause-err c =
    let rows = same_rows (heap_of c.self.inside.nodes) (heap_of c.place.new.nodes) c.self.inside.index.entries c.place.new.index.entries c.in_err-place.ensures.err.0 c.in_err-place.ensures.err_index in
    on_err c.from_residual-in_err-place.result (rw (← c.self.view_is) (ap (λ (rows : List Row). record (record { rows = rows; next = c.self.inside.next; capacity = c.self.inside.capacity; limits = c.self.inside.limits }) { rows = rows }) rows))

pub overflow_add-self : goal.overflow_add-self
overflow_add-self c =
    let left = number_left (entry_down (heap_of c.self.inside.nodes)) c.self.inside.limits.entries c.len.result c.self.inside.next (folded_path (parts_of c.args.path.now)) (sym c.add_fault.ensures ∙ c.in_default-add_fault.is) in
    omega (arith, left)

pub invariant_of-self-2 : goal.invariant_of-self-2
invariant_of-self-2 c =
    let w : IsLawful (entry_down (heap_of c.self.inside.nodes)) (folded_path (parts_of c.args.path.now)) = lawful (entry_down (heap_of c.self.inside.nodes)) c.self.inside.limits.entries c.len.result c.self.inside.next (folded_path (parts_of c.args.path.now)) (sym c.add_fault.ensures ∙ c.in_default-add_fault.is) (short_path (parts_of c.args.path.now) c.args.path.now.ends.count (ends_count _ _ _ c.args.path.now.kept.ends) c.args.path.now.kept.ends.few) in
    let used = grown_used (heap_of c.self.inside.nodes) c.self.inside.index.entries c.self.inside.next (parts_of c.args.path.now) c.self.invariant.is_tree w c.in-Some.parent (ap (walk (heap_of c.self.inside.nodes) (Some 0)) (sym c.around.ensures) ∙ sym c.walk_down.ensures ∙ c.in-Some.is) (heap_of c.place.new.nodes) c.self.inside.nodes.vacant_key (record { number = c.self.inside.next; kind = c.args.kind; spelling = last_part (parts_of c.args.path.now); bytes = c.new-2.result; basic = c.of.result; mark = false }) c.args.kind c.args.attributes.0 c.args.moment (rw c.in_ok-spelling.ensures.units at c.in_ok-place.ensures.ok) (rw (c.of.ensures, c.new-2.ensures) refl) in
    let rows = grown_rows (heap_of c.self.inside.nodes) c.self.inside.index.entries c.self.inside.next (parts_of c.args.path.now) c.self.invariant.is_tree w c.in-Some.parent (ap (walk (heap_of c.self.inside.nodes) (Some 0)) (sym c.around.ensures) ∙ sym c.walk_down.ensures ∙ c.in-Some.is) (heap_of c.place.new.nodes) c.self.inside.nodes.vacant_key (record { number = c.self.inside.next; kind = c.args.kind; spelling = last_part (parts_of c.args.path.now); bytes = c.new-2.result; basic = c.of.result; mark = false }) c.args.kind c.args.attributes.0 c.args.moment (rw c.in_ok-spelling.ensures.units at c.in_ok-place.ensures.ok) (rw (c.of.ensures, c.new-2.ensures) refl) in
    record {
      is_tree = rw c.in_ok-place.ensures.indexed (grown_tree (heap_of c.self.inside.nodes) c.self.inside.index.entries c.self.inside.next (parts_of c.args.path.now) c.self.invariant.is_tree w c.in-Some.parent (ap (walk (heap_of c.self.inside.nodes) (Some 0)) (sym c.around.ensures) ∙ sym c.walk_down.ensures ∙ c.in-Some.is) (heap_of c.place.new.nodes) c.self.inside.nodes.vacant_key (record { number = c.self.inside.next; kind = c.args.kind; spelling = last_part (parts_of c.args.path.now); bytes = c.new-2.result; basic = c.of.result; mark = false }) c.args.kind c.args.attributes.0 c.args.moment (rw c.in_ok-spelling.ensures.units at c.in_ok-place.ensures.ok) (rw (c.of.ensures, c.new-2.ensures) refl));
      used = c.self.invariant.used ∙ sym (ap (λ (es : List (ℕ × ℕ)). used_space (rows_in (heap_of c.place.new.nodes) levels es)) c.in_ok-place.ensures.indexed ∙ used);
      bound = bound_same _ (rows_in (heap_of c.self.inside.nodes) levels c.self.inside.index.entries ++ (folded_path (parts_of c.args.path.now), new_entry c.self.inside.next (parts_of c.args.path.now) c.args.kind c.args.attributes.0 c.args.moment) ∷ []) (rows_in (heap_of c.place.new.nodes) levels c.place.new.index.entries) (ap (λ (es : List (ℕ × ℕ)). rows_in (heap_of c.place.new.nodes) levels es) c.in_ok-place.ensures.indexed ∙ rows)
          (bound_added c.self.inside.deepest _ (rows_in (heap_of c.self.inside.nodes) levels c.self.inside.index.entries) (folded_path (parts_of c.args.path.now), new_entry c.self.inside.next (parts_of c.args.path.now) c.args.kind c.args.attributes.0 c.args.moment) (c.max-self-inside.ensures ∙ ap (λ (n : ℕ). max c.self.inside.deepest n) (c.len-2.ensures.len ∙ sym (length-map (parts_of c.args.path.now) folded))) w.short c.self.invariant.bound);
    }

pub returns-in_err-spelling-clause-memory : goal.returns-in_err-spelling-clause-memory
returns-in_err-spelling-clause-memory c =
    let n = add_fault_down (heap_of c.self.inside.nodes) c.self.inside.index.entries c.self.inside.next c.self.inside.capacity c.self.inside.limits (folded_path (parts_of c.args.path.now)) c.self.invariant.is_tree in
    refused_by c.from_residual.result (λ fault. fault ≡ NoMemory) (rw (← c.self.view_is, n, ← c.len.ensures.len, ← c.add_fault.ensures) c.in_default-add_fault.is)

pub returns-in_err-place-clause-memory : goal.returns-in_err-place-clause-memory
returns-in_err-place-clause-memory c =
    let n = add_fault_down (heap_of c.self.inside.nodes) c.self.inside.index.entries c.self.inside.next c.self.inside.capacity c.self.inside.limits (folded_path (parts_of c.args.path.now)) c.self.invariant.is_tree in
    refused_by c.from_residual-in_err-place.result (λ fault. fault ≡ NoMemory) (rw (← c.self.view_is, n, ← c.len.ensures.len, ← c.add_fault.ensures) c.in_default-add_fault.is)

pub returns-clause-ok : goal.returns-clause-ok
returns-clause-ok c =
    let w : IsLawful (entry_down (heap_of c.self.inside.nodes)) (folded_path (parts_of c.args.path.now)) = lawful (entry_down (heap_of c.self.inside.nodes)) c.self.inside.limits.entries c.len.result c.self.inside.next (folded_path (parts_of c.args.path.now)) (sym c.add_fault.ensures ∙ c.in_default-add_fault.is) (short_path (parts_of c.args.path.now) c.args.path.now.ends.count (ends_count _ _ _ c.args.path.now.kept.ends) c.args.path.now.kept.ends.few) in
    let rows = grown_rows (heap_of c.self.inside.nodes) c.self.inside.index.entries c.self.inside.next (parts_of c.args.path.now) c.self.invariant.is_tree w c.in-Some.parent (ap (walk (heap_of c.self.inside.nodes) (Some 0)) (sym c.around.ensures) ∙ sym c.walk_down.ensures ∙ c.in-Some.is) (heap_of c.place.new.nodes) c.self.inside.nodes.vacant_key (record { number = c.self.inside.next; kind = c.args.kind; spelling = last_part (parts_of c.args.path.now); bytes = c.new-2.result; basic = c.of.result; mark = false }) c.args.kind c.args.attributes.0 c.args.moment (rw c.in_ok-spelling.ensures.units at c.in_ok-place.ensures.ok) (rw (c.of.ensures, c.new-2.ensures) refl) in
    rw (← c.self.view_is) (ap (λ (rows : List Row). record (record { rows = rows; next = c.self.inside.next + 1; capacity = c.self.inside.capacity; limits = c.self.inside.limits }) { rows = rows }) (ap (λ (es : List (ℕ × ℕ)). rows_in (heap_of c.place.new.nodes) levels es) c.in_ok-place.ensures.indexed ∙ rows))

pub returns-clause-lawful : goal.returns-clause-lawful
returns-clause-lawful c =
    let n = add_fault_down (heap_of c.self.inside.nodes) c.self.inside.index.entries c.self.inside.next c.self.inside.capacity c.self.inside.limits (folded_path (parts_of c.args.path.now)) c.self.invariant.is_tree in
    rw (← c.self.view_is, n, ← c.len.ensures.len, ← c.add_fault.ensures) c.in_default-add_fault.is
