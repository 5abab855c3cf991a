use Rattle.std.proofs.Common.{◌≡◌, ◌+◌, ◌-◌, ℕ, max, length, rules, refl, sym, ap, ◌∙◌, arith}
use Rattle.smb_tree.specs.Entries.{Entry, is_folder_kind}
use Rattle.smb_tree.specs.Content.{written, used_space}
use Rattle.smb_tree.proofs.Changes.{write_fault_is, within_limit}
use Rattle.smb_tree.proofs.Parts.{length-written}
use Rattle.smb_nodes.specs.Nodes.{row_in, levels, entry_of_slot}
use Rattle.smb_nodes.specs.Seen.{heap_of}
use Rattle.smb_nodes.specs.Tree.{content_kept}
use Rattle.smb_nodes.proofs.Kept.{no_row, live_is, row_is, kept_tree, kept_bound, kept_content, sized_used, others_use, enough, same_tree, same_rows, same_bound}
use Rattle.smb_tree.specs.declared.fault.TreeFault.TheVariants.{NoMemory}
use Rattle.smb_tree.proofs.Refused.{refused_by}
use Rattle.smb_nodes.proofs.tree.NodeTreeTree.write.Goals as goal

pub returns-in_default-clause-why : goal.returns-in_default-clause-why
returns-in_default-clause-why c =
    let none = no_row c.self.inside c.args.number c.self.invariant (sym c.slot_of.ensures ∙ c.in_default.is) in
    λ _. rw (← c.self.view_is, none) refl

pub space_of-requires : goal.space_of-requires
space_of-requires c = live_is c.self.inside c.args.number c.in-Some.slot c.self.invariant (sym c.in-Some.ensures)

pub overflow_sub-others : goal.overflow_sub-others
overflow_sub-others c = enough c.self.inside c.args.number c.in-Some.slot c.self.invariant (sym c.in-Some.ensures) c.space_of.result c.space_of.ensures

pub size_written-new_size-requires : goal.size_written-new_size-requires
size_written-new_size-requires c = live_is c.self.inside c.args.number c.in-Some.slot c.self.invariant (sym c.in-Some.ensures)

pub size_fault-requires-clause-live : goal.size_fault-requires-clause-live
size_fault-requires-clause-live c = live_is c.self.inside c.args.number c.in-Some.slot c.self.invariant (sym c.in-Some.ensures)

pub returns-in-Some-size_fault-clause-why : goal.returns-in-Some-size_fault-clause-why
returns-in-Some-size_fault-clause-why c =
    let row = row_is c.self.inside c.args.number c.in-Some.slot c.self.invariant (sym c.in-Some.ensures) in
    let whole = others_use c.self.inside c.args.number c.in-Some.slot c.self.invariant (sym c.in-Some.ensures) c.space_of.result c.space_of.ensures in
    λ _. rw (← c.self.view_is) (write_fault_is (content_kept c.self.inside) c.args.number c.args.offset (length c.args.buffer.now) c.size_written-new_size.result (c.self.inside.used - c.space_of.result) (row_in (heap_of c.self.inside.nodes) levels c.in-Some.slot) c.size_fault.result row whole c.size_written-new_size.ensures c.size_fault.ensures ∙ c.in-Some-size_fault.is)

pub overwrite-requires-clause-live : goal.overwrite-requires-clause-live
overwrite-requires-clause-live c = live_is c.self.inside c.args.number c.in-Some.slot c.self.invariant (sym c.in-Some.ensures)

pub invariant_of-self : goal.invariant_of-self
invariant_of-self c = record {
  is_tree = same_tree (heap_of c.self.inside.nodes) (heap_of c.overwrite.new.nodes) c.self.inside.index.entries c.self.inside.index.entries c.self.inside.next c.in_err-overwrite.ensures.err.0 refl c.self.invariant.is_tree;
  used = c.self.invariant.used ∙ sym (ap used_space (same_rows (heap_of c.self.inside.nodes) (heap_of c.overwrite.new.nodes) c.self.inside.index.entries c.self.inside.index.entries c.in_err-overwrite.ensures.err.0 refl));
  bound = same_bound (heap_of c.self.inside.nodes) (heap_of c.overwrite.new.nodes) c.self.inside.index.entries c.self.inside.index.entries c.self.inside.deepest c.in_err-overwrite.ensures.err.0 refl c.self.invariant.bound;
}

pub returns-in_err-overwrite-clause-err : goal.returns-in_err-overwrite-clause-err
returns-in_err-overwrite-clause-err c =
    let rows = same_rows (heap_of c.self.inside.nodes) (heap_of c.overwrite.new.nodes) c.self.inside.index.entries c.self.inside.index.entries c.in_err-overwrite.ensures.err.0 refl in
    rw (← c.self.view_is, rows) (search rules)

pub invariant_of-self-2 : goal.invariant_of-self-2
invariant_of-self-2 c =
    let small = within_limit c.self.inside.limits.file_bytes c.size_written-new_size.result (c.self.inside.used - c.space_of.result) c.self.inside.capacity (is_folder_kind (entry_of_slot (heap_of c.self.inside.nodes) c.in-Some.slot).kind) c.size_fault.result c.size_fault.ensures c.in_default-size_fault.is in
    let size : c.size_written-new_size.result ≡ max (length (entry_of_slot (heap_of c.self.inside.nodes) c.in-Some.slot).bytes) (c.args.offset + length c.args.buffer.now) = omega (arith, c.size_written-new_size.ensures, small, c.self.inside.limits.few_bytes) in
    record {
      is_tree = kept_tree c.self.inside c.args.number c.in-Some.slot c.self.invariant (sym c.in-Some.ensures) (heap_of c.overwrite.new.nodes) (λ (entry : Entry). record entry { bytes = written c.args.offset c.args.buffer.now entry.bytes }) (record { number = λ e. refl; kind = λ e. refl }) c.in_ok-overwrite.ensures.ok;
      used = ap (λ (n : ℕ). c.self.inside.used - c.space_of.result + n) c.allocation_size.ensures ∙ sized_used c.self.inside c.args.number c.in-Some.slot c.self.invariant (sym c.in-Some.ensures) (heap_of c.overwrite.new.nodes) (λ (entry : Entry). record entry { bytes = written c.args.offset c.args.buffer.now entry.bytes }) (record { number = λ e. refl; kind = λ e. refl }) c.in_ok-overwrite.ensures.ok c.size_written-new_size.result c.space_of.result c.space_of.ensures (length-written c.args.offset c.args.buffer.now (entry_of_slot (heap_of c.self.inside.nodes) c.in-Some.slot).bytes ∙ sym size);
      bound = kept_bound c.self.inside c.args.number c.in-Some.slot c.self.invariant (sym c.in-Some.ensures) (heap_of c.overwrite.new.nodes) (λ (entry : Entry). record entry { bytes = written c.args.offset c.args.buffer.now entry.bytes }) (record { number = λ e. refl; kind = λ e. refl }) c.in_ok-overwrite.ensures.ok;
    }

pub returns-in_err-overwrite-clause-memory : goal.returns-in_err-overwrite-clause-memory
returns-in_err-overwrite-clause-memory c =
    let row = row_is c.self.inside c.args.number c.in-Some.slot c.self.invariant (sym c.in-Some.ensures) in
    let whole = others_use c.self.inside c.args.number c.in-Some.slot c.self.invariant (sym c.in-Some.ensures) c.space_of.result c.space_of.ensures in
    refused_by c.from_residual.result (λ fault. fault ≡ NoMemory) (rw (← c.self.view_is) (write_fault_is (content_kept c.self.inside) c.args.number c.args.offset (length c.args.buffer.now) c.size_written-new_size.result (c.self.inside.used - c.space_of.result) (row_in (heap_of c.self.inside.nodes) levels c.in-Some.slot) c.size_fault.result row whole c.size_written-new_size.ensures c.size_fault.ensures ∙ c.in_default-size_fault.is))

pub returns-clause-ok : goal.returns-clause-ok
returns-clause-ok c =
    let content = kept_content c.self.inside c.args.number c.in-Some.slot c.self.invariant (sym c.in-Some.ensures) (heap_of c.overwrite.new.nodes) (λ (entry : Entry). record entry { bytes = written c.args.offset c.args.buffer.now entry.bytes }) (record { number = λ e. refl; kind = λ e. refl }) c.in_ok-overwrite.ensures.ok in
    rw (← c.self.view_is) content

pub returns-clause-lawful : goal.returns-clause-lawful
returns-clause-lawful c =
    let row = row_is c.self.inside c.args.number c.in-Some.slot c.self.invariant (sym c.in-Some.ensures) in
    let whole = others_use c.self.inside c.args.number c.in-Some.slot c.self.invariant (sym c.in-Some.ensures) c.space_of.result c.space_of.ensures in
    rw (← c.self.view_is) (write_fault_is (content_kept c.self.inside) c.args.number c.args.offset (length c.args.buffer.now) c.size_written-new_size.result (c.self.inside.used - c.space_of.result) (row_in (heap_of c.self.inside.nodes) levels c.in-Some.slot) c.size_fault.result row whole c.size_written-new_size.ensures c.size_fault.ensures ∙ c.in_default-size_fault.is)
