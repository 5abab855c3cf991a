use Rattle.std.proofs.Common.{◌+◌, ◌-◌, ℕ, refl, sym, ap, ◌∙◌}
use Rattle.smb_tree.specs.Entries.{Entry}
use Rattle.smb_tree.specs.Content.{resized}
use Rattle.smb_tree.proofs.Changes.{size_fault_is}
use Rattle.smb_tree.proofs.Parts.{length-resized}
use Rattle.smb_nodes.specs.Nodes.{row_in, levels, entry_of_slot}
use Rattle.smb_nodes.specs.Seen.{heap_of}
use Rattle.smb_nodes.specs.Tree.{content_kept}
use Rattle.smb_nodes.proofs.Kept.{no_row, live_is, row_is, kept_tree, kept_bound, kept_content, sized_used, others_use, enough}
use Rattle.smb_nodes.proofs.tree.NodeTreeTree.set_size.Goals as goal

pub returns-in_default-clause-why : goal.returns-in_default-clause-why
returns-in_default-clause-why c =
    let none = no_row c.self.inside c.args.number c.self.invariant (sym c.slot_of.ensures ∙ c.in_default.is) in
    λ _. rw (← c.self.view_is, none) refl

pub space_of-requires : goal.space_of-requires
space_of-requires c = live_is c.self.inside c.args.number c.in-Some.slot c.self.invariant (sym c.in-Some.ensures)

pub overflow_sub-others : goal.overflow_sub-others
overflow_sub-others c = enough c.self.inside c.args.number c.in-Some.slot c.self.invariant (sym c.in-Some.ensures) c.space_of.result c.space_of.ensures

pub size_fault-requires-clause-live : goal.size_fault-requires-clause-live
size_fault-requires-clause-live c = live_is c.self.inside c.args.number c.in-Some.slot c.self.invariant (sym c.in-Some.ensures)

pub returns-in-Some-size_fault-clause-why : goal.returns-in-Some-size_fault-clause-why
returns-in-Some-size_fault-clause-why c =
    let row = row_is c.self.inside c.args.number c.in-Some.slot c.self.invariant (sym c.in-Some.ensures) in
    let whole = others_use c.self.inside c.args.number c.in-Some.slot c.self.invariant (sym c.in-Some.ensures) c.space_of.result c.space_of.ensures in
    λ _. rw (← c.self.view_is) (size_fault_is (content_kept c.self.inside) c.args.number c.args.size (c.self.inside.used - c.space_of.result) (row_in (heap_of c.self.inside.nodes) levels c.in-Some.slot) c.size_fault.result row whole c.size_fault.ensures ∙ c.in-Some-size_fault.is)

pub resize-requires-clause-live : goal.resize-requires-clause-live
resize-requires-clause-live c = live_is c.self.inside c.args.number c.in-Some.slot c.self.invariant (sym c.in-Some.ensures)

pub invariant_of-self : goal.invariant_of-self
invariant_of-self c =
    record {
      is_tree = kept_tree c.self.inside c.args.number c.in-Some.slot c.self.invariant (sym c.in-Some.ensures) (heap_of c.resize.new.nodes) (λ (entry : Entry). record entry { bytes = resized c.args.size entry.bytes }) (record { number = λ e. refl; kind = λ e. refl }) c.resize.ensures;
      used = ap (λ (n : ℕ). c.self.inside.used - c.space_of.result + n) c.allocation_size.ensures ∙ sized_used c.self.inside c.args.number c.in-Some.slot c.self.invariant (sym c.in-Some.ensures) (heap_of c.resize.new.nodes) (λ (entry : Entry). record entry { bytes = resized c.args.size entry.bytes }) (record { number = λ e. refl; kind = λ e. refl }) c.resize.ensures c.args.size c.space_of.result c.space_of.ensures (length-resized c.args.size (entry_of_slot (heap_of c.self.inside.nodes) c.in-Some.slot).bytes);
      bound = kept_bound c.self.inside c.args.number c.in-Some.slot c.self.invariant (sym c.in-Some.ensures) (heap_of c.resize.new.nodes) (λ (entry : Entry). record entry { bytes = resized c.args.size entry.bytes }) (record { number = λ e. refl; kind = λ e. refl }) c.resize.ensures;
    }

pub returns-clause-ok : goal.returns-clause-ok
returns-clause-ok c =
    let content = kept_content c.self.inside c.args.number c.in-Some.slot c.self.invariant (sym c.in-Some.ensures) (heap_of c.resize.new.nodes) (λ (entry : Entry). record entry { bytes = resized c.args.size entry.bytes }) (record { number = λ e. refl; kind = λ e. refl }) c.resize.ensures in
    rw (← c.self.view_is) content

pub returns-clause-lawful : goal.returns-clause-lawful
returns-clause-lawful c =
    let row = row_is c.self.inside c.args.number c.in-Some.slot c.self.invariant (sym c.in-Some.ensures) in
    let whole = others_use c.self.inside c.args.number c.in-Some.slot c.self.invariant (sym c.in-Some.ensures) c.space_of.result c.space_of.ensures in
    rw (← c.self.view_is) (size_fault_is (content_kept c.self.inside) c.args.number c.args.size (c.self.inside.used - c.space_of.result) (row_in (heap_of c.self.inside.nodes) levels c.in-Some.slot) c.size_fault.result row whole c.size_fault.ensures ∙ c.in_default-size_fault.is)
