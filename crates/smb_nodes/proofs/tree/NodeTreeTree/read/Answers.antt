use Rattle.std.proofs.Common.{◌≡◌, ℕ, List, ◌++◌, refl, sym, ap, ◌∙◌}
use Rattle.smb_tree.specs.Parts.{part}
use Rattle.smb_tree.proofs.Changes.{read_fault_is}
use Rattle.smb_nodes.specs.Nodes.{row_in, levels}
use Rattle.smb_nodes.specs.Seen.{heap_of}
use Rattle.smb_nodes.specs.Tree.{content_kept}
use Rattle.smb_nodes.proofs.Kept.{no_row, row_is, has_node, kind_is, bytes_are}
use Rattle.smb_tree.specs.declared.fault.TreeFault.TheVariants.{NoMemory}
use Rattle.smb_tree.proofs.Refused.{refused_by}
use Rattle.smb_nodes.proofs.tree.NodeTreeTree.read.Goals as goal

pub returns-in_default-clause-why : goal.returns-in_default-clause-why
returns-in_default-clause-why c =
    let none = no_row c.self.inside c.args.number c.self.invariant (sym c.slot_of.ensures ∙ c.in_default.is) in
    λ _. rw (← c.self.view_is, none) refl

pub index-node-requires : goal.index-node-requires
index-node-requires c = has_node c.self.inside c.args.number c.in-Some.slot c.self.invariant (sym c.in-Some.ensures)

pub returns-then-is_folder-clause-why : goal.returns-then-is_folder-clause-why
returns-then-is_folder-clause-why c =
    let row = row_is c.self.inside c.args.number c.in-Some.slot c.self.invariant (sym c.in-Some.ensures) in
    let kind = kind_is c.self.inside c.args.number c.in-Some.slot c.self.invariant (sym c.in-Some.ensures) c.index-node.result.now c.index-node.ensures in
    λ _. rw (← c.self.view_is) (read_fault_is (content_kept c.self.inside).rows c.args.number (row_in (heap_of c.self.inside.nodes) levels c.in-Some.slot) _ row (kind ∙ sym c.is_folder.ensures ∙ c.if-is_folder.true))

pub returns-in_err-add_part-clause-memory : goal.returns-in_err-add_part-clause-memory
returns-in_err-add_part-clause-memory c =
    let row = row_is c.self.inside c.args.number c.in-Some.slot c.self.invariant (sym c.in-Some.ensures) in
    let kind = kind_is c.self.inside c.args.number c.in-Some.slot c.self.invariant (sym c.in-Some.ensures) c.index-node.result.now c.index-node.ensures in
    refused_by c.from_residual.result (λ fault. fault ≡ NoMemory) (rw (← c.self.view_is) (read_fault_is (content_kept c.self.inside).rows c.args.number (row_in (heap_of c.self.inside.nodes) levels c.in-Some.slot) _ row (kind ∙ sym c.is_folder.ensures ∙ c.if-is_folder.false)))

pub returns-clause-ok : goal.returns-clause-ok
returns-clause-ok c =
    let bytes = bytes_are c.self.inside c.args.number c.in-Some.slot c.self.invariant (sym c.in-Some.ensures) c.index-node.result.now c.index-node.ensures in
    rw (← c.self.view_is) (c.in_ok-add_part.ensures.ok ∙ ap (λ (xs : List ℕ). c.args.bytes.now.items ++ part c.args.offset c.args.count xs) (sym bytes))

pub returns-clause-lawful : goal.returns-clause-lawful
returns-clause-lawful c =
    let row = row_is c.self.inside c.args.number c.in-Some.slot c.self.invariant (sym c.in-Some.ensures) in
    let kind = kind_is c.self.inside c.args.number c.in-Some.slot c.self.invariant (sym c.in-Some.ensures) c.index-node.result.now c.index-node.ensures in
    rw (← c.self.view_is) (read_fault_is (content_kept c.self.inside).rows c.args.number (row_in (heap_of c.self.inside.nodes) levels c.in-Some.slot) _ row (kind ∙ sym c.is_folder.ensures ∙ c.if-is_folder.false))
