use Rattle.std.proofs.Common.{◌≡◌, length, rules, refl, sym, ◌∙◌}
use Rattle.smb_nodes.proofs.Copying.{few_above, copied_is}
use Rattle.smb_nodes.proofs.Kept.{no_row, row_is, has_node}
use Rattle.smb_tree.specs.declared.fault.TreeFault.TheVariants.{NoMemory}
use Rattle.smb_tree.proofs.Refused.{refused_by}
use Rattle.smb_nodes.proofs.tree.NodeTreeTree.copy_entry.Goals as goal

pub returns-in_default-clause-why : goal.returns-in_default-clause-why
returns-in_default-clause-why c =
    let none = no_row c.self.inside c.args.number c.self.invariant (sym c.slot_of.ensures ∙ c.in_default.is) in
    λ _. rw (← c.self.view_is, none) refl

pub whole_name-requires : goal.whole_name-requires
whole_name-requires c = few_above c.self.inside c.args.number c.in-Some.slot c.self.invariant (sym c.in-Some.ensures)

pub returns-in_err-name-clause-memory : goal.returns-in_err-name-clause-memory
returns-in_err-name-clause-memory c =
    let row = row_is c.self.inside c.args.number c.in-Some.slot c.self.invariant (sym c.in-Some.ensures) in
    refused_by c.from_residual.result (λ fault. fault ≡ NoMemory) (rw (← c.self.view_is, row) refl)

pub index-node-requires : goal.index-node-requires
index-node-requires c = has_node c.self.inside c.args.number c.in-Some.slot c.self.invariant (sym c.in-Some.ensures)

pub returns-clause-ok : goal.returns-clause-ok
returns-clause-ok c =
    let long : c.size.result ≡ length c.index-node.result.now.bytes = search rules in
    rw (← c.self.view_is) (copied_is c.self.inside c.args.number c.in-Some.slot c.self.invariant (sym c.in-Some.ensures) c.index-node.result.now c.size.result c.in_ok-name.name.items c.index-node.ensures long c.in_ok-name.ensures.name)
