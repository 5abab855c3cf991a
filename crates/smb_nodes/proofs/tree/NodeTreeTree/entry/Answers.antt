use Rattle.std.proofs.Common.{◌≡◌, rules, None, sym, ap, ◌∙◌}
use Rattle.std.specs.Option.{option_map}
use Rattle.smb_tree.specs.Views.{shown, row_shown}
use Rattle.smb_nodes.specs.Tree.{content_kept}
use Rattle.smb_nodes.proofs.Kept.{no_row, has_node, entry_shown_is}
use Rattle.smb_nodes.proofs.tree.NodeTreeTree.entry.Goals as goal

pub returns-in_err-slot : goal.returns-in_err-slot
returns-in_err-slot c =
    let none : option_map shown c.from_residual.result ≡ None = search rules in
    none ∙ sym (rw (← c.self.view_is) (ap (option_map (row_shown (content_kept c.self.inside).rows)) (no_row c.self.inside c.args.number c.self.invariant (sym c.slot_of.ensures ∙ c.in_err-slot.was))))

pub index-node-requires : goal.index-node-requires
index-node-requires c = has_node c.self.inside c.args.number c.in_ok-slot.slot c.self.invariant (sym c.in_ok-slot.ensures)

pub returns : goal.returns
returns c = rw (← c.self.view_is) (entry_shown_is c.self.inside c.args.number c.in_ok-slot.slot c.self.invariant (sym c.in_ok-slot.ensures) c.index-node.result.now c.index-node.ensures (shown c.view_of.result) c.view_of.ensures)
