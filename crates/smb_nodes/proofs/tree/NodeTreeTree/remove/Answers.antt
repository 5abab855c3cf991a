use Rattle.std.proofs.Common.{refl, sym, ◌∙◌}
use Rattle.smb_nodes.specs.Seen.{heap_of}
use Rattle.smb_nodes.proofs.Indexed.{remove_is}
use Rattle.smb_nodes.proofs.Kept.{no_row, live_is, enough}
use Rattle.smb_nodes.proofs.Removing.{not_root_slot, above_is, apart_is, full_fault, bare_fault, left_tree, left_bound, left_content, left_used}
use Rattle.smb_nodes.proofs.tree.NodeTreeTree.remove.Goals as goal

pub returns-in_default-clause-why : goal.returns-in_default-clause-why
returns-in_default-clause-why c =
    let none = no_row c.self.inside c.args.number c.self.invariant (sym c.slot_of.ensures ∙ c.in_default.is) in
    rw (← c.self.view_is, none) refl

pub has_child-requires : goal.has_child-requires
has_child-requires c = live_is c.self.inside c.args.number c.in-Some.slot c.self.invariant (sym c.in-Some.ensures)

pub returns-then-has_child-clause-why : goal.returns-then-has_child-clause-why
returns-then-has_child-clause-why c = rw (← c.self.view_is) (full_fault c.self.inside c.args.number c.in-Some.slot c.self.invariant (sym c.in-Some.ensures) (c.has_child.ensures.some c.if-has_child.true))

pub space_of-requires : goal.space_of-requires
space_of-requires c = live_is c.self.inside c.args.number c.in-Some.slot c.self.invariant (sym c.in-Some.ensures)

pub overflow_sub-others : goal.overflow_sub-others
overflow_sub-others c = enough c.self.inside c.args.number c.in-Some.slot c.self.invariant (sym c.in-Some.ensures) c.space_of.result c.space_of.ensures

pub unhang-requires-clause-live : goal.unhang-requires-clause-live
unhang-requires-clause-live c = live_is c.self.inside c.args.number c.in-Some.slot c.self.invariant (sym c.in-Some.ensures)

pub unhang-requires-clause-not_root : goal.unhang-requires-clause-not_root
unhang-requires-clause-not_root c = not_root_slot c.self.inside c.args.number c.in-Some.slot c.self.invariant (sym c.in-Some.ensures) c.requires

pub unhang-requires-clause-above : goal.unhang-requires-clause-above
unhang-requires-clause-above c = above_is c.self.inside c.args.number c.in-Some.slot c.self.invariant (sym c.in-Some.ensures) (not_root_slot c.self.inside c.args.number c.in-Some.slot c.self.invariant (sym c.in-Some.ensures) c.requires)

pub unhang-requires-clause-apart : goal.unhang-requires-clause-apart
unhang-requires-clause-apart c = apart_is c.self.inside c.args.number c.in-Some.slot c.self.invariant (sym c.in-Some.ensures) (not_root_slot c.self.inside c.args.number c.in-Some.slot c.self.invariant (sym c.in-Some.ensures) c.requires) (c.has_child.ensures.none c.if-has_child.false)

pub invariant_of-self : goal.invariant_of-self
invariant_of-self c = record {
  is_tree = left_tree c.self.inside c.args.number c.in-Some.slot c.self.invariant (sym c.in-Some.ensures) (heap_of c.unhang.new.nodes) c.unhang.ensures c.remove.new.self.entries (c.remove.ensures.entries ∙ remove_is c.self.inside.index.entries c.args.number);
  used = left_used c.self.inside c.args.number c.in-Some.slot c.self.invariant (sym c.in-Some.ensures) (heap_of c.unhang.new.nodes) c.unhang.ensures c.remove.new.self.entries (c.remove.ensures.entries ∙ remove_is c.self.inside.index.entries c.args.number) c.space_of.result c.space_of.ensures;
  bound = left_bound c.self.inside c.args.number c.in-Some.slot c.self.invariant (sym c.in-Some.ensures) (heap_of c.unhang.new.nodes) c.unhang.ensures c.remove.new.self.entries (c.remove.ensures.entries ∙ remove_is c.self.inside.index.entries c.args.number);
}

pub returns-clause-ok : goal.returns-clause-ok
returns-clause-ok c =
    rw (← c.self.view_is) (left_content c.self.inside c.args.number c.in-Some.slot c.self.invariant (sym c.in-Some.ensures) (heap_of c.unhang.new.nodes) c.unhang.ensures c.remove.new.self.entries (c.remove.ensures.entries ∙ remove_is c.self.inside.index.entries c.args.number))

pub returns-clause-lawful : goal.returns-clause-lawful
returns-clause-lawful c = rw (← c.self.view_is) (bare_fault c.self.inside c.args.number c.in-Some.slot c.self.invariant (sym c.in-Some.ensures) (c.has_child.ensures.none c.if-has_child.false))
