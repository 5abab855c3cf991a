use Rattle.std.proofs.Common.{◌≡◌, ◌+◌, ◌-◌, ℕ, List, length, rules, refl, sym, ap, ◌∙◌, arith}
use Rattle.smb_wire.specs.Paths.{components, folded_path}
use Rattle.smb_tree.specs.Content.{used_space}
use Rattle.smb_tree.specs.Parts.{has_children}
use Rattle.smb_tree.specs.Entries.{allocation_size}
use Rattle.smb_tree.specs.Plain.{row_of, rows_of}
use Rattle.smb_tree.proofs.Changes.{removed_space, remove_fault_is}
use Rattle.smb_tree.proofs.Places.{place_found, place_without}
use Rattle.smb_tree.proofs.Spaces.{space_within}
use Rattle.smb_tree.proofs.plain.PlainTreeTree.remove.Goals as goal

pub overflow_sub-others : goal.overflow_sub-others
overflow_sub-others c =
    let within = space_within (rows_of c.self.inside.entries.items) c.args.number (row_of c.index-stored.result.now) (place_found _ _ _ _ (c.in-Some.ensures.place _ c.index-stored.ensures)) in
    let long : c.len.result ≡ length c.index-stored.result.now.bytes.items = search rules in
    let space : c.allocation_size.result ≡ allocation_size (length c.index-stored.result.now.bytes.items) = c.allocation_size.ensures ∙ ap allocation_size long in
    omega (arith, within, space, c.self.invariant)

pub invariant_of-self : goal.invariant_of-self
invariant_of-self c =
    let place = c.in-Some.ensures.place _ c.index-stored.ensures in
    let within = space_within (rows_of c.self.inside.entries.items) c.args.number (row_of c.index-stored.result.now) (place_found c.self.inside.entries.items c.args.number c.in-Some.i c.index-stored.result.now place) in
    let long : c.len.result ≡ length c.index-stored.result.now.bytes.items = search rules in
    let space : c.allocation_size.result ≡ allocation_size (length c.index-stored.result.now.bytes.items) = c.allocation_size.ensures ∙ ap allocation_size long in
    let whole : c.self.inside.used - c.allocation_size.result + allocation_size (length c.index-stored.result.now.bytes.items) ≡ used_space (rows_of c.self.inside.entries.items) = omega (arith, within, space, c.self.invariant) in
    rw c.remove.ensures.items (sym (removed_space c.self.inside.entries.items c.args.number c.in-Some.i (c.self.inside.used - c.allocation_size.result) c.index-stored.result.now place whole))

pub returns-clause-ok : goal.returns-clause-ok
returns-clause-ok c =
    let rows = place_without _ _ _ _ (c.in-Some.ensures.place _ c.index-stored.ensures) in
    rw (← c.self.view_is, c.remove.ensures.items, rows) refl

pub returns-then-has_children-clause-why : goal.returns-then-has_children-clause-why
returns-then-has_children-clause-why c =
    let found = place_found c.self.inside.entries.items c.args.number c.in-Some.i c.index-stored.result.now (c.in-Some.ensures.place _ c.index-stored.ensures) in
    let full = c.has_children.ensures ∙ ap (λ (us : List ℕ). has_children (rows_of c.self.inside.entries.items) (folded_path (components us))) c.text_of.ensures.units in
    rw (← c.self.view_is) (remove_fault_is (rows_of c.self.inside.entries.items) c.args.number (row_of c.index-stored.result.now) _ found (sym full ∙ c.if-has_children.true))

pub returns-clause-lawful : goal.returns-clause-lawful
returns-clause-lawful c =
    let found = place_found c.self.inside.entries.items c.args.number c.in-Some.i c.index-stored.result.now (c.in-Some.ensures.place _ c.index-stored.ensures) in
    let full = c.has_children.ensures ∙ ap (λ (us : List ℕ). has_children (rows_of c.self.inside.entries.items) (folded_path (components us))) c.text_of.ensures.units in
    rw (← c.self.view_is) (remove_fault_is (rows_of c.self.inside.entries.items) c.args.number (row_of c.index-stored.result.now) _ found (sym full ∙ c.if-has_children.false))
