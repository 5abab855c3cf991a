use Rattle.std.proofs.Common.{◌∙◌, sym, refl, arith, length}
use Rattle.smb_wire.specs.PathViews.{parts_of}
use Rattle.smb_wire.specs.Paths.{folded_path}
use Rattle.smb_wire.specs.Units.{units_of}
use Rattle.smb_wire.proofs.Parting.{ends_count}
use Rattle.smb_tree.specs.Content.{entry_at}
use Rattle.smb_tree.specs.Plain.{rows_of}
use Rattle.smb_tree.proofs.Additions.{spell_path, row_new, number_left}
use Rattle.smb_tree.proofs.plain.PlainTreeTree.add.Goals as goal

pub invariant_of-stored-clause-path : goal.invariant_of-stored-clause-path
invariant_of-stored-clause-path c =
    spell_path c.in_ok-text.text.items (units_of c.text.result) (parts_of c.args.path.now) (c.in_ok-text.ensures.items ∙ c.bytes.ensures.bytes) c.bytes.ensures.units c.text.ensures.parts c.text.ensures.lawful (omega (arith, ends_count _ _ _ c.args.path.now.kept.ends, c.args.path.now.kept.ends.few))

pub overflow_add-self : goal.overflow_add-self
overflow_add-self c =
    let left = number_left (entry_at (rows_of c.self.inside.entries.items)) c.self.inside.limits.entries (length c.self.inside.entries.items) c.self.inside.next (folded_path (parts_of c.args.path.now)) (sym c.add_fault.ensures ∙ c.in_default.is) in
    omega (arith, left)

pub returns-clause-ok : goal.returns-clause-ok
returns-clause-ok c =
    let row = row_new c.in_ok-text.text.items (units_of c.text.result) c.new.result.items (parts_of c.args.path.now) c.of.result c.self.inside.next c.args.attributes.0 c.args.moment c.args.kind (c.in_ok-text.ensures.items ∙ c.bytes.ensures.bytes) c.bytes.ensures.units c.text.ensures.parts c.new.ensures.items c.of.ensures in
    rw (← c.self.view_is, c.in_ok-put.ensures.ok, row) refl
