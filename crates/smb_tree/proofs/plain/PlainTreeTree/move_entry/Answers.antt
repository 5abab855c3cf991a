use Rattle.std.proofs.Common.{◌≡◌, ℕ, List, sym, ap, ◌∙◌, arith}
use Rattle.smb_wire.specs.PathViews.{parts_of}
use Rattle.smb_wire.specs.Paths.{folded_path}
use Rattle.smb_tree.specs.Content.{Path, Row, entry_at}
use Rattle.smb_tree.specs.declared.fault.TreeFault.TheVariants.{NoMemory}
use Rattle.smb_tree.specs.Parts.{renamed, without_other}
use Rattle.smb_tree.specs.Plain.{row_of, rows_of}
use Rattle.smb_tree.specs.Tree.{content_kept}
use Rattle.smb_tree.proofs.Moving.{fault_found, not_too_deep, as_many, rows_put, used_put, taken_out, moved_is}
use Rattle.smb_tree.proofs.Places.{place_found}
use Rattle.smb_tree.proofs.Refused.{refused_by}
use Rattle.smb_tree.proofs.plain.PlainTreeTree.move_entry.Goals as goal
use Rattle.smb_tree.proofs.plain.PlainTreeTree.move_entry.Goals.{in-Some-target, in_default-target}

pub returns-in-Some-move_fault-clause-why : goal.returns-in-Some-move_fault-clause-why
returns-in-Some-move_fault-clause-why c =
    let found = place_found c.self.inside.entries.items c.args.number c.in-Some.i c.index.result.now (c.in-Some.ensures.place _ c.index.ensures) in
    λ _. rw (← c.self.view_is) (fault_found (content_kept c.self.inside) c.args.number (row_of c.index.result.now) (folded_path (parts_of c.path_of-from.result)) (folded_path (parts_of c.args.path.now)) c.move_fault.result found (ap folded_path c.path_of-from.ensures) c.move_fault.ensures ∙ c.in-Some-move_fault.is)

pub texts_moved-requires : goal.texts_moved-requires
texts_moved-requires c =
    not_too_deep (rows_of c.self.inside.entries.items) c.args.number (folded_path (parts_of c.path_of-from.result)) (folded_path (parts_of c.args.path.now)) c.move_fault.result c.move_fault.ensures c.in_default-move_fault.is

pub put_texts-requires : goal.put_texts-requires
put_texts-requires c = as_many c.in_ok-texts.texts.items c.self.inside.entries.items (parts_of c.path_of-from.result) (parts_of c.args.path.now) c.in_ok-texts.ensures

pub overflow_sub-self : goal.overflow_sub-self
overflow_sub-self c =
    let same = used_put (rows_of c.put_texts.new.entries.items) c.self.inside.entries.items c.in_ok-texts.texts.items (parts_of c.path_of-from.result) (parts_of c.args.path.now) c.put_texts.ensures.rows c.in_ok-texts.ensures in
    omega (arith, same, c.take_out.ensures.space, c.self.invariant)

pub invariant_of-self : goal.invariant_of-self
invariant_of-self c =
    let same = used_put (rows_of c.put_texts.new.entries.items) c.self.inside.entries.items c.in_ok-texts.texts.items (parts_of c.path_of-from.result) (parts_of c.args.path.now) c.put_texts.ensures.rows c.in_ok-texts.ensures in
    omega (arith, same, c.take_out.ensures.space, c.self.invariant)

pub invariant_of-self-in_default-target : goal.invariant_of-self-in_default-target
invariant_of-self-in_default-target c =
    let same = used_put (rows_of c.put_texts.new.entries.items) c.self.inside.entries.items c.in_ok-texts.texts.items (parts_of c.path_of-from.result) (parts_of c.args.path.now) c.put_texts.ensures.rows c.in_ok-texts.ensures in
    c.self.invariant ∙ sym same

pub returns-clause-ok : goal.returns-clause-ok
returns-clause-ok c =
    let found = place_found c.self.inside.entries.items c.args.number c.in-Some.i c.index.result.now (c.in-Some.ensures.place _ c.index.ensures) in
    let from : Path = folded_path (parts_of c.path_of-from.result) in
    let rows : List Row = rows_of c.self.inside.entries.items in
    let parts : List (List ℕ) = parts_of c.args.path.now in
    let put : rows_of c.put_texts.new.entries.items ≡ renamed from parts rows = rows_put (rows_of c.put_texts.new.entries.items) c.self.inside.entries.items c.in_ok-texts.texts.items (parts_of c.path_of-from.result) parts c.put_texts.ensures.rows c.in_ok-texts.ensures in
    elim c.match-target.branch [
      | in-Some-target w ↦ (
          let left : rows_of w.take_out.new.entries.items ≡ renamed from parts (without_other rows c.args.number (entry_at rows (folded_path parts))) =
          ap rows_of w.take_out.ensures.items ∙ taken_out c.put_texts.new.entries.items c.self.inside.entries.items w.in-Some-target.place from parts (without_other rows c.args.number (entry_at rows (folded_path parts))) put w.in-Some-target.ensures.some in
          rw (← c.self.view_is) (w.self-is ∙ moved_is (content_kept c.self.inside) c.args.number parts (row_of c.index.result.now) from (rows_of w.take_out.new.entries.items) found (ap folded_path c.path_of-from.ensures) left)
          )
      | in_default-target w ↦ (
          let left : rows_of c.put_texts.new.entries.items ≡ renamed from parts (without_other rows c.args.number (entry_at rows (folded_path parts))) =
          put ∙ ap (renamed from parts) (sym w.in_default-target.ensures.none) in
          rw (← c.self.view_is) (w.self-is ∙ moved_is (content_kept c.self.inside) c.args.number parts (row_of c.index.result.now) from (rows_of c.put_texts.new.entries.items) found (ap folded_path c.path_of-from.ensures) left)
          )
    ]

pub returns-clause-lawful : goal.returns-clause-lawful
returns-clause-lawful c =
    let found = place_found c.self.inside.entries.items c.args.number c.in-Some.i c.index.result.now (c.in-Some.ensures.place _ c.index.ensures) in
    rw (← c.self.view_is) (fault_found (content_kept c.self.inside) c.args.number (row_of c.index.result.now) (folded_path (parts_of c.path_of-from.result)) (folded_path (parts_of c.args.path.now)) c.move_fault.result found (ap folded_path c.path_of-from.ensures) c.move_fault.ensures ∙ c.in_default-move_fault.is)

pub returns-in_err-texts-clause-memory : goal.returns-in_err-texts-clause-memory
returns-in_err-texts-clause-memory c =
    let found = place_found c.self.inside.entries.items c.args.number c.in-Some.i c.index.result.now (c.in-Some.ensures.place _ c.index.ensures) in
    refused_by c.from_residual.result (λ fault. fault ≡ NoMemory) (rw (← c.self.view_is) (fault_found (content_kept c.self.inside) c.args.number (row_of c.index.result.now) (folded_path (parts_of c.path_of-from.result)) (folded_path (parts_of c.args.path.now)) c.move_fault.result found (ap folded_path c.path_of-from.ensures) c.move_fault.ensures ∙ c.in_default-move_fault.is))
