use Rattle.std.proofs.Common.{◌≡◌, ℕ, List, ◌++◌, sym, ap, ◌∙◌}
use Rattle.smb_tree.specs.Parts.{part}
use Rattle.smb_tree.specs.Plain.{row_of, rows_of}
use Rattle.smb_tree.proofs.Changes.{bytes_found, read_fault_is}
use Rattle.smb_tree.proofs.Places.{place_found}
use Rattle.smb_tree.specs.declared.fault.TreeFault.TheVariants.{NoMemory}
use Rattle.smb_tree.proofs.Refused.{refused_by}
use Rattle.smb_tree.proofs.plain.PlainTreeTree.read.Goals as goal

pub returns-then-is_folder-clause-why : goal.returns-then-is_folder-clause-why
returns-then-is_folder-clause-why c =
    let found = place_found c.self.inside.entries.items c.args.number c.in-Some.i c.index-stored.result.now (c.in-Some.ensures.place _ c.index-stored.ensures) in
    λ _. rw (← c.self.view_is) (read_fault_is (rows_of c.self.inside.entries.items) c.args.number (row_of c.index-stored.result.now) _ found (sym c.is_folder.ensures ∙ c.if-is_folder.true))

pub returns-in_err-add_part-clause-memory : goal.returns-in_err-add_part-clause-memory
returns-in_err-add_part-clause-memory c =
    let found = place_found c.self.inside.entries.items c.args.number c.in-Some.i c.index-stored.result.now (c.in-Some.ensures.place _ c.index-stored.ensures) in
    refused_by c.from_residual.result (λ fault. fault ≡ NoMemory) (rw (← c.self.view_is) (read_fault_is (rows_of c.self.inside.entries.items) c.args.number (row_of c.index-stored.result.now) _ found (sym c.is_folder.ensures ∙ c.if-is_folder.false)))

pub returns-clause-ok : goal.returns-clause-ok
returns-clause-ok c =
    let found = place_found c.self.inside.entries.items c.args.number c.in-Some.i c.index-stored.result.now (c.in-Some.ensures.place _ c.index-stored.ensures) in
    let bytes = bytes_found (rows_of c.self.inside.entries.items) c.args.number (row_of c.index-stored.result.now) found in
    rw (← c.self.view_is) (c.in_ok-add_part.ensures.ok ∙ ap (λ (xs : List ℕ). c.args.bytes.now.items ++ part c.args.offset c.args.count xs) (c.deref.ensures.value ∙ sym bytes))

pub returns-clause-lawful : goal.returns-clause-lawful
returns-clause-lawful c =
    let found = place_found c.self.inside.entries.items c.args.number c.in-Some.i c.index-stored.result.now (c.in-Some.ensures.place _ c.index-stored.ensures) in
    rw (← c.self.view_is) (read_fault_is (rows_of c.self.inside.entries.items) c.args.number (row_of c.index-stored.result.now) _ found (sym c.is_folder.ensures ∙ c.if-is_folder.false))
