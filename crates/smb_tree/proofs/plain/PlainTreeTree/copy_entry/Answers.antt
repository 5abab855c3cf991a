use Rattle.std.proofs.Common.{◌≡◌, List, ℕ, Some, length, rules, refl, ap, ◌∙◌}
use Rattle.smb_wire.specs.Pairs.{unit_bytes}
use Rattle.smb_wire.specs.Paths.{folded_path}
use Rattle.smb_tree.specs.Plain.{rows_of}
use Rattle.smb_tree.specs.Parts.{whole_name}
use Rattle.smb_tree.proofs.Moving.{copy_same}
use Rattle.smb_tree.proofs.Places.{place_found}
use Rattle.smb_tree.specs.declared.fault.TreeFault.TheVariants.{NoMemory}
use Rattle.smb_tree.proofs.Refused.{refused_by}
use Rattle.smb_tree.proofs.plain.PlainTreeTree.copy_entry.Goals as goal

pub returns-in_err-name-clause-memory : goal.returns-in_err-name-clause-memory
returns-in_err-name-clause-memory c =
    let found = place_found c.self.inside.entries.items c.args.number c.in-Some.i c.index-stored.result.now (c.in-Some.ensures.place _ c.index-stored.ensures) in
    refused_by c.from_residual.result (λ fault. fault ≡ NoMemory) (rw (← c.self.view_is, found) refl)

pub returns-clause-ok : goal.returns-clause-ok
returns-clause-ok c =
    let place = c.in-Some.ensures.place _ c.index-stored.ensures in
    let found = place_found c.self.inside.entries.items c.args.number c.in-Some.i c.index-stored.result.now place in
    let long : c.len.result ≡ length c.index-stored.result.now.bytes.items = search rules in
    let name = c.in_ok-name.ensures.name ∙ ap (λ (ps : List (List ℕ)). unit_bytes (whole_name (rows_of c.self.inside.entries.items) (folded_path ps))) c.path_of.ensures in
    rw (← c.self.view_is, found) (ap Some (copy_same (rows_of c.self.inside.entries.items) c.index-stored.result.now c.args.number c.len.result c.in_ok-name.name.items place.its long name))
