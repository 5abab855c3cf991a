use Rattle.std.proofs.Common.{◌++◌, ap, sym, ◌∙◌, List, ℕ}
use Rattle.smb_wire.specs.Units.{units_of}
use Rattle.smb_files.specs.Files.{About}
use Rattle.smb_changes.specs.Batches.{about_bytes}
use Rattle.smb_changes.proofs.Kept.{fields_put, length-about_bytes}
use Rattle.smb_changes.proofs.change.put_parts.Goals as goal

pub returns-in_ok-put_about-in-Entry-clause-ok : goal.returns-in_ok-put_about-in-Entry-clause-ok
returns-in_ok-put_about-in-Entry-clause-ok c =
    let about : About = record { kind = c.in-Entry.kind; spelling = units_of c.in-Entry.spelling; basic = c.in-Entry.basic; mark = c.in-Entry.mark } in
    let long = c.about_length.ensures ∙ sym (length-about_bytes about) in
    rw c.in-Entry.is (c.in_ok-put_about-in-Entry.ensures.ok ∙ ap (λ (l : List ℕ). l ++ about_bytes about) c.in_ok-put_fields-in-Entry.ensures.ok ∙ fields_put c.args.out.now.items 1 c.in-Entry.number c.in-Entry.parent _ (about_bytes about) long)
