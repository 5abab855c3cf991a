use Rattle.std.proofs.Common.{◌≡◌, sym, ap, ◌∙◌}
use Rattle.std.proofs.lemmas.Slice.Eq.{bytes_eq-Decides}
use Rattle.smb_wire.specs.Units.{units_of}
use Rattle.smb_wire.specs.Pairs.{units_in}
use Rattle.smb_wire.proofs.Pairing.{units_read}
use Rattle.smb_tree_of_files.proofs.check.is_spelled.Goals as goal

pub returns : goal.returns
returns c = λ h.
    let same : c.bytes.result.now ≡ c.args.bytes.now =
    (bytes_eq-Decides c.bytes.result.now c.args.bytes.now).0 (sym c.eq.ensures ∙ h) in
    sym (units_read (units_of c.args.text) c.bytes.ensures.units) ∙ ap units_in (sym c.bytes.ensures.bytes ∙ same)
