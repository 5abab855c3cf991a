use Rattle.std.proofs.Common.{◌++◌, ℕ, ◌≡◌, arith, ◌∙◌, ap}
use Rattle.std.proofs.lemmas.List.{take_all}
use Rattle.smb_wire.specs.Number.{spelling}
use Rattle.smb_wire.specs.Pairs.{units_in}
use Rattle.smb_wire.specs.Names.{folded_unit}
use Rattle.smb_ntlm.specs.Proof.{capitals}
use Rattle.smb_ntlm.proofs.CapitalUnits.{capitals_none, capitals_more, capitals_read}
use Rattle.smb_ntlm.proofs.capitals.capitals_of.Goals as goal

pub loop-byte-init : goal.loop-byte-init
loop-byte-init c = c.new-units.ensures.items ∙ capitals_none

pub loop-byte-preserved : goal.loop-byte-preserved
loop-byte-preserved c =
    c.in_ok-put_u16.ensures.ok
    ∙ ap (λ (unit : ℕ). c.loop-byte.units.items ++ spelling 2 unit) (c.fold_unit.ensures ∙ ap folded_unit c.from.ensures)
    ∙ capitals_more c.args.name.now c.loop-byte.units.items c.loop-byte.byte-index (omega arith) c.loop-byte.invariant

pub returns : goal.returns
returns c =
    let spelled : c.loop-byte.units.items ≡ capitals c.args.name.now = c.loop-byte.invariant ∙ ap capitals (take_all c.loop-byte.byte-index c.args.name.now (omega arith)) in
    record { spelled = spelled; read = ap units_in spelled ∙ capitals_read c.args.name.now (λ i. omega (arith, c.type_inv.name i)) }
