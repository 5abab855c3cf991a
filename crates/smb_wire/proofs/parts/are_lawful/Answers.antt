use Rattle.std.proofs.Common.{◌≡◌, ◌<◌, ℕ, List, [], get_or, length, true, false, sym, ap, ◌∙◌, arith}
use Rattle.std.proofs.lemmas.List.{drop_all}
use Rattle.std.specs.List.{list_all}
use Rattle.smb_wire.specs.Paths.{components, is_lawful_component}
use Rattle.smb_wire.specs.Units.{units_of}
use Rattle.smb_wire.proofs.Parting.{ends_count, all_from}
use Rattle.smb_wire.proofs.parts.are_lawful.Goals as goal

pub returns-then-not-is_lawful_component : goal.returns-then-not-is_lawful_component
returns-then-not-is_lawful_component c =
    let parts : List (List ℕ) = components (units_of c.args.text) in
    let within : c.loop-i.i < length parts = omega (arith, ends_count (units_of c.args.text) c.args.ends.now.places c.args.ends.now.count c.requires) in
    let bad : is_lawful_component (get_or parts c.loop-i.i []) ≡ false = ap is_lawful_component (sym c.component.ensures) ∙ sym c.is_lawful_component.ensures ∙ c.if-not-is_lawful_component.true in
    grind (arith, bad, all_from is_lawful_component parts c.loop-i.i within, c.loop-i.invariant)

pub loop-i-preserved : goal.loop-i-preserved
loop-i-preserved c =
    let parts : List (List ℕ) = components (units_of c.args.text) in
    let within : c.loop-i.i < length parts = omega (arith, ends_count (units_of c.args.text) c.args.ends.now.places c.args.ends.now.count c.requires) in
    let good : is_lawful_component (get_or parts c.loop-i.i []) ≡ true = ap is_lawful_component (sym c.component.ensures) ∙ sym c.is_lawful_component.ensures ∙ c.if-not-is_lawful_component.false in
    grind (arith, good, all_from is_lawful_component parts c.loop-i.i within, c.loop-i.invariant)

pub returns : goal.returns
returns c =
    let parts : List (List ℕ) = components (units_of c.args.text) in
    let none = drop_all c.loop-i.i parts (omega (arith, ends_count (units_of c.args.text) c.args.ends.now.places c.args.ends.now.count c.requires)) in
    sym (ap (list_all is_lawful_component) none) ∙ c.loop-i.invariant
