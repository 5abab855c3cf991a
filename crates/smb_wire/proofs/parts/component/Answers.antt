use Rattle.std.proofs.Common.{◌≡◌, ◌+◌, ◌-◌, ℕ, List, ◌∙◌, ap, sym, arith, get_or}
use Rattle.std.specs.List.{slice_range}
use Rattle.smb_wire.specs.Units.{units_of}
use Rattle.smb_wire.proofs.Parting.{begin, begin_first, begin_later, begin_within, place_within, part_is}
use Rattle.smb_wire.proofs.parts.component.Goals as goal

pub range-requires-clause-within : goal.range-requires-clause-within
range-requires-clause-within c = place_within (units_of c.args.text) c.args.ends.now.places c.args.ends.now.count c.args.i c.requires.ends c.requires.within

pub returns-then-i-eq0 : goal.returns-then-i-eq0
returns-then-i-eq0 c =
    let us : List ℕ = units_of c.args.text in
    let ps : List ℕ = c.args.ends.now.places in
    c.range.ensures ∙ ap (λ (k : ℕ). slice_range us k (get_or ps c.args.i 0)) (begin_first ps c.args.i c.if-i-eq0.true) ∙ sym (part_is us ps c.args.ends.now.count c.args.i c.requires.ends c.requires.within)

pub overflow_add-ends : goal.overflow_add-ends
overflow_add-ends c =
    let first : get_or c.args.ends.now.places (c.args.i - 1) 0 + 1 ≡ begin 0 c.args.ends.now.places c.args.i = begin_later c.args.ends.now.places c.args.i c.if-i-eq0.false in
    let within = begin_within (units_of c.args.text) c.args.ends.now.places c.args.ends.now.count c.args.i c.requires.ends c.requires.within in
    omega (arith, first, within)

pub range-requires-2-clause-order : goal.range-requires-2-clause-order
range-requires-2-clause-order c =
    let first : get_or c.args.ends.now.places (c.args.i - 1) 0 + 1 ≡ begin 0 c.args.ends.now.places c.args.i = begin_later c.args.ends.now.places c.args.i c.if-i-eq0.false in
    rw first (begin_within (units_of c.args.text) c.args.ends.now.places c.args.ends.now.count c.args.i c.requires.ends c.requires.within)

pub range-requires-2-clause-within : goal.range-requires-2-clause-within
range-requires-2-clause-within c = place_within (units_of c.args.text) c.args.ends.now.places c.args.ends.now.count c.args.i c.requires.ends c.requires.within

pub returns : goal.returns
returns c =
    let us : List ℕ = units_of c.args.text in
    let ps : List ℕ = c.args.ends.now.places in
    c.range-2.ensures ∙ ap (λ (k : ℕ). slice_range us k (get_or ps c.args.i 0)) (begin_later ps c.args.i c.if-i-eq0.false) ∙ sym (part_is us ps c.args.ends.now.count c.args.i c.requires.ends c.requires.within)
