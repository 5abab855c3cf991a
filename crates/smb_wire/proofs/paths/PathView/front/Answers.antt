use Rattle.std.proofs.Common.{◌≡◌, ◌≤◌, ℕ, List, ◌∙◌, ap, arith}
use Rattle.std.specs.List.{slice_range}
use Rattle.smb_wire.specs.Paths.{components}
use Rattle.smb_wire.specs.PathEnds.{front_end_in}
use Rattle.smb_wire.specs.Units.{units_of}
use Rattle.smb_wire.proofs.Parting.{ends_count, front_within, parts_up_to, keeps_up_to}
use Rattle.smb_wire.proofs.paths.PathView.front.Goals as goal

pub front_end-requires : goal.front_end-requires
front_end-requires c =
    omega (arith, c.args.self.now.kept.ends.few, ends_count (units_of c.args.self.now.text) c.args.self.now.ends.places c.args.self.now.ends.count c.args.self.now.kept.ends)

pub range-text-requires-clause-within : goal.range-text-requires-clause-within
range-text-requires-clause-within c =
    let us : List ℕ = units_of c.args.self.now.text in
    let ps : List ℕ = c.args.self.now.ends.places in
    rw c.front_end.ensures (front_within us ps c.args.self.now.ends.count c.args.n c.args.self.now.kept.ends (omega (arith, ends_count us ps c.args.self.now.ends.count c.args.self.now.kept.ends)))

pub invariant_of-result : goal.invariant_of-result
invariant_of-result c =
    let us : List ℕ = units_of c.args.self.now.text in
    let ps : List ℕ = c.args.self.now.ends.places in
    let few : c.args.n ≤ c.args.self.now.ends.count = omega (arith, ends_count us ps c.args.self.now.ends.count c.args.self.now.kept.ends) in
    let text : units_of c.range-text.result ≡ slice_range us 0 (front_end_in ps c.args.n) = c.range-text.ensures ∙ ap (slice_range us 0) c.front_end.ensures in
    record { kept = rw text (keeps_up_to us ps c.args.self.now.ends.count c.args.n c.args.self.now.kept few) }

pub returns : goal.returns
returns c =
    let us : List ℕ = units_of c.args.self.now.text in
    let ps : List ℕ = c.args.self.now.ends.places in
    let few : c.args.n ≤ c.args.self.now.ends.count = omega (arith, ends_count us ps c.args.self.now.ends.count c.args.self.now.kept.ends) in
    let text : units_of c.range-text.result ≡ slice_range us 0 (front_end_in ps c.args.n) = c.range-text.ensures ∙ ap (slice_range us 0) c.front_end.ensures in
    ap components text ∙ parts_up_to us ps c.args.self.now.ends.count c.args.n c.args.self.now.kept few
