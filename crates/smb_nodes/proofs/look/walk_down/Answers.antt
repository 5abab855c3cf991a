use Rattle.std.proofs.Common.{◌≡◌, None, rules, arith, length, ◌<◌, sym, ◌∙◌}
use Rattle.smb_wire.specs.PathViews.{parts_of}
use Rattle.smb_wire.specs.Units.{units_of}
use Rattle.smb_nodes.specs.Seen.{heap_of}
use Rattle.smb_nodes.proofs.Walks.{walk-part, walk-part_none}
use Rattle.smb_nodes.proofs.look.walk_down.Goals as goal

pub returns-in_err-slot : goal.returns-in_err-slot
returns-in_err-slot c =
    let h : c.loop-i.i < length (parts_of c.args.path.now) = omega arith in
    let none : c.from_residual.result ≡ None = search rules in
    none ∙ sym (walk-part_none (heap_of c.args.nodes.now) c.loop-i.slot c.child_of.result (parts_of c.args.path.now) c.loop-i.i (units_of c.part.result) h c.part.ensures c.child_of.ensures c.in_err-slot.was) ∙ c.loop-i.invariant

pub loop-i-preserved : goal.loop-i-preserved
loop-i-preserved c =
    let h : c.loop-i.i < length (parts_of c.args.path.now) = omega arith in
    sym (walk-part (heap_of c.args.nodes.now) c.loop-i.slot _ (parts_of c.args.path.now) c.loop-i.i (units_of c.part.result) h c.part.ensures (sym c.in_ok-slot.was ∙ c.child_of.ensures)) ∙ c.loop-i.invariant
