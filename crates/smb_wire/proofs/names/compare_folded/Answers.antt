use Rattle.std.proofs.Common.{◌≡◌, ℕ, List, length, min, arith, ap, ◌∙◌}
use Rattle.std.specs.Ordering.{nat_cmp}
use Rattle.smb_wire.specs.Names.{folded_unit}
use Rattle.smb_wire.specs.Units.{units_of}
use Rattle.smb_wire.proofs.Folding.{names_at, names_more, names_end}
use Rattle.smb_wire.proofs.names.compare_folded.Goals as goal

pub returns-in_default : goal.returns-in_default
returns-in_default c =
    let ls : List ℕ = units_of c.args.left in
    let rs : List ℕ = units_of c.args.right in
    names_at ls rs c.loop-i.i _ _ c.cmp.result (omega arith) (omega arith) (c.fold_unit.ensures ∙ ap folded_unit c.unit.ensures) (c.fold_unit-in-loop-i.ensures ∙ ap folded_unit c.unit-in-loop-i.ensures) c.cmp.ensures c.in_default.not-Equal ∙ c.loop-i.invariant

pub loop-i-preserved : goal.loop-i-preserved
loop-i-preserved c =
    let ls : List ℕ = units_of c.args.left in
    let rs : List ℕ = units_of c.args.right in
    names_more ls rs c.loop-i.i _ _ c.cmp.result (omega arith) (omega arith) (c.fold_unit.ensures ∙ ap folded_unit c.unit.ensures) (c.fold_unit-in-loop-i.ensures ∙ ap folded_unit c.unit-in-loop-i.ensures) c.cmp.ensures c.in-Equal.is ∙ c.loop-i.invariant

pub returns : goal.returns
returns c =
    let ls : List ℕ = units_of c.args.left in
    let rs : List ℕ = units_of c.args.right in
    let at_end : c.loop-i.i ≡ min (length ls) (length rs) = omega arith in
    let lengths : c.cmp-2.result ≡ nat_cmp (length ls) (length rs) = rw (← c.len-3.ensures, ← c.len-4.ensures) c.cmp-2.ensures in
    lengths ∙ names_end ls rs c.loop-i.i at_end ∙ c.loop-i.invariant
