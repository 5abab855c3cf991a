use Rattle.std.proofs.Common.{◌<◌, ◌≡◌, length, arith, sym, ap, ◌∙◌}
use Rattle.std.specs.Ordering.{nat_cmp}
use Rattle.smb_patterns.proofs.PatternOrders.{ordered_first, order_here, order_later, order_longer}
use Rattle.smb_patterns.proofs.pattern.Pattern.order.Goals as goal

pub loop-i-init : goal.loop-i-init
loop-i-init c = ordered_first c.args.self.now c.args.name.now

pub loop-i-preserved : goal.loop-i-preserved
loop-i-preserved c =
    let within : c.loop-i.i < length c.args.self.now = omega (arith, c.len.ensures.len) in
    let inside : c.loop-i.i < length c.args.name.now = omega (arith, c.len-2.ensures.len) in
    order_later c.args.self.now c.args.name.now c.loop-i.i c.in-Literal.unit c.unit.result c.cmp.result within inside
    (sym c.in-Literal.is ∙ c.symbol.ensures) c.unit.ensures (c.cmp.ensures ∙ ap (nat_cmp c.unit.result) c.fold_unit.ensures) c.in-Equal.is c.loop-i.invariant

pub returns-then-both-len : goal.returns-then-both-len
returns-then-both-len c = λ differs.
    order_longer c.args.self.now c.args.name.now c.loop-i.i (omega (arith, c.len.ensures.len, c.len-2.ensures.len, c.len-3.ensures.len)) (omega (arith, c.len-2.ensures.len, c.len-3.ensures.len)) c.loop-i.invariant
