use Rattle.smb_patterns.proofs.PatternOrders.{OrderedFrom}
use Rattle.smb_patterns.proofs.pattern.Pattern.order.Given as goal

abbrev pub invariant-loop-i : goal.invariant-loop-i
invariant-loop-i l = OrderedFrom l.i l.self l.name
