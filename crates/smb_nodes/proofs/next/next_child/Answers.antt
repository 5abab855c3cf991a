use Rattle.std.specs.Map.Iter.{deref_pair}
use Rattle.std.specs.Option.{option_copied}
use Rattle.std.proofs.lemmas.Map.Iter.{rest_more, rest_all}
use Rattle.smb_nodes.proofs.Batches.{next_is, none_is}
use Rattle.smb_nodes.proofs.next.next_child.Goals as goal

pub returns-in-Some-clause-some : goal.returns-in-Some-clause-some
returns-in-Some-clause-some c =
    next_is c.args.nodes.now c.args.slot c.index.result.now c.index.ensures (option_copied c.args.after) _ _ c.next.new.self _ (c.range-later.ensures.between tt) (c.bound_after-begin.ensures c.range-later.ensures.ordered)
    (rest_more deref_pair c.range-later.result c.next.new.self c.next.result (c.in-Some.field-0-0, c.in-Some.child) c.in-Some.is c.next.ensures.steps)

pub returns-in-None-clause-none : goal.returns-in-None-clause-none
returns-in-None-clause-none c =
    none_is c.args.nodes.now c.args.slot c.index.result.now c.index.ensures (option_copied c.args.after) _ _ (c.range-later.ensures.between tt) (c.bound_after-begin.ensures c.range-later.ensures.ordered)
    (rest_all deref_pair c.range-later.result c.next.new.self c.next.result c.in-None.is c.next.ensures.steps)
