use Rattle.std.proofs.Common.{sym, ◌∙◌}
use Rattle.std.specs.Map.Iter.{deref_pair}
use Rattle.std.specs.Range.Bound.{bound_map}
use Rattle.std.proofs.lemmas.Map.Iter.{rest_more, rest_all}
use Rattle.smb_nodes.proofs.Naming.{left_all, left_rest, left_later, left_none}
use Rattle.smb_nodes.proofs.next.bound_past.Goals as goal

pub loop-key-init : goal.loop-key-init
loop-key-init c = λ s. left_all c.args.children.now c.args.name.now c.into_iter-key-iterator.result c.into_iter-key-iterator.ensures.into_iter_gives.0

pub loop-key-preserved : goal.loop-key-preserved
loop-key-preserved c = λ s.
    left_rest c.args.children.now c.args.name.now (bound_map (λ key. key.now) c.loop-key.begin) c.in-Some.key.now _ c.loop-key.key-iterator c.next.new.self s (c.loop-key.invariant s)
    (rest_more deref_pair c.loop-key.key-iterator c.next.new.self c.next.result (c.in-Some.key, c.in-Some.field-0-1) c.in-Some.is c.next.ensures.steps) (sym c.is_behind.ensures ∙ c.if-is_behind.false)

pub returns-then-is_behind : goal.returns-then-is_behind
returns-then-is_behind c = λ s.
    left_later c.args.children.now c.args.name.now (bound_map (λ key. key.now) c.loop-key.begin) c.in-Some.key.now _ c.loop-key.key-iterator c.next.new.self s (c.loop-key.invariant s)
    (rest_more deref_pair c.loop-key.key-iterator c.next.new.self c.next.result (c.in-Some.key, c.in-Some.field-0-1) c.in-Some.is c.next.ensures.steps) (sym c.is_behind.ensures ∙ c.if-is_behind.true)

pub returns : goal.returns
returns c = λ s.
    left_none c.args.children.now c.args.name.now (bound_map (λ key. key.now) c.loop-key.begin) c.loop-key.key-iterator (c.loop-key.invariant s)
    (rest_all deref_pair c.loop-key.key-iterator c.next.new.self c.next.result c.in-None.is c.next.ensures.steps)
