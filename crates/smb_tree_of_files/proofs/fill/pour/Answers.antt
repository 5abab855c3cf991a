use Rattle.std.proofs.Common.{◌∙◌, ap, arith, List, ℕ, ◌++◌, take, drop}
use Rattle.smb_tree_of_files.proofs.Filled.{poured_begin, poured_none, poured_more}
use Rattle.smb_tree_of_files.proofs.fill.pour.Goals as goal

pub loop-offset-init : goal.loop-offset-init
loop-offset-init c =
    poured_begin c.args.tree.now c.grow.new.tree c.args.number c.size-size.result c.args.bytes.now c.size-size.ensures
    c.in_ok-grow.ensures.is c.in_ok-grow.ensures.good

pub loop-offset-preserved : goal.loop-offset-preserved
loop-offset-preserved c =
    poured_more c.args.tree.now c.loop-offset.tree c.put_part.new.tree c.args.number c.loop-offset.offset
    c.min-offset.result
    c.args.bytes.now c.loop-offset.invariant (omega (
      arith,
      c.min-offset.ensures,
      c.saturating_add.ensures,
      c.size-size.ensures,
      c.size-size.type_inv,
    ))
    (c.in_ok-put_part.ensures.is c.args.bytes.now c.args.tree.now c.loop-offset.invariant.within
    (c.deref.ensures.value ∙ c.in_ok-add_part.ensures.ok
    ∙ ap (λ (xs : List ℕ). xs ++ take 4096 (drop c.loop-offset.offset c.args.bytes.now)) c.clear.ensures.items))
    c.in_ok-put_part.ensures.good

pub returns-then-size-eq0-clause-is : goal.returns-then-size-eq0-clause-is
returns-then-size-eq0-clause-is c = poured_none c.args.tree.now c.args.number c.args.bytes.now (omega (
  arith,
  c.size-size.ensures,
  c.if-size-eq0.true,
))
