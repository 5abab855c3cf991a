use Rattle.std.proofs.Common.{◌≡◌, true, false, is_some, sym, ◌∙◌, arith}
use Rattle.smb_tree.specs.Content.{numbered}
use Rattle.smb_access.proofs.Counts.{counted-none, counted-within, counted-more, counted_to, seen_or_not, end_some, end_none}
use Rattle.smb_access.proofs.look.count_entries.Goals as goal
use Rattle.smb_access.proofs.look.count_entries.Goals.{in-Some, in-None, then-is_some, else-is_some}

pub loop-number-init : goal.loop-number-init
loop-number-init g c = sym (counted-none _)

pub overflow_add-count : goal.overflow_add-count
overflow_add-count g c = omega (arith, c.loop-number.invariant, counted-within (g.T.Tree.content c.args.tree.now).rows c.loop-number.number, c.requires.few, (g.T.Tree.content c.args.tree.now).limits.few_entries)

pub loop-number-preserved : goal.loop-number-preserved
loop-number-preserved g c =
    let more = counted-more (g.T.Tree.content c.args.tree.now).rows c.loop-number.number c.requires.apart in
    let seen = seen_or_not (g.T.Tree.content c.args.tree.now).rows c.loop-number.number _ c.entry.ensures in
    elim c.if-is_some.branch [
      | then-is_some w ↦ (let stands : is_some (numbered (g.T.Tree.content c.args.tree.now).rows c.loop-number.number) ≡ true = sym seen ∙ sym c.is_some.ensures ∙ w.if-is_some.true in rw (more, stands) (omega (arith, w.count-is, c.loop-number.invariant)))
      | else-is_some w ↦ (let stands : is_some (numbered (g.T.Tree.content c.args.tree.now).rows c.loop-number.number) ≡ false = sym seen ∙ sym c.is_some.ensures ∙ w.if-is_some.false in rw (more, stands) (omega (arith, w.count-is, c.loop-number.invariant)))
    ]

pub returns : goal.returns
returns g c =
    elim c.match-next_no.branch [
      | in-Some w ↦ (let next = end_some (g.T.Tree.content c.args.tree.now) _ (sym w.in-Some.ensures) in let last : c.loop-number.number ≡ (g.T.Tree.content c.args.tree.now).next = omega (arith, next, w.end-is) in c.loop-number.invariant ∙ counted_to (g.T.Tree.content c.args.tree.now) c.loop-number.number last c.requires.below)
      | in-None w ↦ (let next = end_none (g.T.Tree.content c.args.tree.now) (sym w.in-None.ensures) c.requires.counted in let last : c.loop-number.number ≡ (g.T.Tree.content c.args.tree.now).next = omega (arith, next, w.end-is) in c.loop-number.invariant ∙ counted_to (g.T.Tree.content c.args.tree.now) c.loop-number.number last c.requires.below)
    ]
