use Rattle.smb_journaled_tree.proofs.Keeping.{dirty_left, keeps_first, first_dirty}
use Rattle.smb_journaled_tree.proofs.Noting.{noted_as}
use Rattle.smb_journaled_tree.proofs.notes.note_dirty.Goals as goal

pub loop-slots-smaller : goal.loop-slots-smaller
loop-slots-smaller g c =
    c.take_first.ensures.fewer (first_dirty c.loop-slots.slots c.in-Some.number c.in-Some.is c.loop-slots.invariant.0)

pub loop-slots-preserved : goal.loop-slots-preserved
loop-slots-preserved g c = (
  dirty_left c.loop-slots.slots c.take_first.new.self c.in-Some.number c.in_ok-there.there c.in-Some.is
      (c.take_first.ensures.dirty, c.take_first.ensures.others) c.loop-slots.invariant.0,
  λ settled entries k.
      keeps_first (g.T.Tree.content c.args.tree.now) settled _ _ c.loop-slots.slots c.take_first.new.self entries
      c.in-Some.number c.in_ok-there.there c.in-Some.is (c.take_first.ensures.dirty, c.take_first.ensures.others)
      c.in_ok-there.ensures.there c.in_ok-there.ensures.writable c.in_ok-there.ensures.ok
      (c.loop-slots.invariant.1 settled entries k),
)

pub returns-in_err-there-clause-noted : goal.returns-in_err-there-clause-noted
returns-in_err-there-clause-noted g c = λ settled entries k.
    noted_as (g.T.Tree.content c.args.tree.now) settled _ _ c.loop-slots.slots entries c.in_err-there.ensures.err
    (c.loop-slots.invariant.1 settled entries k)
