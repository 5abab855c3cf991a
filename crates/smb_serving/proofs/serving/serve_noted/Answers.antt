use Rattle.std.proofs.Common.{List, refl, sym, subst, ◌∙◌, arith}
use Rattle.smb_serving.specs.ServedPeers.{PeerState}
use Rattle.smb_serving.specs.Restless.{AreInOrder}
use Rattle.smb_serving.proofs.Resting.{few_noted, tracked_rest, tracked_owed, all_tracked}
use Rattle.smb_serving.proofs.serving.serve_noted.Goals as goal

pub note_last-requires : goal.note_last-requires
note_last-requires g c = λ none.
    omega (arith, few_noted c.args.share.now c.args.served.now.peers.items c.args.served.now.restless.items c.args.place (c.requires.tracked.noted none), c.requires.within, c.requires.tracked.kept.room)

pub returns-in-Rests-clause-tracked : goal.returns-in-Rests-clause-tracked
returns-in-Rests-clause-tracked g c =
    tracked_rest c.args.share.now c.serve_at.new.share c.args.place c.args.served.now (record { peers = c.serve_at.new.served_peers; restless = c.args.served.now.restless; all = c.args.served.now.all }) c.requires.tracked c.requires.within (c.in-Rests.ensures.order c.requires.tracked.kept.order) (omega arith)
    c.in-Rests.ensures.left.0 c.in-Rests.ensures.left.1 c.in-Rests.ensures.left.2 c.in-Rests.ensures.left.3 refl refl

pub returns-in-IsOwed-clause-tracked : goal.returns-in-IsOwed-clause-tracked
returns-in-IsOwed-clause-tracked g c =
    let P : List PeerState → Type 0 = AreInOrder in
    tracked_owed c.args.share.now c.serve_at.new.share c.args.place c.args.served.now c.note_last.new.self c.requires.tracked c.requires.within
    (subst P (sym c.note_last.ensures.peers) (c.in-IsOwed.ensures.order c.requires.tracked.kept.order)) (omega (arith, c.note_last.ensures.room))
    c.in-IsOwed.ensures.left.0 (c.note_last.ensures.peers ∙ c.in-IsOwed.ensures.left.1) c.in-IsOwed.ensures.left.2 c.note_last.ensures.all c.note_last.ensures.noted

pub returns-in-Fails-clause-tracked : goal.returns-in-Fails-clause-tracked
returns-in-Fails-clause-tracked g c =
    all_tracked _ _ _ refl (record { order = c.in-Fails.ensures.order c.requires.tracked.kept.order; room = omega (arith, c.in-Fails.ensures.left, c.requires.tracked.kept.room) })

pub returns-in-Closes-clause-tracked : goal.returns-in-Closes-clause-tracked
returns-in-Closes-clause-tracked g c =
    all_tracked _ _ _ refl (record { order = c.in-Closes.ensures.order c.requires.tracked.kept.order; room = omega (arith, c.in-Closes.ensures.left, c.requires.tracked.kept.room) })
