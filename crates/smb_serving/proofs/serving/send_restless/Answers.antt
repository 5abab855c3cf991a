use Rattle.std.proofs.Common.{◌<◌, length, refl, ap, ◌∙◌, arith}
use Rattle.std.proofs.lemmas.List.{length-set}
use Rattle.std.proofs.lemmas.Grind.{get_or_default_zero}
use Rattle.smb_serving.proofs.Resting.{all_tracked}
use Rattle.smb_serving.proofs.Skipping.{come_none, come_end, come_to, come_rests, come_owed}
use Rattle.smb_serving.proofs.Turning.{kept_more, sent_behind}
use Rattle.smb_serving.proofs.serving.send_restless.Goals as goal

pub loop-index-init : goal.loop-index-init
loop-index-init g c = record {
  so_far = come_none (g.P.Peers.keeps c.args.peers.now) c.args.share.now c.args.served.now.peers.items (g.P.Peers.calls c.args.peers.now) c.args.served.now.restless.items c.requires.noted;
  kept = c.requires.kept;
  opened = refl;
}

pub loop-index-preserved-in-Rests : goal.loop-index-preserved-in-Rests
loop-index-preserved-in-Rests g c =
    let at : c.loop-index.index < length c.loop-index.served.restless.items = omega arith in
    record {
      so_far = come_rests _ _ _ _ _ _ _ _ _ c.loop-index.index c.loop-index.invariant.so_far c.index-place.result.now at (c.index-place.ensures ∙ get_or_default_zero _ _ _ at)
          (g.P.Peers.keeps c.serve_at.new.peers) c.serve_at.new.share c.serve_at.new.served_peers.items (g.P.Peers.calls c.serve_at.new.peers)
          c.in-Rests.ensures.served c.in-Rests.ensures.left.2 c.in-Rests.ensures.left.0 c.in-Rests.ensures.left.1 c.remove.new.self.items c.remove.ensures.items c.in-Rests.ensures.left.3;
      kept = record {
        order = c.in-Rests.ensures.order c.loop-index.invariant.kept.order;
        room = omega (arith, ap length c.in-Rests.ensures.left.1, length-set c.loop-index.served.peers.items c.index-place.result.now c.in-Rests.ensures.left.0, c.remove.ensures.capacity, c.loop-index.invariant.kept.room);
      };
      opened = c.serve_at.ensures.opened ∙ c.loop-index.invariant.opened;
    }

pub loop-index-preserved : goal.loop-index-preserved
loop-index-preserved g c =
    let at : c.loop-index.index < length c.loop-index.served.restless.items = omega arith in
    record {
      so_far = come_owed _ _ _ _ _ _ _ _ _ c.loop-index.index c.loop-index.invariant.so_far c.index-place.result.now at (c.index-place.ensures ∙ get_or_default_zero _ _ _ at)
          (g.P.Peers.keeps c.serve_at.new.peers) c.serve_at.new.share c.serve_at.new.served_peers.items (g.P.Peers.calls c.serve_at.new.peers)
          c.in-IsOwed.ensures.served c.in-IsOwed.ensures.left.2 c.in-IsOwed.ensures.left.0 c.in-IsOwed.ensures.left.1;
      kept = record {
        order = c.in-IsOwed.ensures.order c.loop-index.invariant.kept.order;
        room = omega (arith, ap length c.in-IsOwed.ensures.left.1, length-set c.loop-index.served.peers.items c.index-place.result.now c.in-IsOwed.ensures.left.0, c.loop-index.invariant.kept.room);
      };
      opened = c.serve_at.ensures.opened ∙ c.loop-index.invariant.opened;
    }

pub send_from-requires : goal.send_from-requires
send_from-requires g c = all_tracked _ _ _ refl (record { order = c.in-Fails.ensures.order c.loop-index.invariant.kept.order; room = omega (arith, c.in-Fails.ensures.left, c.loop-index.invariant.kept.room) })

pub send_from-requires-in-Closes : goal.send_from-requires-in-Closes
send_from-requires-in-Closes g c = all_tracked _ _ _ refl (record { order = c.in-Closes.ensures.order c.loop-index.invariant.kept.order; room = omega (arith, c.in-Closes.ensures.left, c.loop-index.invariant.kept.room) })

pub returns-in-Fails-clause-served : goal.returns-in-Fails-clause-served
returns-in-Fails-clause-served g c = λ k.
    let at : c.loop-index.index < length c.loop-index.served.restless.items = omega arith in
    let rest = c.send_from.ensures.served k in
    let come = come_to _ _ _ _ _ _ _ _ _ c.loop-index.index c.loop-index.invariant.so_far c.index-place.result.now at (c.index-place.ensures ∙ get_or_default_zero _ _ _ at) in
    let sent = kept_more come c.in-Fails.ensures.served rest.0 in
    (sent.0, sent_behind c.send_from.new.share c.send_from.new.served.peers.items (g.P.Peers.calls c.send_from.new.peers) sent.1 rest.1)

pub returns-in-Fails-clause-tracked : goal.returns-in-Fails-clause-tracked
returns-in-Fails-clause-tracked g c = c.send_from.ensures.tracked

pub returns-in-Closes-clause-served : goal.returns-in-Closes-clause-served
returns-in-Closes-clause-served g c = λ k.
    let at : c.loop-index.index < length c.loop-index.served.restless.items = omega arith in
    let rest = c.send_from-in-Closes.ensures.served k in
    let come = come_to _ _ _ _ _ _ _ _ _ c.loop-index.index c.loop-index.invariant.so_far c.index-place.result.now at (c.index-place.ensures ∙ get_or_default_zero _ _ _ at) in
    let sent = kept_more come c.in-Closes.ensures.served rest.0 in
    (sent.0, sent_behind c.send_from-in-Closes.new.share c.send_from-in-Closes.new.served.peers.items (g.P.Peers.calls c.send_from-in-Closes.new.peers) sent.1 rest.1)

pub returns-in-Closes-clause-tracked : goal.returns-in-Closes-clause-tracked
returns-in-Closes-clause-tracked g c = c.send_from-in-Closes.ensures.tracked

pub returns-else-index-len-clause-served : goal.returns-else-index-len-clause-served
returns-else-index-len-clause-served g c =
    let at : c.loop-index.index < length c.loop-index.served.restless.items = omega arith in
    let h = c.loop-index.invariant.so_far in
    absurd (omega (arith, h.noted.within c.loop-index.index at, c.index.ensures ∙ get_or_default_zero _ _ _ at))

pub returns-else-index-len-clause-tracked : goal.returns-else-index-len-clause-tracked
returns-else-index-len-clause-tracked g c = record { kept = c.loop-index.invariant.kept; noted = λ none. c.loop-index.invariant.so_far.noted }

pub returns-after-loop-index-clause-served : goal.returns-after-loop-index-clause-served
returns-after-loop-index-clause-served g c = come_end _ _ _ _ _ _ _ _ _ c.loop-index.index c.loop-index.invariant.so_far (omega arith)

pub returns-after-loop-index-clause-tracked : goal.returns-after-loop-index-clause-tracked
returns-after-loop-index-clause-tracked g c = record { kept = c.loop-index.invariant.kept; noted = λ none. c.loop-index.invariant.so_far.noted }
