use Rattle.std.proofs.Common.{List, length, refl, sym, ap, subst, arith}
use Rattle.std.proofs.lemmas.List.Edits.{length-insert}
use Rattle.smb_serving.specs.ServedPeers.{PeerState}
use Rattle.smb_serving.specs.Restless.{AreInOrder}
use Rattle.smb_serving.proofs.Ordered.{ArePartedBehind, order_more}
use Rattle.smb_serving.proofs.Resting.{all_tracked}
use Rattle.smb_serving.proofs.serving.begin.Goals as goal

pub returns-clause-tracked : goal.returns-clause-tracked
returns-clause-tracked g c =
    let O : List PeerState → Type 0 = AreInOrder in
    let P : List PeerState → Type 0 = λ xs. ArePartedBehind c.args.number xs c.place_behind-place.result in
    all_tracked _ _ _ refl (record {
      order = subst O (sym c.in-Ok-insert.ensures.items) (order_more c.args.number c.place_behind-place.result c.make_room.new.self.peers.items c.new-peer.result (ap (λ (peer : PeerState). peer.number) c.new-peer.ensures)
          (subst O (sym c.make_room.ensures.peers) c.requires.kept.order) (subst P c.deref.ensures.value c.place_behind-place.ensures.parts) (omega (arith, c.place_behind-place.ensures.within, ap length c.deref.ensures.value)));
      room = omega (arith, ap length c.in-Ok-insert.ensures.items, length-insert c.make_room.new.self.peers.items c.place_behind-place.result c.new-peer.result (omega (arith, c.place_behind-place.ensures.within, ap length c.deref.ensures.value)), (c.if-not-make_room.ensures.room refl).1);
    })
