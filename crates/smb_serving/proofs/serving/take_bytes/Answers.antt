use Rattle.std.proofs.Common.{List, ◌<◌, length, rules, refl, sym, ap, subst, ◌∙◌, arith}
use Rattle.std.proofs.lemmas.List.{length-set}
use Rattle.smb_serving.specs.ServedPeers.{PeerState}
use Rattle.smb_serving.specs.Serving.{PieceFollows}
use Rattle.smb_serving.specs.ServingParts.{Taken, place_of, serving, takes_piece, stops_in_piece, leaves_piece}
use Rattle.smb_serving.specs.Restless.{AreInOrder}
use Rattle.smb_serving.proofs.Ordered.{order_same}
use Rattle.smb_serving.proofs.Turning.{fed_at, unknown_piece}
use Rattle.smb_serving.proofs.Numbers.{no_place}
use Rattle.smb_serving.proofs.Resting.{piece_tracked, all_tracked, kept_same}
use Rattle.smb_serving.proofs.StillOpen.{open_behind_piece}
use Rattle.smb_serving.proofs.serving.take_bytes.Goals as goal

pub returns-in_default-clause-fed : goal.returns-in_default-clause-fed
returns-in_default-clause-fed g c = λ k. (
  k,
  λ calls n. unknown_piece g.A.Authenticator.meaning c.args.number c.args.piece.now (serving c.args.share.now c.args.served.now.peers.items calls (g.C.Clock.moments c.args.clock.now) n)
      (no_place c.args.number c.args.served.now.peers.items (sym c.in_default.is ∙ c.find_peer.ensures.place ∙ ap (place_of c.args.number) c.deref.ensures.value)),
)

pub returns-then-not-is_open-clause-fed : goal.returns-then-not-is_open-clause-fed
returns-then-not-is_open-clause-fed g c = λ k.
    let P : List PeerState → Type 0 = λ xs. c.in-Some.place < length xs in (
      k,
      fed_at c.args.number c.in-Some.place c.args.served.now.peers.items c.index_mut-peer.result.now (c.in-Some.ensures.place ∙ ap (place_of c.args.number) c.deref.ensures.value)
          (subst P c.deref.ensures.value c.in-Some.ensures.within) c.index_mut-peer.ensures.value
          g.A.Authenticator.meaning c.args.piece.now c.args.share.now c.args.share.now c.index_mut-peer.result.now (g.C.Clock.moments c.args.clock.now) (g.C.Clock.moments c.args.clock.now) _
          (leaves_piece (search rules) refl),
    )

pub returns-then-not-is_open-2-clause-fed : goal.returns-then-not-is_open-2-clause-fed
returns-then-not-is_open-2-clause-fed g c = λ k.
    let t = c.moment-moment.ensures k in
    let P : List PeerState → Type 0 = λ xs. c.in-Some.place < length xs in (
      t.0,
      fed_at c.args.number c.in-Some.place c.args.served.now.peers.items c.index_mut-peer.result.now (c.in-Some.ensures.place ∙ ap (place_of c.args.number) c.deref.ensures.value)
          (subst P c.deref.ensures.value c.in-Some.ensures.within) c.index_mut-peer.ensures.value
          g.A.Authenticator.meaning c.args.piece.now c.args.share.now c.take_piece.new.share c.take_piece.new.self (g.C.Clock.moments c.args.clock.now) (g.C.Clock.moments c.moment-moment.new.self) _
          (takes_piece c.moment-moment.result (search rules) c.in-Ok.ensures.short c.in-Ok.ensures.ok t.1 refl),
    )

pub returns-else-not-is_open-2-clause-fed : goal.returns-else-not-is_open-2-clause-fed
returns-else-not-is_open-2-clause-fed g c = λ k.
    let t = c.moment-moment.ensures k in
    let P : List PeerState → Type 0 = λ xs. c.in-Some.place < length xs in (
      t.0,
      λ calls n.
          let Q : List PeerState → Type 0 = λ xs. PieceFollows g.A.Authenticator.meaning c.args.number c.args.piece.now (serving c.args.share.now c.args.served.now.peers.items calls (g.C.Clock.moments c.args.clock.now) n)
          (serving c.take_piece.new.share xs calls (g.C.Clock.moments c.moment-moment.new.self) n) in
          subst Q (sym c.note.ensures.peers)
          (fed_at c.args.number c.in-Some.place c.args.served.now.peers.items c.index_mut-peer.result.now (c.in-Some.ensures.place ∙ ap (place_of c.args.number) c.deref.ensures.value)
          (subst P c.deref.ensures.value c.in-Some.ensures.within) c.index_mut-peer.ensures.value
          g.A.Authenticator.meaning c.args.piece.now c.args.share.now c.take_piece.new.share c.take_piece.new.self (g.C.Clock.moments c.args.clock.now) (g.C.Clock.moments c.moment-moment.new.self) _
          (takes_piece c.moment-moment.result (search rules) c.in-Ok.ensures.short c.in-Ok.ensures.ok t.1 refl) calls n),
    )

pub returns-else-not-is_open-2-clause-tracked : goal.returns-else-not-is_open-2-clause-tracked
returns-else-not-is_open-2-clause-tracked g c =
    let P : List PeerState → Type 0 = λ xs. c.in-Some.place < length xs in
    piece_tracked c.args.share.now c.take_piece.new.share c.args.served.now.peers.items c.in-Some.place c.take_piece.new.self _ c.note.new.self c.note.ensures.noted c.note.ensures.peers
    (subst P c.deref.ensures.value c.in-Some.ensures.within)
    (kept_same c.args.served.now c.note.new.self c.in-Some.place c.take_piece.new.self c.index_mut-peer.result.now c.requires.kept (subst P c.deref.ensures.value c.in-Some.ensures.within) c.index_mut-peer.ensures.value
    (ap (λ (taken : Taken _). taken.peer.number) c.in-Ok.ensures.ok) c.note.ensures.peers c.note.ensures.room)
    c.requires.noted
    (open_behind_piece g.A.Authenticator.meaning c.args.share.now c.take_piece.new.share c.index_mut-peer.result.now c.moment-moment.result c.args.piece.now
    (ap (λ (taken : Taken _). taken.share) c.in-Ok.ensures.ok) (search rules))

pub returns-in-Err-clause-fed : goal.returns-in-Err-clause-fed
returns-in-Err-clause-fed g c = λ k.
    let t = c.moment-moment.ensures k in
    let P : List PeerState → Type 0 = λ xs. c.in-Some.place < length xs in (
      t.0,
      fed_at c.args.number c.in-Some.place c.args.served.now.peers.items c.index_mut-peer.result.now (c.in-Some.ensures.place ∙ ap (place_of c.args.number) c.deref.ensures.value)
          (subst P c.deref.ensures.value c.in-Some.ensures.within) c.index_mut-peer.ensures.value
          g.A.Authenticator.meaning c.args.piece.now c.args.share.now c.take_piece.new.share c.take_piece.new.self (g.C.Clock.moments c.args.clock.now) (g.C.Clock.moments c.moment-moment.new.self) _
          (stops_in_piece c.moment-moment.result c.in-Err.cut.done (search rules) c.in-Err.ensures.err t.1 refl),
    )

pub find_peer-requires : goal.find_peer-requires
find_peer-requires g c = let P : List PeerState → Type 0 = AreInOrder in subst P (sym c.deref.ensures.value) c.requires.kept.order

pub note-requires-clause-within : goal.note-requires-clause-within
note-requires-clause-within g c =
    let P : List PeerState → Type 0 = λ xs. c.in-Some.place < length xs in
    omega (arith, length-set c.args.served.now.peers.items c.in-Some.place c.take_piece.new.self, subst P c.deref.ensures.value c.in-Some.ensures.within)

pub note-requires-clause-room : goal.note-requires-clause-room
note-requires-clause-room g c = omega (arith, length-set c.args.served.now.peers.items c.in-Some.place c.take_piece.new.self, c.requires.kept.room)

pub note-requires-clause-places : goal.note-requires-clause-places
note-requires-clause-places g c = λ none.
    let n = c.requires.noted none in
    record { rising = n.rising; within = λ i l. omega (arith, length-set c.args.served.now.peers.items c.in-Some.place c.take_piece.new.self, n.within i l) }

pub returns-then-not-is_open-2-clause-tracked : goal.returns-then-not-is_open-2-clause-tracked
returns-then-not-is_open-2-clause-tracked g c =
    let P : List PeerState → Type 0 = λ xs. c.in-Some.place < length xs in
    all_tracked _ _ _ refl (record {
      order = order_same c.args.served.now.peers.items c.in-Some.place c.take_piece.new.self c.index_mut-peer.result.now c.requires.kept.order (subst P c.deref.ensures.value c.in-Some.ensures.within) c.index_mut-peer.ensures.value
          (ap (λ (taken : Taken _). taken.peer.number) c.in-Ok.ensures.ok);
      room = omega (arith, length-set c.args.served.now.peers.items c.in-Some.place c.take_piece.new.self, c.requires.kept.room);
    })

pub returns-in-Err-clause-tracked : goal.returns-in-Err-clause-tracked
returns-in-Err-clause-tracked g c =
    let P : List PeerState → Type 0 = λ xs. c.in-Some.place < length xs in
    all_tracked _ _ _ refl (record {
      order = order_same c.args.served.now.peers.items c.in-Some.place c.take_piece.new.self c.index_mut-peer.result.now c.requires.kept.order (subst P c.deref.ensures.value c.in-Some.ensures.within) c.index_mut-peer.ensures.value
          (ap (λ (peer : PeerState). peer.number) c.in-Err.ensures.err.drops);
      room = omega (arith, length-set c.args.served.now.peers.items c.in-Some.place c.take_piece.new.self, c.requires.kept.room);
    })
