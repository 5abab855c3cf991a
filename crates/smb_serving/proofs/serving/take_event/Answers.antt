use Rattle.std.proofs.Common.{ℕ, List, [], ◌∷◌, ◌++◌, refl, sym, ap, ◌∙◌, arith}
use Rattle.std.proofs.lemmas.Bool.{and_parts, and_from}
use Rattle.smb_peers.specs.Record.{next_opened, next_bytes, next_ended}
use Rattle.smb_serving.proofs.Resting.{all_tracked}
use Rattle.smb_serving.proofs.Turning.{follows_told, end_follows}
use Rattle.smb_serving.proofs.serving.take_event.Goals as goal

pub returns-in-Opened-clause-follows : goal.returns-in-Opened-clause-follows
returns-in-Opened-clause-follows g c = λ k.
    let p = and_parts _ _ k in
    let o = c.open_peer.ensures.follows p.0 in
    let t = c.in-Opened.ensures.told o.0 in (
      and_from _ _ t.0 p.1,
      (
        next_opened c.in-Opened.number,
        (c.in-Opened.ensures.once.0, c.open_peer.ensures.opened ∙ c.in-Opened.ensures.once.1),
        λ n. follows_told g.A.Authenticator.meaning c.args.share.now c.open_peer.new.share c.args.served.now.peers.items c.open_peer.new.served.peers.items
            (g.P.Peers.calls c.args.peers.now) (g.P.Peers.calls c.next_event.new.peers) (g.P.Peers.calls c.open_peer.new.peers) (g.C.Clock.moments c.args.clock.now) (g.C.Clock.moments c.args.clock.now) n _
            (next_opened c.in-Opened.number) t.1 (o.1 (g.C.Clock.moments c.args.clock.now) n),
      ),
    )

pub returns-in-Some-clause-follows : goal.returns-in-Some-clause-follows
returns-in-Some-clause-follows g c = λ k.
    let p = and_parts _ _ k in
    let b = c.take_bytes.ensures.fed p.1 in
    let r = c.ran_out.ensures.kept p.0 in
    let t = c.in-Bytes.ensures.told r.0 in (
      and_from _ _ t.0 b.0,
      (
        next_bytes c.in-Bytes.number c.piece.result.now,
        c.ran_out.ensures.opened ∙ c.in-Bytes.ensures.once,
        λ n. follows_told g.A.Authenticator.meaning c.args.share.now c.take_bytes.new.share c.args.served.now.peers.items c.take_bytes.new.served.peers.items
            (g.P.Peers.calls c.args.peers.now) (g.P.Peers.calls c.next_event.new.peers) (g.P.Peers.calls c.ran_out.new.self) (g.C.Clock.moments c.args.clock.now) (g.C.Clock.moments c.take_bytes.new.clock) n _
            (next_bytes c.in-Bytes.number c.piece.result.now)
            (t.1 ∙ ap (λ (bs : List ℕ). g.P.Peers.calls c.args.peers.now ++ next_bytes c.in-Bytes.number bs ∷ []) (sym c.piece.ensures))
            (rw r.1 (rw c.in-Some.is at (b.1 (g.P.Peers.calls c.next_event.new.peers) n))),
      ),
    )

pub returns-in-None-clause-follows : goal.returns-in-None-clause-follows
returns-in-None-clause-follows g c = λ k.
    let p = and_parts _ _ k in
    let b = c.take_bytes.ensures.fed p.1 in
    let t = c.in-Bytes.ensures.told p.0 in (
      and_from _ _ t.0 b.0,
      (
        next_bytes c.in-Bytes.number c.piece.result.now,
        c.in-Bytes.ensures.once,
        λ n. follows_told g.A.Authenticator.meaning c.args.share.now c.take_bytes.new.share c.args.served.now.peers.items c.take_bytes.new.served.peers.items
            (g.P.Peers.calls c.args.peers.now) (g.P.Peers.calls c.next_event.new.peers) (g.P.Peers.calls c.next_event.new.peers) (g.C.Clock.moments c.args.clock.now) (g.C.Clock.moments c.take_bytes.new.clock) n _
            (next_bytes c.in-Bytes.number c.piece.result.now)
            (t.1 ∙ ap (λ (bs : List ℕ). g.P.Peers.calls c.args.peers.now ++ next_bytes c.in-Bytes.number bs ∷ []) (sym c.piece.ensures))
            (rw c.in-None.is at (b.1 (g.P.Peers.calls c.next_event.new.peers) n)),
      ),
    )

pub returns-in-Ended-clause-follows : goal.returns-in-Ended-clause-follows
returns-in-Ended-clause-follows g c = λ k.
    let p = and_parts _ _ k in
    let t = c.in-Ended.ensures.told p.0 in (
      and_from _ _ t.0 p.1,
      (
        next_ended c.in-Ended.number,
        c.in-Ended.ensures.once,
        λ n. follows_told g.A.Authenticator.meaning c.args.share.now c.end_peer.new.share c.args.served.now.peers.items c.end_peer.new.served_peers.items
            (g.P.Peers.calls c.args.peers.now) (g.P.Peers.calls c.next_event.new.peers) (g.P.Peers.calls c.next_event.new.peers) (g.C.Clock.moments c.args.clock.now) (g.C.Clock.moments c.args.clock.now) n n
            (next_ended c.in-Ended.number) t.1
            (end_follows g.A.Authenticator.meaning c.in-Ended.number c.args.share.now c.end_peer.new.share c.args.served.now.peers.items c.end_peer.new.served_peers.items (g.P.Peers.calls c.next_event.new.peers) (g.C.Clock.moments c.args.clock.now) n c.end_peer.ensures.share c.end_peer.ensures.served_peers),
      ),
    )

pub end_peer-requires : goal.end_peer-requires
end_peer-requires g c = c.requires.kept.order

pub returns-in-Ended-clause-tracked : goal.returns-in-Ended-clause-tracked
returns-in-Ended-clause-tracked g c = all_tracked _ _ _ refl (record { order = c.end_peer.ensures.order; room = omega (arith, c.end_peer.ensures.counts, c.requires.kept.room) })
