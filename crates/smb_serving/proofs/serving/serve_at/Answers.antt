use Rattle.std.proofs.Common.{List, set, sym, subst, ◌∙◌, arith}
use Rattle.std.proofs.lemmas.List.{length-set}
use Rattle.smb_serving.specs.ServedPeers.{PeerState}
use Rattle.smb_serving.specs.Restless.{AreInOrder}
use Rattle.smb_serving.proofs.Ordered.{order_same, order_less}
use Rattle.smb_serving.proofs.Turning.{stays_at, goes_at}
use Rattle.smb_serving.proofs.serving.serve_at.Goals as goal

pub returns-then-not-settle-clause-served : goal.returns-then-not-settle-clause-served
returns-then-not-settle-clause-served g c =
    goes_at (g.P.Peers.keeps c.args.peers.now) (g.P.Peers.keeps c.send_owed-is_sent.new.peers) (g.P.Peers.keeps c.settle.new.peers)
    c.args.share.now c.send_owed-is_sent.new.share c.args.served_peers.now.items
    (g.P.Peers.calls c.args.peers.now) (g.P.Peers.calls c.send_owed-is_sent.new.peers) (g.P.Peers.calls c.settle.new.peers)
    c.args.place c.index_mut-peer.result.now c.send_owed-is_sent.new.peer c.remove.new.self.items c.remove.ensures.items
    c.requires c.index_mut-peer.ensures.value c.send_owed-is_sent.ensures.sent c.settle.ensures.told (sym c.settle.ensures.stays ∙ c.if-not-settle.true)

pub returns-then-not-is_sent-clause-served : goal.returns-then-not-is_sent-clause-served
returns-then-not-is_sent-clause-served g c =
    stays_at (g.P.Peers.keeps c.args.peers.now) (g.P.Peers.keeps c.send_owed-is_sent.new.peers) (g.P.Peers.keeps c.settle.new.peers)
    c.args.share.now c.send_owed-is_sent.new.share c.args.served_peers.now.items
    (g.P.Peers.calls c.args.peers.now) (g.P.Peers.calls c.send_owed-is_sent.new.peers) (g.P.Peers.calls c.settle.new.peers)
    c.args.place c.index_mut-peer.result.now c.send_owed-is_sent.new.peer
    c.requires c.index_mut-peer.ensures.value c.send_owed-is_sent.ensures.sent c.settle.ensures.told (sym c.settle.ensures.stays ∙ c.if-not-settle.false)

pub returns-then-is_owed-clause-served : goal.returns-then-is_owed-clause-served
returns-then-is_owed-clause-served g c =
    stays_at (g.P.Peers.keeps c.args.peers.now) (g.P.Peers.keeps c.send_owed-is_sent.new.peers) (g.P.Peers.keeps c.settle.new.peers)
    c.args.share.now c.send_owed-is_sent.new.share c.args.served_peers.now.items
    (g.P.Peers.calls c.args.peers.now) (g.P.Peers.calls c.send_owed-is_sent.new.peers) (g.P.Peers.calls c.settle.new.peers)
    c.args.place c.index_mut-peer.result.now c.send_owed-is_sent.new.peer
    c.requires c.index_mut-peer.ensures.value c.send_owed-is_sent.ensures.sent c.settle.ensures.told (sym c.settle.ensures.stays ∙ c.if-not-settle.false)

pub returns-else-is_owed-clause-served : goal.returns-else-is_owed-clause-served
returns-else-is_owed-clause-served g c =
    stays_at (g.P.Peers.keeps c.args.peers.now) (g.P.Peers.keeps c.send_owed-is_sent.new.peers) (g.P.Peers.keeps c.settle.new.peers)
    c.args.share.now c.send_owed-is_sent.new.share c.args.served_peers.now.items
    (g.P.Peers.calls c.args.peers.now) (g.P.Peers.calls c.send_owed-is_sent.new.peers) (g.P.Peers.calls c.settle.new.peers)
    c.args.place c.index_mut-peer.result.now c.send_owed-is_sent.new.peer
    c.requires c.index_mut-peer.ensures.value c.send_owed-is_sent.ensures.sent c.settle.ensures.told (sym c.settle.ensures.stays ∙ c.if-not-settle.false)

pub returns-then-not-settle-clause-order : goal.returns-then-not-settle-clause-order
returns-then-not-settle-clause-order g c = λ order.
    let P : List PeerState → Type 0 = AreInOrder in
    subst P (sym c.remove.ensures.items) (order_less (set c.args.served_peers.now.items c.args.place c.send_owed-is_sent.new.peer) c.args.place
    (order_same c.args.served_peers.now.items c.args.place c.send_owed-is_sent.new.peer c.index_mut-peer.result.now order c.requires c.index_mut-peer.ensures.value c.send_owed-is_sent.ensures.number)
    (omega (arith, length-set c.args.served_peers.now.items c.args.place c.send_owed-is_sent.new.peer, c.requires)))

pub returns-then-not-is_sent-clause-order : goal.returns-then-not-is_sent-clause-order
returns-then-not-is_sent-clause-order g c = λ order.
    order_same c.args.served_peers.now.items c.args.place c.send_owed-is_sent.new.peer c.index_mut-peer.result.now order c.requires c.index_mut-peer.ensures.value c.send_owed-is_sent.ensures.number

pub returns-then-is_owed-clause-order : goal.returns-then-is_owed-clause-order
returns-then-is_owed-clause-order g c = λ order.
    order_same c.args.served_peers.now.items c.args.place c.send_owed-is_sent.new.peer c.index_mut-peer.result.now order c.requires c.index_mut-peer.ensures.value c.send_owed-is_sent.ensures.number

pub returns-else-is_owed-clause-order : goal.returns-else-is_owed-clause-order
returns-else-is_owed-clause-order g c = λ order.
    order_same c.args.served_peers.now.items c.args.place c.send_owed-is_sent.new.peer c.index_mut-peer.result.now order c.requires c.index_mut-peer.ensures.value c.send_owed-is_sent.ensures.number
