use Rattle.std.proofs.Common.{◌≡◌, List, ◌<◌, length, None, sym, ap, subst, ◌∙◌}
use Rattle.smb_engine.specs.State.{ended}
use Rattle.smb_serving.specs.ServedPeers.{PeerState, peer_of}
use Rattle.smb_serving.specs.ServingParts.{place_of}
use Rattle.smb_serving.specs.Restless.{AreInOrder}
use Rattle.smb_serving.proofs.Ordered.{order_same}
use Rattle.smb_serving.proofs.Turning.{share_at, ended_at, no_end}
use Rattle.smb_serving.proofs.Numbers.{no_place}
use Rattle.smb_serving.proofs.serving.end_peer.Given.{Over}
use Rattle.smb_serving.proofs.serving.end_peer.Goals as goal
use Rattle.smb_serving.proofs.serving.end_peer.Goals.{In_default}

pub returns-in-Some-clause-served_peers : goal.returns-in-Some-clause-served_peers
returns-in-Some-clause-served_peers g c =
    let P : List PeerState → Type 0 = λ xs. c.in-Some.place < length xs in
    ended_at c.args.number c.in-Some.place c.args.served_peers.now.items c.index_mut-peer.result.now (c.in-Some.ensures.place ∙ ap (place_of c.args.number) c.deref.ensures.value)
    (subst P c.deref.ensures.value c.in-Some.ensures.within) c.index_mut-peer.ensures.value c.drop_owed.new.self c.drop_owed.ensures

pub returns-in-Some-clause-share : goal.returns-in-Some-clause-share
returns-in-Some-clause-share g c =
    let P : List PeerState → Type 0 = λ xs. c.in-Some.place < length xs in
    share_at c.args.number c.in-Some.place c.args.served_peers.now.items c.index_mut-peer.result.now (c.in-Some.ensures.place ∙ ap (place_of c.args.number) c.deref.ensures.value)
    (subst P c.deref.ensures.value c.in-Some.ensures.within) c.index_mut-peer.ensures.value c.args.share.now c.ended.new.self
    (c.ended.ensures.state ∙ ap (λ (peer : PeerState). ended c.args.share.now peer.connection) c.peer.view_is)

pub find_peer-requires : goal.find_peer-requires
find_peer-requires g c = let P : List PeerState → Type 0 = AreInOrder in subst P (sym c.deref.ensures.value) c.requires

pub returns-in-Some-clause-order : goal.returns-in-Some-clause-order
returns-in-Some-clause-order g c =
    let P : List PeerState → Type 0 = λ xs. c.in-Some.place < length xs in
    order_same c.args.served_peers.now.items c.in-Some.place c.drop_owed.new.self c.index_mut-peer.result.now c.requires (subst P c.deref.ensures.value c.in-Some.ensures.within) c.index_mut-peer.ensures.value
    (ap (λ (peer : PeerState). peer.number) c.drop_owed.ensures)

-- the number has no peer
nobody : (g : Over) (c : In_default g) → peer_of c.args.number c.args.served_peers.now.items ≡ None
nobody g c = no_place c.args.number c.args.served_peers.now.items (sym c.in_default.is ∙ c.find_peer.ensures.place ∙ ap (place_of c.args.number) c.deref.ensures.value)

pub returns-in_default-clause-share : goal.returns-in_default-clause-share
returns-in_default-clause-share g c = (no_end c.args.number c.args.share.now c.args.served_peers.now.items (nobody g c)).0

pub returns-in_default-clause-served_peers : goal.returns-in_default-clause-served_peers
returns-in_default-clause-served_peers g c = (no_end c.args.number c.args.share.now c.args.served_peers.now.items (nobody g c)).1
