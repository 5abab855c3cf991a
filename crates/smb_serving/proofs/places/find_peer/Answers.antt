use Rattle.std.proofs.Common.{ap, ◌∙◌, arith}
use Rattle.std.proofs.lemmas.List.{get_or_default}
use Rattle.smb_serving.specs.ServedPeers.{PeerState}
use Rattle.smb_serving.proofs.Ordered.{nobody, found_at, none_at}
use Rattle.smb_serving.proofs.places.find_peer.Goals as goal

pub returns-then-place-served_peers-clause-place : goal.returns-then-place-served_peers-clause-place
returns-then-place-served_peers-clause-place c = none_at c.args.number c.first_from-place.result c.args.served_peers.now c.requires c.first_from-place.ensures.parts (λ l e. omega (arith, c.if-place-served_peers.true, l))

pub returns-then-peer-number-clause-place : goal.returns-then-peer-number-clause-place
returns-then-peer-number-clause-place c =
    found_at c.args.number c.first_from-place.result c.args.served_peers.now c.index-served_peers-place.result c.first_from-place.ensures.parts (omega arith)
    (c.index-served_peers-place.is ∙ get_or_default c.args.served_peers.now c.first_from-place.result _ _ (omega arith))
    (omega (arith, ap (λ (peer : PeerState). peer.number) c.peer.view_is, c.if-peer-number.true))

pub returns-else-peer-number-clause-place : goal.returns-else-peer-number-clause-place
returns-else-peer-number-clause-place c =
    none_at c.args.number c.first_from-place.result c.args.served_peers.now c.requires c.first_from-place.ensures.parts
    (λ l e. omega (
      arith,
      e,
      ap (λ (peer : PeerState). peer.number) c.peer.view_is,
      c.if-peer-number.false,
      ap (λ (peer : PeerState). peer.number) (c.index-served_peers-place.is ∙ get_or_default c.args.served_peers.now c.first_from-place.result _ nobody l),
    ))
