use Rattle.std.proofs.Common.{leb, rules}
use Rattle.std.proofs.lemmas.Bool.{leb-true, leb-false}
use Rattle.std.proofs.lemmas.List.Sorted.{IsPartitionPoint-from_clause, IsPartitionedBy-leb}
use Rattle.smb_serving.specs.ServedPeers.{PeerState}
use Rattle.smb_serving.proofs.Ordered.{placed_behind}
use Rattle.smb_serving.proofs.places.place_behind.Goals as goal

pub returns-clause-parts : goal.returns-clause-parts
returns-clause-parts c =
    let parted = IsPartitionedBy-leb (λ (peer : PeerState). peer.number) _ c.args.number c.requires in
    let point = IsPartitionPoint-from_clause (λ (peer : PeerState). leb peer.number c.args.number) _ _ c.partition_point.ensures.partitioned parted (λ a r q k. search rules) in
    (λ k d l h. leb-true _ _ (point.0 k d l h), λ k d l h. leb-false _ _ (point.1 k d l h))

pub returns-clause-place : goal.returns-clause-place
returns-clause-place c = placed_behind c.args.number c.partition_point.result c.args.served_peers.now (returns-clause-parts c) c.partition_point.ensures.bound
