use Rattle.std.proofs.Common.{ltb, rules}
use Rattle.std.proofs.lemmas.Bool.{ltb-true, ltb-false}
use Rattle.std.proofs.lemmas.List.Sorted.{IsPartitionPoint-from_clause, IsPartitionedBy-ltb}
use Rattle.smb_serving.specs.ServedPeers.{PeerState}
use Rattle.smb_serving.proofs.places.first_from.Goals as goal

pub returns-clause-parts : goal.returns-clause-parts
returns-clause-parts c =
    let parted = IsPartitionedBy-ltb (λ (peer : PeerState). peer.number) _ c.args.number c.requires in
    let point = IsPartitionPoint-from_clause (λ (peer : PeerState). ltb peer.number c.args.number) _ _ c.partition_point.ensures.partitioned parted (λ a r q k. search rules) in
    (λ k d l h. ltb-true _ _ (point.0 k d l h), λ k d l h. ltb-false _ _ (point.1 k d l h))
