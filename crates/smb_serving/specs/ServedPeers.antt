-- The peers that a share serves.
use Rattle.std.specs.Prelude.{ℕ, ◌==◌, nat_lt, List, [], ◌∷◌, length, Option, unwrap_or, if◌then◌else◌}
use Rattle.std.specs.List.{position, insert, find}

-- a peer: its number in the calls of Peers, its connection in the share, and the bytes that it is owed
pub record PeerState : Type 0 where
  pub number : ℕ
  pub connection : ℕ
  pub owed : List ℕ

-- the peer of a number
abbrev pub peer_of : ℕ → List PeerState → Option PeerState
peer_of number served_peers = find (λ peer. peer.number == number) served_peers

-- another peer in the place of that of a number
abbrev pub with_peer : ℕ → PeerState → List PeerState → List PeerState
with_peer number peer [] = []
with_peer number peer (other ∷ others) =
    if other.number == number then peer ∷ others else other ∷ with_peer number peer others

-- a peer more, before the first that has a greater number
abbrev pub with_one_more : PeerState → List PeerState → List PeerState
with_one_more peer served_peers =
    let greater = position (λ other. nat_lt peer.number other.number) served_peers in
    insert served_peers (unwrap_or greater (length served_peers)) peer
