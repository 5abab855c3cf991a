-- For the proofs; nothing here need be believed.
-- Which peers may need something in a turn, and a peer's part of a turn at its place.
use Rattle.std.specs.Prelude.{◌≡◌, ◌⊎◌, ℕ, ◌+◌, ◌<◌, ◌≤◌, true, false, nat_lt, List, ◌∷◌, length, take, drop, slice_index_or, slice_index, slice_set}
use Rattle.std.specs.List.{insert}
use Rattle.std.specs.List.Sorted.{IsNonDecreasingBy}
use Rattle.std.specs.Vec.{vec_capacity}
use Rattle.smb_engine.specs.State.{ShareState, is_open}
use Rattle.smb_peers.specs.Record.{PeerCall}
use Rattle.smb_serving.specs.declared.served_peers.ServedPeers.{ServedPeers}
use Rattle.smb_serving.specs.declared.served_peers.Part.{Part}
use Rattle.smb_serving.specs.declared.served_peers.Part.TheVariants.{Rests, IsOwed, Fails, Closes}
use Rattle.smb_serving.specs.ServedPeers.{PeerState}
use Rattle.smb_serving.specs.Serving.{IsServed}
use Rattle.smb_serving.specs.ServingParts.{serving}

-- a peer that needs nothing in a turn: it is owed nothing, and its connection is open
abbrev pub AtRest : {S : Type 0} → ShareState S → PeerState → Type 0
AtRest share peer = (nat_lt 0 (length peer.owed) ≡ false) × (is_open share peer.connection ≡ true)

-- a place is in a list
abbrev pub IsIn : ℕ → List ℕ → Type 0
IsIn place places = (i : ℕ) × (i < length places) × (slice_index places i ≡ place)

-- peers in rising number
abbrev pub AreInOrder : List PeerState → Type 0
AreInOrder peers = IsNonDecreasingBy (λ (peer : PeerState). peer.number) peers

-- the peers that are served are in rising number, and in the list of places is room for the place of each of them
pub record AreKept (served : ServedPeers) : Type 0 where
  pub order : AreInOrder served.peers.items
  pub room : length served.peers.items ≤ vec_capacity served.restless

-- places in rising order, below a bound
pub record ArePlaces (places : List ℕ) (bound : ℕ) : Type 0 where
  pub rising : (i j : ℕ) → i < j → j < length places → slice_index places i < slice_index places j
  pub within : (i : ℕ) → i < length places → slice_index places i < bound

-- places in rising order, below a bound: each peer before the bound is at rest, or its place is one of them
pub record AreNoted {S : Type 0} (share : ShareState S) (peers : List PeerState) (places : List ℕ) (bound : ℕ) : Type 0 where
  pub fits : bound ≤ length peers
  pub rising : (i j : ℕ) → i < j → j < length places → slice_index places i < slice_index places j
  pub within : (i : ℕ) → i < length places → slice_index places i < bound
  pub rest : (k : ℕ) (other : PeerState) → k < bound → AtRest share (slice_index_or peers k other) ⊎ IsIn k places

-- the same of the peers that are served, unless each of them may need something
pub record AreTrackedTo {S : Type 0} (bound : ℕ) (share : ShareState S) (served : ServedPeers) : Type 0 where
  pub kept : AreKept served
  pub noted : served.all ≡ false → AreNoted share served.peers.items served.restless.items bound

abbrev pub AreTracked : {S : Type 0} → ShareState S → ServedPeers → Type 0
AreTracked share served = AreTrackedTo (length served.peers.items) share served

-- a place more
pub data IsNoted (place : ℕ) (before after : ServedPeers) : Type 0 where
  is_there : after.all ≡ before.all → after.restless.items ≡ before.restless.items → IsIn place before.restless.items → IsNoted place before after
  is_put : (at : ℕ) → after.all ≡ before.all → after.restless.items ≡ insert before.restless.items at place → at ≤ length before.restless.items →
      ((i : ℕ) → i < at → slice_index before.restless.items i < place) → (at < length before.restless.items → place < slice_index before.restless.items at) →
      IsNoted place before after
  is_needless : after.all ≡ true → IsNoted place before after

-- what a peer's part of a turn leaves of the share and of the peers
abbrev pub Leaves : {S : Type 0} → ℕ → ShareState S → List PeerState → ShareState S → List PeerState → Part → Type 0
Leaves place share peers share' peers' Rests = (peer : PeerState) × (peers' ≡ slice_set peers place peer) × (share' ≡ share) × AtRest share peer
Leaves place share peers share' peers' IsOwed = (peer : PeerState) × (peers' ≡ slice_set peers place peer) × (share' ≡ share)
Leaves place share peers share' peers' Fails = length peers' ≡ length peers
Leaves place share peers share' peers' Closes = length peers' + 1 ≡ length peers

-- the place of the peer that is next
abbrev pub next_place : ℕ → Part → ℕ
next_place place Rests = place + 1
next_place place IsOwed = place + 1
next_place place Fails = place + 1
next_place place Closes = place

-- the part of the peer at a place: those before it had theirs
pub record HasPartAt {S : Type 0} (place : ℕ) (share : ShareState S) (peers : List PeerState) (calls : List PeerCall) (share' : ShareState S) (peers' : List PeerState) (calls' : List PeerCall) (next : ℕ) : Type 0 where
  pub peer : PeerState
  pub split : drop place peers ≡ peer ∷ drop next peers'
  pub served : (moments : List ℕ) (n : ℕ) → IsServed peer (serving share (take place peers) calls moments n) (serving share' (take next peers') calls' moments n)
