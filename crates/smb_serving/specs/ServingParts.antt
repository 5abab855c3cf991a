-- For the proofs; nothing here need be believed.
-- Parts of the definitions of serving that the proofs and private functions speak of.
use Rattle.std.specs.Prelude.{◌≡◌, ◌⊎◌, ℕ, ◌≤◌, ◌==◌, Bool, true, false, ◌||◌, nat_lt, List, [], ◌∷◌, ◌++◌, length, take, drop, Option, None, Some, is_some, unwrap_or, if◌then◌else◌}
use Rattle.std.specs.Option.{option_map_or}
use Rattle.std.specs.List.{flat_map, position}
use Rattle.smb_session.specs.Authenticator.{Meaning}
use Rattle.smb_engine.specs.State.{ShareState, stream_of, is_open, ended}
use Rattle.smb_engine.specs.Stream.{unread}
use Rattle.smb_peers.specs.Event.{EventText, opens, brings, ends}
use Rattle.smb_engine.specs.Run.{bytes_step}
use Rattle.smb_engine.specs.Refusals.{EventOutOfMemory, opening_refusal}
use Rattle.smb_engine.specs.declared.fault.ServeFault.TheVariants.{TooManyConnections}
use Rattle.smb_serving.specs.Happenings.{Happening, performed, cut_short, event_of}
use Rattle.smb_engine.specs.Laws.{receiver}
use Rattle.smb_engine.specs.Output.{Output, AreShort, output_bytes}
use Rattle.smb_peers.specs.Record.{PeerCall, next_opened, next_bytes, next_ended, send, close}
use Rattle.smb_serving.specs.ServedPeers.{PeerState, peer_of, with_peer}
use Rattle.smb_serving.specs.Serving.{ServingState, most_owed}

-- whether memory ran out in a happening
abbrev pub is_cut_short : Happening → Bool
is_cut_short (performed event) = false
is_cut_short (cut_short event done) = true

-- whether an event is a piece of a connection
abbrev pub is_piece_of : ℕ → EventText → Bool
is_piece_of connection (opens other) = false
is_piece_of connection (brings other moment piece) = other == connection
is_piece_of connection (ends other) = false

-- whether memory ran out in a piece of a connection
abbrev pub runs_out_in : ℕ → Happening → Bool
runs_out_in connection happening = elim happening as (λ h. Bool) [ cut_short (brings other moment piece) done ↦ other == connection | _ ↦ false ]

-- the bytes that came of a number in a call
abbrev pub sent_in : ℕ → PeerCall → List ℕ
sent_in number call = elim call as (λ c. List ℕ) [ next_bytes other piece ↦ if other == number then piece else [] | _ ↦ [] ]

-- the bytes that were taken for a number in a call
abbrev pub taken_in : ℕ → PeerCall → List ℕ
taken_in number call = elim call as (λ c. List ℕ) [ send other offered (Some bytes) ↦ if other == number then bytes else [] | _ ↦ [] ]

-- whether a call closes a number, opens it, or breaks it off
abbrev pub is_close : ℕ → PeerCall → Bool
is_close number call = elim call as (λ c. Bool) [ close other ↦ other == number | _ ↦ false ]

abbrev pub opens_in : ℕ → PeerCall → Bool
opens_in number call = elim call as (λ c. Bool) [ next_opened other ↦ other == number | _ ↦ false ]

abbrev pub breaks_in : ℕ → PeerCall → Bool
breaks_in number call = elim call as (λ c. Bool) [ next_ended other ↦ other == number | send other offered None ↦ other == number | _ ↦ false ]

-- the bytes that an event, and a happening, bring to a connection
abbrev pub brought_by : ℕ → EventText → List ℕ
brought_by connection event = elim event as (λ e. List ℕ) [ brings other moment piece ↦ if other == connection then piece else [] | _ ↦ [] ]

abbrev pub brought_in : ℕ → Happening → List ℕ
brought_in connection happening = brought_by connection (event_of happening)

-- whether an event, and a happening, end a connection
abbrev pub is_end_of : ℕ → EventText → Bool
is_end_of connection event = elim event as (λ e. Bool) [ ends other ↦ other == connection | _ ↦ false ]

abbrev pub ends_in : ℕ → Happening → Bool
ends_in connection happening = elim happening as (λ h. Bool) [
  | performed (ends other) ↦ other == connection
  | cut_short (brings other moment piece) done ↦ other == connection
  | _ ↦ false
]

-- the bytes that an output has for a connection
abbrev pub bytes_for : ℕ → Output → List ℕ
bytes_for connection output = if receiver output == connection then output_bytes output else []

-- the moment of a piece on an open connection
abbrev pub moment_of : {S : Type 0} → ShareState S → EventText → List ℕ
moment_of share event = elim event as (λ e. List ℕ) [
  | brings connection moment piece ↦ if is_some (stream_of connection share.streams) then moment ∷ [] else []
  | _ ↦ []
]

-- the place of a number among the peers
abbrev pub place_of : ℕ → List PeerState → Option ℕ
place_of number served_peers = position (λ peer. peer.number == number) served_peers

-- where a peer of a number is put: before the first that has a greater number
abbrev pub place_for : ℕ → List PeerState → ℕ
place_for number served_peers = unwrap_or (position (λ peer. nat_lt number peer.number) served_peers) (length served_peers)

-- a peer that is owed nothing any more
abbrev pub dropped : PeerState → PeerState
dropped peer = record peer { owed = [] }

-- the peer of a new connection of the share
abbrev pub new_peer : {S : Type 0} → ShareState S → ℕ → PeerState
new_peer share number = record { number = number; connection = share.next; owed = [] }

abbrev pub serving : {S : Type 0} → ShareState S → List PeerState → List PeerCall → List ℕ → ℕ → ServingState S
serving share served_peers calls moments ran_out = record { share = share; served_peers = served_peers; calls = calls; moments = moments; ran_out = ran_out }

-- a call more on the peers
abbrev pub told : {S : Type 0} → ServingState S → PeerCall → ServingState S
told s call = record s { calls = s.calls ++ call ∷ [] }

-- the share with one of its peers
pub record Taken (S : Type 0) : Type 0 where
  pub share : ShareState S
  pub peer : PeerState

-- after a piece: the share, its peer, the moments that the clock gave, and whether memory ran out
pub record Fed (S : Type 0) : Type 0 where
  pub share : ShareState S
  pub peer : PeerState
  pub moments : List ℕ
  pub ran_out : Bool

module _ {S : Type 0} (authenticator : Meaning S) where
  -- a peer that is owed the replies to a piece, behind what it was owed before
  abbrev pub with_replies : ShareState S → PeerState → ℕ → List ℕ → PeerState
  with_replies share peer moment piece =
      record peer { owed = peer.owed ++ flat_map output_bytes (bytes_step authenticator share peer.connection moment piece).outputs }

  -- a piece that is taken whole: where its peer is then owed too much, the connection ends, and all of that is dropped
  abbrev pub piece_taken : ShareState S → PeerState → ℕ → List ℕ → Taken S
  piece_taken share peer moment piece =
      let step = bytes_step authenticator share peer.connection moment piece in
      let owed = peer.owed ++ flat_map output_bytes step.outputs in
      let too_much = nat_lt most_owed (length owed) in
      record {
        share = if too_much then ended (unread step.state) peer.connection else unread step.state;
        peer = record peer { owed = if too_much then [] else owed };
      }

  -- memory ran out after so many requests of a piece: the connection has ended after them, and what the peer is owed is dropped
  pub record PieceEnds (share : ShareState S) (peer : PeerState) (moment : ℕ) (piece : List ℕ) (performed : ℕ) (share' : ShareState S) (peer' : PeerState) : Type 0 where
    pub stops : EventOutOfMemory authenticator share (brings peer.connection moment piece) performed share'
    pub drops : peer' ≡ dropped peer

  -- a peer's piece: where its connection is open, the clock is asked once and the share takes the piece; else it is passed over
  pub data PieceTaken (piece : List ℕ) (share : ShareState S) (peer : PeerState) (moments : List ℕ) (t : Fed S) : Type 0 where
    takes_piece : (moment : ℕ) → is_open share peer.connection ≡ true → AreShort (bytes_step authenticator share peer.connection moment piece).outputs →
        record { share = t.share; peer = t.peer } ≡ piece_taken share peer moment piece → t.moments ≡ moments ++ moment ∷ [] → t.ran_out ≡ false → PieceTaken piece share peer moments t
    stops_in_piece : (moment performed : ℕ) → is_open share peer.connection ≡ true → PieceEnds share peer moment piece performed t.share t.peer →
        t.moments ≡ moments ++ moment ∷ [] → t.ran_out ≡ true → PieceTaken piece share peer moments t
    leaves_piece : is_open share peer.connection ≡ false → t ≡ record { share = share; peer = peer; moments = moments; ran_out = false } → PieceTaken piece share peer moments t

-- the share and the peers where a peer ends: its connection ends, and what it is owed is dropped
abbrev pub share_behind_end : {S : Type 0} → ShareState S → List PeerState → ℕ → ShareState S
share_behind_end share served_peers number = option_map_or (λ (peer : PeerState). ended share peer.connection) (peer_of number served_peers) share

abbrev pub peers_behind_end : List PeerState → ℕ → List PeerState
peers_behind_end served_peers number = option_map_or (λ peer. with_peer number (dropped peer) served_peers) (peer_of number served_peers) served_peers

-- a peer's send: the share, the peer and the calls on the peers behind it
pub record Line (S : Type 0) : Type 0 where
  pub share : ShareState S
  pub peer : PeerState
  pub calls : List PeerCall

-- what a peer's send leaves
pub data IsSent {S : Type 0} (peer : PeerState) (share : ShareState S) (calls : List PeerCall) (t : Line S) : Type 0 where
  takes : (count : ℕ) → nat_lt 0 (length peer.owed) ≡ true → count ≤ length peer.owed →
      t ≡ record { share = share; peer = record peer { owed = drop count peer.owed }; calls = calls ++ send peer.number (length peer.owed) (Some (take count peer.owed)) ∷ [] } →
      IsSent peer share calls t
  fails : nat_lt 0 (length peer.owed) ≡ true →
      t ≡ record { share = ended share peer.connection; peer = dropped peer; calls = calls ++ send peer.number (length peer.owed) None ∷ [] } →
      IsSent peer share calls t
  owes_nothing : nat_lt 0 (length peer.owed) ≡ false → t ≡ record { share = share; peer = peer; calls = calls } → IsSent peer share calls t

-- a peer stays while it is owed bytes or its connection is open; else it is closed
abbrev pub stays : {S : Type 0} → ShareState S → PeerState → Bool
stays share peer = nat_lt 0 (length peer.owed) || is_open share peer.connection

abbrev pub kept_peers : {S : Type 0} → Line S → List PeerState
kept_peers line = if stays line.share line.peer then line.peer ∷ [] else []

abbrev pub closing_calls : {S : Type 0} → Line S → List PeerCall
closing_calls line = if stays line.share line.peer then line.calls else line.calls ++ close line.peer.number ∷ []

-- a peer's part of a turn: its send, and that it stays or is closed
pub record HasPart {S : Type 0} (peer : PeerState) (s t : ServingState S) : Type 0 where
  pub line : Line S
  pub sent : IsSent peer s.share s.calls line
  pub done : t ≡ record s { share = line.share; served_peers = s.served_peers ++ kept_peers line; calls = closing_calls line }

-- why an opening gets no connection: the share refuses it, or memory runs out at it
abbrev pub OpeningFails : {S : Type 0} → ShareState S → List Happening → Type 0
OpeningFails share behind =
    (opening_refusal share ≡ Some TooManyConnections) ⊎ ((done : ℕ) × (others : List Happening) × (behind ≡ cut_short (opens share.next) done ∷ others))
