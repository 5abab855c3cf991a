-- How a share is served to its peers, turn by turn.
use Rattle.std.specs.Prelude.{◌≡◌, ◌⊎◌, ℕ, zero, suc, ◌+◌, ◌<◌, ◌≤◌, Bool, true, false, ◌||◌, nat_lt, List, [], ◌∷◌, ◌++◌, length, take, drop, None, Some, is_some, if◌then◌else◌}
use Rattle.std.specs.Option.{option_map_or}
use Rattle.std.specs.List.{flat_map}
use Rattle.smb_session.specs.Authenticator.{Meaning}
use Rattle.smb_engine.specs.declared.fault.ServeFault.TheVariants.{TooManyConnections}
use Rattle.smb_engine.specs.State.{ShareState, is_open, opened, ended}
use Rattle.smb_engine.specs.Refusals.{EventOutOfMemory, opening_refusal}
use Rattle.smb_engine.specs.Run.{bytes_step}
use Rattle.smb_engine.specs.Stream.{unread}
use Rattle.smb_peers.specs.Event.{brings}
use Rattle.smb_engine.specs.Output.{AreShort, output_bytes}
use Rattle.smb_peers.specs.Record.{PeerCall, next_opened, next_bytes, next_ended, next_idle, send, close}
use Rattle.smb_serving.specs.ServedPeers.{PeerState, peer_of, with_peer, with_one_more}

-- the state of serving: the share, of each stream the unread bytes; the peers that are not closed, in rising number;
-- the calls on Peers so far, and the moments that the clock gave; and how often memory ran out
pub record ServingState (S : Type 0) : Type 0 where
  pub share : ShareState S
  pub served_peers : List PeerState
  pub calls : List PeerCall
  pub moments : List ℕ
  pub ran_out : ℕ

-- what follows on an opening: it is done; or the share refuses it, or memory runs out where it does not, and it is closed
-- at once. Peers open no number twice; that of a peer that is there is passed over
pub data OpeningFollows {S : Type 0} (number : ℕ) (s t : ServingState S) : Type 0 where
  is_done : peer_of number s.served_peers ≡ None → opening_refusal s.share ≡ None →
      t ≡ record s {
        share = opened s.share;
        served_peers = with_one_more (record { number = number; connection = s.share.next; owed = [] }) s.served_peers;
      } →
      OpeningFollows number s t
  is_refused : peer_of number s.served_peers ≡ None → opening_refusal s.share ≡ Some TooManyConnections →
      t ≡ record s { calls = s.calls ++ close number ∷ [] } →
      OpeningFollows number s t
  has_no_memory : peer_of number s.served_peers ≡ None → opening_refusal s.share ≡ None →
      t ≡ record s { calls = s.calls ++ close number ∷ []; ran_out = s.ran_out + 1 } →
      OpeningFollows number s t
  is_passed_over : is_some (peer_of number s.served_peers) ≡ true → t ≡ s → OpeningFollows number s t

-- the most bytes that a peer may be owed
abbrev pub most_owed : ℕ
most_owed = 33554432

module _ {S : Type 0} (authenticator : Meaning S) where
  -- what follows on a piece of a number whose peer has an open connection: the clock is asked once, and the share takes
  -- the piece. The peer is owed the replies, each of them short, behind what it was owed before; but where that is too
  -- much, or memory runs out in the piece, its connection ends and it is owed nothing. Any other piece is passed over
  pub data PieceFollows (number : ℕ) (piece : List ℕ) (s t : ServingState S) : Type 0 where
    is_answered : (peer : PeerState) (moment : ℕ) →
        peer_of number s.served_peers ≡ Some peer → is_open s.share peer.connection ≡ true →
        (let step = bytes_step authenticator s.share peer.connection moment piece in
        let owed = peer.owed ++ flat_map output_bytes step.outputs in
        let too_much = nat_lt most_owed (length owed) in
        AreShort step.outputs
        × (t ≡ record s {
          share = if too_much then ended (unread step.state) peer.connection else unread step.state;
          served_peers = with_peer number (record peer { owed = if too_much then [] else owed }) s.served_peers;
          moments = s.moments ++ moment ∷ [];
        })) →
        PieceFollows number piece s t
    runs_out : (peer : PeerState) (moment performed : ℕ) (left : ShareState S) →
        peer_of number s.served_peers ≡ Some peer → is_open s.share peer.connection ≡ true →
        EventOutOfMemory authenticator s.share (brings peer.connection moment piece) performed left →
        t ≡ record s {
          share = left;
          served_peers = with_peer number (record peer { owed = [] }) s.served_peers;
          moments = s.moments ++ moment ∷ [];
          ran_out = s.ran_out + 1;
        } →
        PieceFollows number piece s t
    is_left : option_map_or (λ peer. is_open s.share peer.connection) (peer_of number s.served_peers) false ≡ false →
        t ≡ s → PieceFollows number piece s t

  -- what follows on a call of `next`. Where a peer ends, its connection ends, and it is owed nothing
  abbrev pub Follows : PeerCall → ServingState S → ServingState S → Type 0
  Follows (next_opened number) s t = OpeningFollows number s t
  Follows (next_bytes number piece) s t = PieceFollows number piece s t
  Follows (next_ended number) s t = t ≡ option_map_or
      (λ (peer : PeerState). record s {
        share = ended s.share peer.connection;
        served_peers = with_peer number (record peer { owed = [] }) s.served_peers;
      })
      (peer_of number s.served_peers)
      s
  Follows next_idle s t = t ≡ s
  Follows (send number count taken) s t = ⊥
  Follows (close number) s t = ⊥

-- what becomes of a peer behind its send: it stays while it is owed bytes or its connection is open; else it is closed
abbrev pub settled : {S : Type 0} → PeerState → ServingState S → ServingState S
settled peer s =
    if nat_lt 0 (length peer.owed) || is_open s.share peer.connection
    then record s { served_peers = s.served_peers ++ peer ∷ [] }
    else record s { calls = s.calls ++ close peer.number ∷ [] }

-- a peer's part of a turn. One that is owed bytes gets one `send` of all of them: what was taken is owed no more; where
-- the send fails, the connection ends and the rest is dropped
pub data IsServed {S : Type 0} (peer : PeerState) (s t : ServingState S) : Type 0 where
  is_sent : (count : ℕ) → nat_lt 0 (length peer.owed) ≡ true → count ≤ length peer.owed →
      t ≡ settled (record peer { owed = drop count peer.owed }) (record s {
        calls = s.calls ++ send peer.number (length peer.owed) (Some (take count peer.owed)) ∷ [];
      }) →
      IsServed peer s t
  fails : nat_lt 0 (length peer.owed) ≡ true →
      t ≡ settled (record peer { owed = [] }) (record s {
        share = ended s.share peer.connection;
        calls = s.calls ++ send peer.number (length peer.owed) None ∷ [];
      }) →
      IsServed peer s t
  owes_nothing : nat_lt 0 (length peer.owed) ≡ false → t ≡ settled peer s → IsServed peer s t

-- all peers' parts of a turn, one after the other
abbrev pub AreServed : {S : Type 0} → List PeerState → ServingState S → ServingState S → Type 0
AreServed [] s t = t ≡ s
AreServed {S} (peer ∷ served_peers) s t = (middle : ServingState S) × IsServed peer s middle × AreServed served_peers middle t

module _ {S : Type 0} (authenticator : Meaning S) where
  -- a turn: a call of `next`, what follows on it, and then each peer's part in rising number
  abbrev pub Turn : ServingState S → ServingState S → Type 0
  Turn s t = (call : PeerCall) × (middle : ServingState S)
      × Follows authenticator call (record s { calls = s.calls ++ call ∷ [] }) middle
      × AreServed middle.served_peers (record middle { served_peers = [] }) t

  -- so many turns
  abbrev pub Turns : ℕ → ServingState S → ServingState S → Type 0
  Turns zero s t = t ≡ s
  Turns (suc turns) s t = (middle : ServingState S) × Turns turns s middle × Turn middle t

  -- so many turns, from no peers on, with so many times at which memory ran out: they take the share, the record of the
  -- calls and that of the moments from what they were to what they are
  abbrev pub Served : ℕ → ShareState S → List PeerCall → List ℕ → ShareState S → List PeerCall → List ℕ → ℕ → Type 0
  Served turns share calls moments share' calls' moments' ran_out =
      (served_peers : List PeerState) × Turns turns
      (record { share = share; served_peers = []; calls = calls; moments = moments; ran_out = 0 })
      (record { share = share'; served_peers = served_peers; calls = calls'; moments = moments'; ran_out = ran_out })

module _ {S P : Type 0} (authenticator : Meaning S) (calls : P → List PeerCall) (stopped : P → Bool) where
  -- turns behind each of which the peers asked for no stop, with the peers as they were behind each, the last turn first
  abbrev pub TurnsUnstopped : List P → ServingState S → ServingState S → Type 0
  TurnsUnstopped [] s t = t ≡ s
  TurnsUnstopped (peers ∷ before) s t =
      (middle : ServingState S) × TurnsUnstopped before s middle × Turn authenticator middle t × (t.calls ≡ calls peers)
      × (stopped peers ≡ false)

  -- so many turns; or fewer, the last of them the first behind which the peers, as they are now, ask for a stop
  abbrev pub TurnsUntilStopped : ℕ → P → ServingState S → ServingState S → Type 0
  TurnsUntilStopped turns peers s t =
      (before : List P) × (middle : ServingState S) × TurnsUnstopped before s middle
      × (((length before ≡ turns) × (t ≡ middle))
      ⊎ ((length before < turns) × Turn authenticator middle t × (stopped peers ≡ true)))

  -- so a share is served, as by `Served`: with the peers as they were and as they are
  abbrev pub ServedUntilStopped : ℕ → ShareState S → P → List ℕ → ShareState S → P → List ℕ → ℕ → Type 0
  ServedUntilStopped turns share peers moments share' peers' moments' ran_out =
      (served_peers : List PeerState) × TurnsUntilStopped turns peers'
      (record { share = share; served_peers = []; calls = calls peers; moments = moments; ran_out = 0 })
      (record { share = share'; served_peers = served_peers; calls = calls peers'; moments = moments'; ran_out = ran_out })
