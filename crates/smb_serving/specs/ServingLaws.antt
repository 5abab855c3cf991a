-- Serving is a run of events for its peers.
use Rattle.std.specs.Prelude.{◌≡◌, ◌⊎◌, ℕ, ◌+◌, ◌≤◌, Bool, true, false, ◌||◌, ◌==◌, nat_lt, List, [], ◌∷◌, ◌++◌, length, map, Option, None, Some, if◌then◌else◌}
use Rattle.std.specs.Option.{option_map_or}
use Rattle.std.specs.List.{flat_map, list_any}
use Rattle.smb_engine.specs.declared.fault.ServeFault.TheVariants.{TooManyConnections}
use Rattle.smb_session.specs.Authenticator.{Meaning}
use Rattle.smb_engine.specs.State.{ShareState, is_open}
use Rattle.smb_engine.specs.Good.{GoodState}
use Rattle.smb_engine.specs.Run.{run}
use Rattle.smb_engine.specs.Refusals.{opening_refusal}
use Rattle.smb_engine.specs.Stream.{unread}
use Rattle.smb_engine.specs.Laws.{receiver}
use Rattle.smb_peers.specs.Event.{EventText, opens, brings, ends}
use Rattle.smb_serving.specs.Happenings.{Happening, performed, cut_short, event_of, times_out_of_memory, runs_out_of_memory, happening_step, run_of}
use Rattle.smb_engine.specs.Output.{Output, output_bytes}
use Rattle.smb_peers.specs.Record.{PeerCall, next_opened, next_ended, send, close, sent_by, taken_by, closes_of}
use Rattle.smb_serving.specs.ServedPeers.{PeerState, peer_of}
use Rattle.smb_serving.specs.Serving.{most_owed, Served}

-- whether calls open a number
abbrev pub is_opened : ℕ → List PeerCall → Bool
is_opened number calls = list_any
    (λ call. elim call as (λ c. Bool) [ next_opened other ↦ other == number | _ ↦ false ])
    calls

-- no number is opened twice: where one is opened, it was not opened before
abbrev pub OpensEachOnce : List PeerCall → Type 0
OpensEachOnce calls = (before after : List PeerCall) (number : ℕ) → calls ≡ before ++ next_opened number ∷ after → is_opened number before ≡ false

-- whether a number is broken off: its peers end it, or a send to it fails
abbrev pub is_broken_off : ℕ → List PeerCall → Bool
is_broken_off number calls = list_any
    (λ call. elim call as (λ c. Bool) [
      | next_ended other ↦ other == number
      | send other offered None ↦ other == number
      | _ ↦ false
    ])
    calls

-- the bytes that came of a number behind its opening
abbrev pub sent_when_open : ℕ → List PeerCall → List ℕ
sent_when_open number [] = []
sent_when_open number (call ∷ calls) =
    if is_opened number (call ∷ []) then sent_by number calls else sent_when_open number calls

-- the bytes that happenings bring to a connection
abbrev pub brought_to : ℕ → List Happening → List ℕ
brought_to connection happenings = flat_map
    (λ happening. elim (event_of happening) as (λ e. List ℕ) [
      | brings other moment piece ↦ if other == connection then piece else []
      | _ ↦ []
    ])
    happenings

-- whether happenings end a connection: one is its end, or memory ran out in a piece of it
abbrev pub is_ended : ℕ → List Happening → Bool
is_ended connection happenings = list_any
    (λ happening. elim happening as (λ h. Bool) [
      | performed (ends other) ↦ other == connection
      | cut_short (brings other moment piece) done ↦ other == connection
      | _ ↦ false
    ])
    happenings

-- the bytes that outputs have for a connection
abbrev pub put_out_to : ℕ → List Output → List ℕ
put_out_to connection outputs = flat_map
    (λ output. if receiver output == connection then output_bytes output else [])
    outputs

-- the bytes that a number is owed; one that has no peer is owed none
abbrev pub owed_to : ℕ → List PeerState → List ℕ
owed_to number served_peers = option_map_or (λ peer. peer.owed) (peer_of number served_peers) []

-- a number was not broken off, memory ran out in none of its pieces, and of what was put out for it no more is left than may
-- be owed
pub record GoesOn (number connection : ℕ) (calls : List PeerCall) (happenings : List Happening) (outputs : List Output) : Type 0 where
  pub unbroken : is_broken_off number calls ≡ false
  pub remembered : runs_out_of_memory connection happenings ≡ false
  pub few : length (put_out_to connection outputs) ≤ length (taken_by number calls) + most_owed

-- a connection is brought what came of its number behind the opening, all of it and nothing else; what was taken for the
-- number is the beginning of what is put out to the connection; and while the number goes on, nothing ends the connection
-- but the share
pub record IsAnswered (number connection : ℕ) (calls : List PeerCall) (happenings : List Happening) (outputs : List Output) : Type 0 where
  pub brought : brought_to connection happenings ≡ sent_when_open number calls
  pub beginning : (left : List ℕ) × (taken_by number calls ++ left ≡ put_out_to connection outputs)
  pub unended : GoesOn number connection calls happenings outputs → is_ended connection happenings ≡ false

module _ {S : Type 0} (authenticator : Meaning S) where
  -- the moments of all pieces on open connections, in order
  abbrev pub moments_of : ShareState S → List Happening → List ℕ
  moments_of share [] = []
  moments_of share (happening ∷ happenings) =
      elim (event_of happening) as (λ e. List ℕ) [
        | brings connection moment piece ↦ if is_open share connection then moment ∷ [] else []
        | _ ↦ []
      ]
      ++ moments_of (happening_step authenticator share happening).state happenings

  -- a number was closed at its opening, at a point of the run at which it could not get a connection: the share refuses it
  -- there, or memory runs out at it
  pub record IsRefused (share : ShareState S) (number : ℕ) (calls : List PeerCall) (happenings : List Happening) : Type 0 where
    pub before : List PeerCall
    pub after : List PeerCall
    pub closed : calls ≡ before ++ next_opened number ∷ close number ∷ after
    pub front : List Happening
    pub back : List Happening
    pub point : happenings ≡ front ++ back
    pub reason :
        let left = (run_of authenticator share front).state in
        (opening_refusal left ≡ Some TooManyConnections)
        ⊎ ((done : ℕ) × (others : List Happening) × (back ≡ cut_short (opens left.next) done ∷ others))

  -- a record of calls is that of a run of happenings, none of them refused, which leaves the share as it is now; memory ran out
  -- so often; the clock gave the moments of its pieces. Numbers have connections of their own. At each point of the record there
  -- is a point of the run up to which each of them is answered; and so is each at the end, where what was taken for a number
  -- that goes on, and what it is owed, are all that is put out to its connection. A number is closed once where its connection
  -- has ended and it is owed nothing, and else it is not closed. For a number without a connection nothing was taken, and if it
  -- was opened at all, it was closed once, at its opening
  pub record IsRun (share share' : ShareState S) (served_peers : List PeerState) (calls : List PeerCall) (moments : List ℕ) (ran_out : ℕ) (happenings : List Happening) (connections : ℕ → Option ℕ) : Type 0 where
    pub unrefused : (run_of authenticator share happenings).stop ≡ None
    pub state : share' ≡ unread (run_of authenticator share happenings).state
    pub counted : ran_out ≡ times_out_of_memory happenings
    pub told : moments ≡ moments_of share happenings
    pub apart : (number other connection : ℕ) → connections number ≡ Some connection → connections other ≡ Some connection → number ≡ other
    pub points : (before after : List PeerCall) → calls ≡ before ++ after → (front back : List Happening) × (happenings ≡ front ++ back)
        × ((number connection : ℕ) → connections number ≡ Some connection → IsAnswered number connection before front (run_of authenticator share front).outputs)
    pub answered : (number connection : ℕ) → connections number ≡ Some connection →
        IsAnswered number connection calls happenings (run_of authenticator share happenings).outputs
        × (GoesOn number connection calls happenings (run_of authenticator share happenings).outputs → taken_by number calls ++ owed_to number served_peers ≡ put_out_to connection (run_of authenticator share happenings).outputs)
    pub closed : (number connection : ℕ) → connections number ≡ Some connection →
        closes_of number calls ≡ (if is_open share' connection || nat_lt 0 (length (owed_to number served_peers)) then 0 else 1)
    pub others : (number : ℕ) → connections number ≡ None → (taken_by number calls ≡ [])
        × (closes_of number calls ≡ (if is_opened number calls then 1 else 0)) × (is_opened number calls ≡ true → IsRefused share number calls happenings)

  -- serving a share without connections, if no number was opened twice, is a run of happenings
  abbrev pub ServingIsARun : Type 0
  ServingIsARun =
      (turns : ℕ) (share share' : ShareState S) (calls more : List PeerCall) (moments later : List ℕ) (ran_out : ℕ) →
      GoodState share → share.streams ≡ [] → OpensEachOnce more → (served : Served authenticator turns share calls moments share' (calls ++ more) (moments ++ later) ran_out) →
      (happenings : List Happening) × (connections : ℕ → Option ℕ) × IsRun share share' served.0 more later ran_out happenings connections

  -- happenings in which memory never runs out are a run of events
  abbrev pub WithMemoryItIsARun : Type 0
  WithMemoryItIsARun = (share : ShareState S) (events : List EventText) → run_of authenticator share (map performed events) ≡ run authenticator share events
