-- A start from a journal: its events are performed, and then the connections that are open end (docs/DATA.md).
use Rattle.std.specs.Prelude.{◌≡◌, List, ◌++◌, length, None}
use Rattle.smb_session.specs.Authenticator.{Meaning}
use Rattle.smb_peers.specs.Event.{EventText}
use Rattle.smb_engine.specs.Good.{GoodState}
use Rattle.smb_engine.specs.Laws.{run_after}
use Rattle.smb_engine.specs.Rest.{ends_of}
use Rattle.smb_engine.specs.Run.{run}
use Rattle.smb_engine.specs.State.{ShareState}
use Rattle.smb_engine.specs.Stream.{unread}
use Rattle.smb_restart_laws.specs.Ends.{all_ended}

-- the events that a start performs: those of a journal, and then the ends of the connections that they leave open. The
-- journal holds these ends too from then on
abbrev pub with_ends : {S : Type 0} → Meaning S → ShareState S → List EventText → List EventText
with_ends authenticator s events = events ++ ends_of (run authenticator s events).state.streams

-- the state that a start leaves
abbrev pub restarted : {S : Type 0} → Meaning S → ShareState S → List EventText → ShareState S
restarted authenticator s events = (all_ended authenticator (run authenticator s events).state).state

module _ {S : Type 0} (authenticator : Meaning S) where
  -- a start is one run: no event of it is refused, and nothing is put out but what the journal's events put out
  abbrev pub AStartIsOneRun : Type 0
  AStartIsOneRun =
      (s : ShareState S) (events : List EventText) → GoodState s → (run authenticator s events).stop ≡ None →
      run authenticator s (with_ends authenticator s events)
      ≡ record { state = restarted authenticator s events; outputs = (run authenticator s events).outputs; stop = None }

  -- what happens later goes on from there: clients are answered as by one run of the journal's events, the ends, and
  -- what they send
  abbrev pub AStartGoesOn : Type 0
  AStartGoesOn =
      (s : ShareState S) (events others : List EventText) → GoodState s → (run authenticator s events).stop ≡ None →
      run authenticator s (with_ends authenticator s events ++ others)
      ≡ run_after (length (with_ends authenticator s events)) (run authenticator s events).outputs
      (run authenticator (restarted authenticator s events) others)

  -- a second start, nothing having come in between, has no connection to end: it performs the same events, and leaves the
  -- same state
  abbrev pub TwoStartsAreOne : Type 0
  TwoStartsAreOne =
      (s : ShareState S) (events : List EventText) → GoodState s → (run authenticator s events).stop ≡ None →
      let started = with_ends authenticator s events in
      (with_ends authenticator s started ≡ started)
      × (restarted authenticator s started ≡ restarted authenticator s events)

  -- a share that holds of each stream what is unread alone is left by the ends in the very same state
  abbrev pub WhatIsUnreadIsEnough : Type 0
  WhatIsUnreadIsEnough =
      (s : ShareState S) (events : List EventText) → GoodState s →
      all_ended authenticator (unread (run authenticator s events).state)
      ≡ all_ended authenticator (run authenticator s events).state
