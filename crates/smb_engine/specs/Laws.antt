-- What follows from the definitions, of every authenticator.
use Rattle.std.specs.Prelude.{◌≡◌, ◌⊎◌, ℕ, suc, ◌+◌, ◌<◌, false, ◌==◌, not, nat_lt, List, [], ◌∷◌, ◌++◌, length, map, None, Some, is_some, MatchOption, if◌then◌else◌}
use Rattle.std.specs.Option.{option_map, option_map_or}
use Rattle.std.specs.List.{AllByRecursion, Any, concat, flat_map}
use Rattle.smb_session.specs.Numbers.{IsRising}
use Rattle.smb_session.specs.Authenticator.{Meaning}
use Rattle.smb_session.specs.Session.{SessionState}
use Rattle.smb_session.specs.Table.{session_at}
use Rattle.smb_opens.specs.Readers.{LeavesFiles}
use Rattle.smb_request.specs.Laws.{IsInOrder, IsAsItWas, IsOver, ReplacesSession, AllMayOnlyRead}
use Rattle.smb_peers.specs.Event.{EventText, brings, connection_of}
use Rattle.smb_peers.specs.Observed.{Observed, performed, responded, ended}
use Rattle.smb_engine.specs.declared.connection.Connection.{Connection}
use Rattle.smb_engine.specs.State.{ShareState, stream_of}
use Rattle.smb_engine.specs.Good.{GoodState}
use Rattle.smb_engine.specs.Stream.{unread}
use Rattle.smb_engine.specs.Run.{PerformedRequest, Stop, Ran, run, event_refusal, event_step, admitted, ending_of}
use Rattle.smb_engine.specs.Refusals.{run_behind}
use Rattle.smb_engine.specs.Output.{Output, frame_to, end_of}
use Rattle.smb_engine.specs.Observed.{run_observed}

-- the numbers of the open connections rise, and each was given to a connection
pub record StreamsInOrder {S : Type 0} (s : ShareState S) : Type 0 where
  pub rising : IsRising (map (λ entry. entry.0) s.streams)
  pub given : AllByRecursion (λ entry. entry.0 < s.next) s.streams

-- what a second run leaves and puts out, behind the outputs of a first one of so many events
abbrev pub run_after : {S : Type 0} → ℕ → List Output → Ran S → Ran S
run_after count before ran = record {
  state = ran.state;
  outputs = before ++ ran.outputs;
  stop = option_map (λ (stop : Stop). record stop { place = count + stop.place }) ran.stop;
}

-- the connection to which an output goes
abbrev pub receiver : Output → ℕ
receiver (frame_to connection bytes) = connection
receiver (end_of connection) = connection

-- the connections that outputs end, and those that are heard of as ended
abbrev pub ends_put_out : List Output → List ℕ
ends_put_out outputs = flat_map
    (λ output. elim output as (λ it. List ℕ) [ frame_to connection bytes ↦ [] | end_of connection ↦ connection ∷ [] ])
    outputs

abbrev pub ends_heard : List Observed → List ℕ
ends_heard heard = flat_map
    (λ it. elim it as (λ it. List ℕ) [
      | performed connection request acting ↦ []
      | responded connection response ↦ []
      | ended connection rule ↦ connection ∷ []
    ])
    heard

-- two runs leave and put out the same, and stop for the same reason, or neither does
pub record AreAlike {S : Type 0} (one other : Ran S) : Type 0 where
  pub state : one.state ≡ other.state
  pub outputs : one.outputs ≡ other.outputs
  pub reason : option_map (λ fault. fault.fault) one.stop ≡ option_map (λ fault. fault.fault) other.stop

-- a payload that is no first SMB_COM_NEGOTIATE is performed, or there is a rule by which it ends its connection, and just one
-- of both
abbrev pub EachPayloadIsAdmittedOrEnds : Type 0
EachPayloadIsAdmittedOrEnds =
    (connection : Connection) (payload : List ℕ) → is_some (admitted connection payload) ≡ not (is_some (ending_of connection payload))

module _ {S : Type 0} (authenticator : Meaning S) where
  -- the requests that a run performs, in order, up to an event that is refused
  abbrev pub requests_of_run : ShareState S → List EventText → List (PerformedRequest S)
  requests_of_run s [] = []
  requests_of_run s (event ∷ events) = option_map_or (λ fault. [])
      (event_refusal s event) ((event_step authenticator s event).requests ++ requests_of_run (event_step authenticator s event).state events)

  -- a good state is in order, and so is what a run leaves of one in order
  abbrev pub StatesAreInOrder : Type 0
  StatesAreInOrder = ((s : ShareState S) → GoodState s → StreamsInOrder s) × ((s : ShareState S) (events : List EventText) → StreamsInOrder s → StreamsInOrder (run authenticator s events).state)

  -- one piece of a run can be cut in two, and the run leaves and puts out the same; where it stops
  -- behind them, that is one event later
  abbrev pub ACutDoesNotMatter : Type 0
  ACutDoesNotMatter =
      (s : ShareState S) → StreamsInOrder s → (before after : List EventText) (connection moment : ℕ) (front back : List ℕ) →
      let whole = run authenticator s (before ++ brings connection moment (front ++ back) ∷ after) in
      let later : Stop → Stop = λ stop.
      if nat_lt (length before) stop.place then record stop { place = suc stop.place } else stop in
      run authenticator s (before ++ brings connection moment front ∷ brings connection moment back ∷ after)
      ≡ record whole { stop = option_map later whole.stop }

  -- it does not matter how bytes that come at one moment are cut into pieces, if there is one at all
  abbrev pub CutsDoNotMatter : Type 0
  CutsDoNotMatter =
      (s : ShareState S) → StreamsInOrder s → (before after : List EventText) (connection moment : ℕ) (pieces others : List (List ℕ)) →
      0 < length pieces → 0 < length others → concat pieces ≡ concat others →
      let ran : List (List ℕ) → Ran S = λ pieces.
      run authenticator s (before ++ (map (brings connection moment) pieces ++ after)) in
      AreAlike (ran pieces) (ran others)

  -- several runs are one: the second goes on where the first stopped, unless that was at a refusal
  abbrev pub RunsAreOne : Type 0
  RunsAreOne =
      (s : ShareState S) (events others : List EventText) →
      ((run authenticator s events).stop ≡ None → run authenticator s (events ++ others) ≡ run_after (length events) (run authenticator s events).outputs (run authenticator (run authenticator s events).state others))
      × ((fault : Stop) → (run authenticator s events).stop ≡ Some fault → run authenticator s (events ++ others) ≡ run authenticator s events)

  -- and the second may begin with what is unread alone
  abbrev pub UnreadIsEnough : Type 0
  UnreadIsEnough = (s : ShareState S) (events : List EventText) → run_behind [] (run authenticator (unread s) events) ≡ run_behind [] (run authenticator s events)

  -- events on other connections leave a connection as it was, stream, dialect and window, and put nothing out to it
  abbrev pub OthersAreLeft : Type 0
  OthersAreLeft =
      (s : ShareState S) (events : List EventText) (connection : ℕ) → AllByRecursion (λ event. (connection_of event == connection) ≡ false) events →
      (stream_of connection (run authenticator s events).state.streams ≡ stream_of connection s.streams)
      × AllByRecursion (λ output. (receiver output == connection) ≡ false) (run authenticator s events).outputs

  -- the sessions and opens of a good state are in order, and so are those that a run leaves of such ones
  abbrev pub SessionsAreInOrder : Type 0
  SessionsAreInOrder =
      ((s : ShareState S) → GoodState s → IsInOrder s.server)
      × ((s : ShareState S) (events : List EventText) → IsInOrder s.server → IsInOrder (run authenticator s events).state.server)

  -- events on other connections leave each session of a connection as it was, with its trees and its opens; or it is over
  -- since one of their requests replaced it: a SESSION_SETUP that lets its user in, and names it as the previous session
  abbrev pub SessionsOfOthersAreLeft : Type 0
  SessionsOfOthersAreLeft =
      (s : ShareState S) → IsInOrder s.server → (events : List EventText) (connection : ℕ) → AllByRecursion (λ event. (connection_of event == connection) ≡ false) events →
      (number : ℕ) (session : SessionState) → session_at s.server.sessions.table number ≡ Some session → session.connection ≡ connection →
      IsAsItWas s.server (run authenticator s events).state.server number
      ⊎ (IsOver (run authenticator s events).state.server number
      × Any (λ came. MatchOption came.request ⊥ (λ request. ReplacesSession authenticator came.before came.context request number session)) (requests_of_run s events))

  -- a session's number is given once: it stays given, and a session that is over stays over, whatever events come
  abbrev pub WhatIsOverStaysOver : Type 0
  WhatIsOverStaysOver =
      (s : ShareState S) → IsInOrder s.server → (events : List EventText) (number : ℕ) → number < s.server.sessions.table.next →
      (number < (run authenticator s events).state.server.sessions.table.next)
      × (IsOver s.server number → IsOver (run authenticator s events).state.server number)

  -- the share ends a connection at most once, and puts nothing out to it afterwards
  abbrev pub AnEndIsTheLast : Type 0
  AnEndIsTheLast =
      (s : ShareState S) → StreamsInOrder s → (events : List EventText) (connection : ℕ) (before after : List Output) →
      (run authenticator s events).outputs ≡ before ++ end_of connection ∷ after →
      AllByRecursion (λ output. (receiver output == connection) ≡ false) after

  -- who observes a run hears of each connection that the share ends, in order, by which rule, and of no other
  abbrev pub EachEndIsHeard : Type 0
  EachEndIsHeard =
      (s : ShareState S) (events : List EventText) →
      ends_put_out (run authenticator s events).outputs ≡ ends_heard (run_observed authenticator s events)

  -- as each request of these events comes, no session of its connection may write
  abbrev pub AreOfReaders : ShareState S → List EventText → Type 0
  AreOfReaders s [] = Unit {0}
  AreOfReaders s (event ∷ events) = event_refusal s event ≡ None →
      AllByRecursion (λ came. AllMayOnlyRead came.before.sessions.table (connection_of event)) (event_step authenticator s event).requests
      × AreOfReaders (event_step authenticator s event).state events

  -- whoever may only read changes no file, whatever it sends: no entry, byte, attribute, time or name, but for what goes with its
  -- last open
  abbrev pub AReaderChangesNoFile : Type 0
  AReaderChangesNoFile =
      (s : ShareState S) (events : List EventText) → GoodState s → AreOfReaders s events →
      LeavesFiles s.server.store (run authenticator s events).state.server.store
