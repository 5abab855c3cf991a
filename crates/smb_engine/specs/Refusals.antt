-- What a fault of a share says, and the state that it leaves.
use Rattle.std.specs.Prelude.{◌≡◌, ℕ, ◌≤◌, Bool, true, false, ◌||◌, nat_le, List, ◌∷◌, ◌++◌, length, take, drop, Option, None, Some, is_some, if◌then◌else◌}
use Rattle.std.specs.List.{fold}
use Rattle.smb_wire.specs.Counters.{is_spent}
use Rattle.smb_session.specs.Authenticator.{Meaning}
use Rattle.smb_request.specs.State.{ServerState}
use Rattle.smb_engine.specs.declared.fault.ServeFault.{ServeFault}
use Rattle.smb_engine.specs.declared.fault.ServeFault.TheVariants.{TooManyConnections, NoMemory, BadConfig}
use Rattle.smb_engine.specs.State.{ShareState, stream_of, ended}
use Rattle.smb_engine.specs.Stream.{unread}
use Rattle.smb_peers.specs.Event.{EventText, opens, brings, ends}
use Rattle.smb_engine.specs.Output.{Output}
use Rattle.smb_engine.specs.Run.{PerformedRequest, Ran, event_refusal, bytes_step, event_step, run}

-- the share where memory ran out after the first `done` requests of an event: those of a piece were performed, and then
-- its connection ended; an opening changed nothing; and at an end memory never runs out
abbrev pub stopped : {S : Type 0} → Meaning S → ShareState S → EventText → ℕ → ShareState S
stopped {S} authenticator s event done = elim event as (λ e. ShareState S) [
  | opens connection ↦ s
  | brings connection moment piece ↦
      let step = bytes_step authenticator s connection moment piece in
      let after : ServerState S → PerformedRequest S → ServerState S = λ before request. request.after in
      ended (record s { server = fold after s.server (take done step.requests) }) connection
  | ends connection ↦ s
]

-- memory ran out after the first `done` requests of an event, and this state is left: that of the server is the one
-- behind these requests, and nothing of a later one is in it. `done` is at most the number of the event's requests.
-- Several numbers may fit one state, since requests as ECHO and READ change nothing.
pub record EventOutOfMemory {S : Type 0} (authenticator : Meaning S) (s : ShareState S) (event : EventText) (done : ℕ) (left : ShareState S) : Type 0 where
  -- memory can be wanting at no end, and at a piece only where its connection is open
  pub wanting :
      elim event as (λ e. Bool) [
        | opens connection ↦ true
        | brings connection moment piece ↦ is_some (stream_of connection s.streams)
        | ends connection ↦ false
      ] ≡ true
  pub within : done ≤ length (event_step authenticator s event).requests
  pub state : left ≡ unread (stopped authenticator s event done)

-- why no connection opens: as many as may be are open, or the numbers are spent (3.3.5.1)
abbrev pub opening_refusal : {S : Type 0} → ShareState S → Option ServeFault
opening_refusal s =
    if nat_le s.most_connections (length s.streams) || is_spent 64 s.next then Some TooManyConnections else None

-- a run as the code holds its state, behind what was put out before
abbrev pub run_behind : {S : Type 0} → List Output → Ran S → Ran S
run_behind before ran = record { state = unread ran.state; outputs = before ++ ran.outputs; stop = ran.stop }

-- where memory ran out in a run: the events before the place were performed whole, none of them refused, and of that
-- event, which is not refused, the first `done` requests
pub record RunOutOfMemory {S : Type 0} (authenticator : Meaning S) (start : ShareState S) (events : List EventText) (place done : ℕ) (left : ShareState S) (before after : List Output) : Type 0 where
  pub event : EventText
  pub others : List EventText
  pub at : drop place events ≡ event ∷ others
  pub unrefused : (run authenticator start (take place events)).stop ≡ None
  pub stops :
      (event_refusal (run authenticator start (take place events)).state event ≡ None)
      × EventOutOfMemory authenticator (run authenticator start (take place events)).state event done left
  pub outputs : after ≡ before ++ (run authenticator start (take place events)).outputs

-- what an error of a run says: the definition stops there, or memory ran out
abbrev pub RunStopped : {S : Type 0} → Meaning S → ShareState S → List EventText → ℕ → ServeFault → ShareState S → List Output → List Output → Type 0
RunStopped authenticator start events place (NoMemory done) left before after = RunOutOfMemory authenticator start events place done left before after
RunStopped authenticator start events place BadConfig left before after = ⊥
RunStopped authenticator start events place fault left before after =
    record { state = left; outputs = after; stop = Some (record { place = place; fault = fault }) }
    ≡ run_behind before (run authenticator start events)
