-- For the proofs; nothing here need be believed.
-- What the code holds of the definitions' values.
use Rattle.std.specs.Prelude.{◌≡◌, ℕ, ◌++◌, ◌≤◌, ◌<◌, Bool, false, Option, None, Some, List, [], ◌∷◌, length, map, IsTrue}
use Rattle.std.specs.Option.{option_map_or}
use Rattle.smb_peers.specs.declared.observer.Acting.{Acting}
use Rattle.smb_peers.specs.Observed.{Observed, performed}
use Rattle.smb_request.specs.declared.response.Answered.{Answered}
use Rattle.smb_engine.specs.Observed.{response_observed}
use Rattle.std.specs.List.{AllByRecursion}
use Rattle.smb_wire.specs.Limits.{longest_payload}
use Rattle.smb_frame.specs.Reading.{first, fault_of, rest}
use Rattle.smb_session.specs.Window.{GoodWindow}
use Rattle.smb_request.specs.State.{ServerState}
use Rattle.smb_engine.specs.State.{StreamState, new_stream}
use Rattle.smb_engine.specs.Run.{Step}
use Rattle.smb_engine.specs.Parts.{server_after}

-- what is held between calls: less than a whole frame, nothing wrong with it, and a good window; and a connection of which
-- no payload came is a new one
pub record Waits (stream : StreamState) : Type 0 where
  pub partial : first longest_payload stream.received ≡ None
  pub sound : fault_of longest_payload stream.received ≡ None
  pub window : GoodWindow stream.connection.window
  pub fresh : stream.connection.payload_came ≡ false → stream.connection ≡ new_stream.connection

abbrev pub AllWait : List (ℕ × StreamState) → Type 0
AllWait = AllByRecursion (λ entry. Waits entry.1)

-- what is held of all connections between calls: each waits, no more are open than may be, each has a number that was
-- given, from 1 on, and these connections may have sessions
pub record AreKept (connections : List ℕ) (streams : List (ℕ × StreamState)) (next most : ℕ) : Type 0 where
  pub waits : AllWait streams
  pub few : length streams ≤ most
  pub given : AllByRecursion (λ entry. entry.0 < next) streams
  pub from_one : (0 < next) × AllByRecursion (λ entry. 0 < entry.0) streams
  pub known : connections ≡ map (λ entry. entry.0) streams

-- what the code leaves of a piece behind the bytes received before: the connection with its unread bytes alone, where it is still open
pub record IsPieceHeld {S : Type 0} (received piece : List ℕ) (step : Step S) (server : ServerState S) (stream : StreamState) (stays_open : Bool) : Type 0 where
  pub same : server ≡ step.server
  pub fate : stays_open ≡ step.stays_open
  pub rests : IsTrue stays_open → stream ≡ record { received = rest longest_payload (received ++ piece); connection = step.connection }
  pub waits : IsTrue stays_open → Waits stream

-- of a request that acts on this: that it was performed, and how it was responded to and with how many credits, where it was
abbrev pub report_observed : ℕ → List ℕ → Acting → Option (Answered × ℕ) → List Observed
report_observed connection request acting answered =
    performed connection request acting
    ∷ option_map_or
    (λ answer. response_observed connection request answer.1
    (Some (record { status = answer.0.status; refusal = answer.0.refusal; ids = answer.0.ids; body = [] })))
    answered []

-- the first `done` requests of a step were performed, and then memory ran out, or the step ended
pub record StoppedAfter {S : Type 0} (server : ServerState S) (step : Step S) (done : ℕ) (left : ServerState S) : Type 0 where
  pub within : done ≤ length step.requests
  pub state : left ≡ server_after server step.requests done
