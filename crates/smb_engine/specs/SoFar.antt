-- For the proofs; nothing here need be believed.
-- The payloads of some bytes of a stream, performed up to a place.
use Rattle.std.specs.Prelude.{◌≡◌, ℕ, ◌+◌, ◌≤◌, Bool, false, IsTrue, List, length, None}
use Rattle.smb_wire.specs.Limits.{longest_payload}
use Rattle.smb_frame.specs.Reading.{first, payloads, rest}
use Rattle.smb_session.specs.Authenticator.{Meaning}
use Rattle.smb_request.specs.State.{ServerState}
use Rattle.smb_engine.specs.declared.arrival.Arrival.{Arrival}
use Rattle.smb_engine.specs.declared.connection.Connection.{Connection}
use Rattle.smb_engine.specs.Sink.{Heard}
use Rattle.smb_engine.specs.Output.{Output, AreShort}
use Rattle.smb_engine.specs.Run.{payload_steps}
use Rattle.smb_engine.specs.Parts.{server_after}
use Rattle.smb_engine.specs.Held.{StoppedAfter}
use Rattle.smb_engine.specs.InPlace.{step_behind}

-- what is left to do of some held bytes, behind what was done, is what there was to do at first
pub record StepsSoFar {S : Type 0} (m : Meaning S) (hears : Output → List Heard) (arrival : Arrival)
    (server₀ : ServerState S) (connection₀ : Connection) (heard₀ : List Heard) (held₀ : List ℕ)
    (server : ServerState S) (connection : Connection) (heard : List Heard) (held : List ℕ) (done : ℕ) : Type 0 where
  pub says : step_behind hears heard (payload_steps m arrival server connection (payloads longest_payload held))
      ≡ step_behind hears heard₀ (payload_steps m arrival server₀ connection₀ (payloads longest_payload held₀))
  pub left : rest longest_payload held ≡ rest longest_payload held₀
  pub stops : (k : ℕ) → server_after server (payload_steps m arrival server connection (payloads longest_payload held)).requests k
      ≡ server_after server₀ (payload_steps m arrival server₀ connection₀ (payloads longest_payload held₀)).requests (done + k)
  pub count : done + length held ≤ length held₀
  pub number_of : done + length (payload_steps m arrival server connection (payloads longest_payload held)).requests
      ≡ length (payload_steps m arrival server₀ connection₀ (payloads longest_payload held₀)).requests
  pub short : AreShort (payload_steps m arrival server connection (payloads longest_payload held)).outputs
      → AreShort (payload_steps m arrival server₀ connection₀ (payloads longest_payload held₀)).outputs

-- the payloads of some held bytes were performed, up to one that ended the connection
pub record StepsOver {S : Type 0} (m : Meaning S) (hears : Output → List Heard) (arrival : Arrival)
    (server₀ : ServerState S) (connection₀ : Connection) (heard₀ : List Heard) (held₀ : List ℕ)
    (server : ServerState S) (connection : Connection) (heard : List Heard) : Type 0 where
  pub says : record { server = server; connection = connection; stays_open = false; out = heard }
      ≡ step_behind hears heard₀ (payload_steps m arrival server₀ connection₀ (payloads longest_payload held₀))
  pub short : AreShort (payload_steps m arrival server₀ connection₀ (payloads longest_payload held₀)).outputs

-- the payloads of some held bytes were performed: all of them, and less than a whole frame is held, or up to one that
-- ended the connection; and so many requests, as far as a state says
pub record AreTaken {S : Type 0} (m : Meaning S) (hears : Output → List Heard) (arrival : Arrival)
    (server₀ : ServerState S) (connection₀ : Connection) (heard₀ : List Heard) (held₀ : List ℕ)
    (server : ServerState S) (connection : Connection) (heard : List Heard) (held : List ℕ) (stays_open : Bool) (done : ℕ) : Type 0 where
  pub all : IsTrue stays_open → StepsSoFar m hears arrival server₀ connection₀ heard₀ held₀ server connection heard held done
  pub partial : IsTrue stays_open → first longest_payload held ≡ None
  pub over : stays_open ≡ false → StepsOver m hears arrival server₀ connection₀ heard₀ held₀ server connection heard
  pub stopped : StoppedAfter server₀ (payload_steps m arrival server₀ connection₀ (payloads longest_payload held₀)) done server
  pub few : done ≤ length held₀
