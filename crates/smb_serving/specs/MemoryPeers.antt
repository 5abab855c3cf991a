-- Peers over memory: what each call on them answers, and what they are behind it.
use Rattle.std.specs.Prelude.{ℕ, ◌+◌, ◌-◌, min, ◌==◌, Bool, true, false, not, ◌&&◌, List, [], ◌∷◌, ◌++◌, length, flat_map, Option, None, Some, Result, Ok, Err, slice_get, unwrap_or, if◌then◌else◌}
use Rattle.std.specs.Option.{option_map_or}
use Rattle.std.specs.List.{list_any}
use Rattle.smb_serving.specs.declared.memory_peers.PeerStep.{PeerStep}
use Rattle.smb_serving.specs.declared.memory_peers.PeerStep.TheVariants.{Opened, Bytes, Ended, Fails, Idle}
use Rattle.smb_serving.specs.declared.memory_peers.SendStep.{SendStep}
use Rattle.smb_serving.specs.declared.memory_peers.SendStep.TheVariants.{Takes, Fails as Refuses}
use Rattle.smb_peers.specs.declared.peers.PeerEvent.{PeerEvent}
use Rattle.smb_peers.specs.declared.peers.PeerEvent.TheVariants.{Opened as opened_event, Bytes as bytes_event, Ended as ended_event, Idle as idle_event}
use Rattle.smb_peers.specs.declared.peers.SendFault.{SendFault}
use Rattle.smb_peers.specs.Record.{PeerCall, close}
use Rattle.smb_peers.specs.Peers.{call_of, send_call}

-- the numbers that steps open
abbrev pub opened_by : List PeerStep → List ℕ
opened_by steps = flat_map (λ step. elim step as (λ s. List ℕ) [ Opened number ↦ number ∷ [] | _ ↦ [] ]) steps

-- whether no number is in a list twice
abbrev pub are_distinct : List ℕ → Bool
are_distinct [] = true
are_distinct (k ∷ numbers) = not (list_any (λ j. k == j) numbers) && are_distinct numbers

-- peers over memory
pub record MemoryPeersState : Type 0 where
  -- the steps of `next`, how many calls of it there were, and the piece that came last
  pub script : List PeerStep
  pub place : ℕ
  pub piece : List ℕ
  -- the steps of the sends, and how many sends there were
  pub sends : List SendStep
  pub sent : ℕ
  -- the record, for how many calls more and how many bytes more there is room, and whether all calls are in it
  pub calls : List PeerCall
  pub calls_left : ℕ
  pub bytes_left : ℕ
  pub keeps : Bool
  -- how many calls failed
  pub failures : ℕ

-- peers with a script, the steps of their sends, and room for so many calls and so many bytes
abbrev pub new_peers : List PeerStep → List SendStep → ℕ → ℕ → MemoryPeersState
new_peers script sends calls room =
    record { script = script; place = 0; piece = []; sends = sends; sent = 0; calls = []; calls_left = calls; bytes_left = room; keeps = true; failures = 0 }

-- a call of `next`: what it answers, and the peers behind it. It brings the next step of the script, Idle behind the last
-- one; a read that fails is an end. Without room for the call the answer is Idle, and the call is not in the record
abbrev pub next_of : MemoryPeersState → PeerEvent × MemoryPeersState
next_of p =
    let recorded : PeerEvent → MemoryPeersState → PeerEvent × MemoryPeersState = λ event after. (
      event,
      record after {
        place = p.place + 1;
        calls = p.calls ++ call_of event after.piece ∷ [];
        calls_left = p.calls_left - 1;
      },
    ) in
    if p.calls_left == 0 then (idle_event, record p { keeps = false }) else
    elim (unwrap_or (slice_get p.script p.place) Idle) [
      | Opened number ↦ recorded (opened_event number) p
      | Bytes number piece ↦ recorded (bytes_event number) (record p { piece = piece.items })
      | Ended number ↦ recorded (ended_event number) p
      | Fails number ↦ recorded (ended_event number) (record p { failures = p.failures + 1 })
      | Idle ↦ recorded idle_event p
    ]

-- a send of some bytes to a number: what it answers, and the peers behind it. Its step says how many are taken at most, of
-- those for which there is room, or that it is refused; behind the last step all are. Without room for the call none is
-- taken, and the call is not in the record
abbrev pub send_of : ℕ → List ℕ → MemoryPeersState → Result ℕ SendFault × MemoryPeersState
send_of number bytes p =
    let recorded : Result ℕ SendFault → MemoryPeersState → Result ℕ SendFault × MemoryPeersState = λ answer after. (
      answer,
      record after {
        sent = p.sent + 1;
        calls = p.calls ++ send_call number bytes answer ∷ [];
        calls_left = p.calls_left - 1;
      },
    ) in
    let room = min (length bytes) p.bytes_left in
    let taken : Option ℕ = elim (slice_get p.sends p.sent) [
      | None ↦ Some room
      | Some (Takes most) ↦ Some (min most room)
      | Some Refuses ↦ None
    ] in
    if p.calls_left == 0 then (Ok 0, record p { keeps = false }) else
    option_map_or
    (λ count. recorded (Ok count) (record p { bytes_left = p.bytes_left - count }))
    taken
    (recorded (Err (record {})) (record p { failures = p.failures + 1 }))

-- the peers behind a close
abbrev pub behind_close : ℕ → MemoryPeersState → MemoryPeersState
behind_close number p =
    if p.calls_left == 0 then record p { keeps = false }
    else record p { calls = p.calls ++ close number ∷ []; calls_left = p.calls_left - 1 }
