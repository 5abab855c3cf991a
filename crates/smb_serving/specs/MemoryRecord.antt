-- For the proofs; nothing here need be believed.
-- How peers over memory hold their record: a list of calls, and all bytes that they took in one list.
use Rattle.std.specs.Prelude.{ℕ, ◌+◌, ◌-◌, min, ◌==◌, Bool, false, List, [], ◌∷◌, ◌++◌, length, take, drop, Option, None, Some, Result, Ok, Err, slice_get, unwrap_or, if◌then◌else◌}
use Rattle.std.specs.Option.{option_map_or}
use Rattle.smb_serving.specs.declared.memory_peers.PeerStep.{PeerStep}
use Rattle.smb_serving.specs.declared.memory_peers.PeerStep.TheVariants.{Opened, Bytes, Ended, Fails, Idle}
use Rattle.smb_serving.specs.declared.memory_peers.SendStep.{SendStep}
use Rattle.smb_serving.specs.declared.memory_peers.SendStep.TheVariants.{Takes, Fails as Refuses}
use Rattle.smb_peers.specs.declared.peers.PeerEvent.{PeerEvent}
use Rattle.smb_peers.specs.declared.peers.PeerEvent.TheVariants.{Opened as opened_event, Bytes as bytes_event, Ended as ended_event, Idle as idle_event}
use Rattle.smb_peers.specs.declared.peers.SendFault.{SendFault}
use Rattle.smb_serving.specs.declared.memory_record.Call.{Call}
use Rattle.smb_serving.specs.declared.memory_record.Call.TheVariants.{Next, Sent, Closed}
use Rattle.smb_peers.specs.Record.{PeerCall, send, close}
use Rattle.smb_peers.specs.Peers.{call_of, send_call}
use Rattle.smb_serving.specs.MemoryPeers.{MemoryPeersState}

-- the numbers that a step opens
abbrev pub step_opens : PeerStep → List ℕ
step_opens step = elim step as (λ s. List ℕ) [ Opened number ↦ number ∷ [] | _ ↦ [] ]

-- the step at a place of a script: behind the last one Idle
abbrev pub step_at : List PeerStep → ℕ → PeerStep
step_at script place = unwrap_or (slice_get script place) Idle

-- the event of a step: a read that fails is an end
abbrev pub step_event : PeerStep → PeerEvent
step_event (Opened k) = opened_event k
step_event (Bytes k piece) = bytes_event k
step_event (Ended k) = ended_event k
step_event (Fails k) = ended_event k
step_event Idle = idle_event

-- the piece that came last, behind a step
abbrev pub step_piece : PeerStep → List ℕ → List ℕ
step_piece (Opened k) before = before
step_piece (Bytes k piece) before = piece.items
step_piece (Ended k) before = before
step_piece (Fails k) before = before
step_piece Idle before = before

-- how many calls fail in a step
abbrev pub step_failures : PeerStep → ℕ
step_failures (Opened k) = 0
step_failures (Bytes k piece) = 0
step_failures (Ended k) = 0
step_failures (Fails k) = 1
step_failures Idle = 0

-- behind a step
abbrev pub behind_step : PeerStep → MemoryPeersState → MemoryPeersState
behind_step step p = record p {
  place = p.place + 1;
  piece = step_piece step p.piece;
  calls = p.calls ++ call_of (step_event step) (step_piece step p.piece) ∷ [];
  calls_left = p.calls_left - 1;
  failures = p.failures + step_failures step;
}

-- a call of `next` that brings a step
abbrev pub stepped : PeerStep → MemoryPeersState → PeerEvent × MemoryPeersState
stepped step p =
    let recorded : PeerEvent → MemoryPeersState → PeerEvent × MemoryPeersState = λ event after. (
      event,
      record after {
        place = p.place + 1;
        calls = p.calls ++ call_of event after.piece ∷ [];
        calls_left = p.calls_left - 1;
      },
    ) in
    elim step [
      | Opened number ↦ recorded (opened_event number) p
      | Bytes number piece ↦ recorded (bytes_event number) (record p { piece = piece.items })
      | Ended number ↦ recorded (ended_event number) p
      | Fails number ↦ recorded (ended_event number) (record p { failures = p.failures + 1 })
      | Idle ↦ recorded idle_event p
    ]

-- how many bytes a send takes where there is room for so many, None where it is refused: behind the last step all
abbrev pub send_count : Option SendStep → ℕ → Option ℕ
send_count step room = elim step as (λ s. Option ℕ) [
  | None ↦ Some room
  | Some (Takes most) ↦ Some (min most room)
  | Some Refuses ↦ None
]

-- how many of some bytes the next send takes
abbrev pub count_at : MemoryPeersState → List ℕ → Option ℕ
count_at p bytes = send_count (slice_get p.sends p.sent) (min (length bytes) p.bytes_left)

-- a send that takes so many bytes, or is refused
abbrev pub sent_so : ℕ → List ℕ → Option ℕ → MemoryPeersState → Result ℕ SendFault × MemoryPeersState
sent_so number bytes taken p =
    let recorded : Result ℕ SendFault → MemoryPeersState → Result ℕ SendFault × MemoryPeersState = λ answer after. (
      answer,
      record after {
        sent = p.sent + 1;
        calls = p.calls ++ send_call number bytes answer ∷ [];
        calls_left = p.calls_left - 1;
      },
    ) in
    option_map_or
    (λ count. recorded (Ok count) (record p { bytes_left = p.bytes_left - count }))
    taken
    (recorded (Err (record {})) (record p { failures = p.failures + 1 }))

-- the piece of the step at a place
abbrev pub piece_at : List PeerStep → Option ℕ → List ℕ
piece_at script None = []
piece_at script (Some place) = step_piece (step_at script place) []

-- the place of the piece that came last, behind a step at a place
abbrev pub piece_place : PeerStep → ℕ → Option ℕ → Option ℕ
piece_place (Opened k) place before = before
piece_place (Bytes k piece) place before = Some place
piece_place (Ended k) place before = before
piece_place (Fails k) place before = before
piece_place Idle place before = before

-- the call of `next` that brought a step
abbrev pub step_call : PeerStep → PeerCall
step_call step = call_of (step_event step) (step_piece step [])

-- how many bytes a call that is held took
abbrev pub count_in : Call → ℕ
count_in (Next place) = 0
count_in (Sent number offered None) = 0
count_in (Sent number offered (Some count)) = count
count_in (Closed number) = 0

-- how many bytes calls took
abbrev pub bytes_of : List Call → ℕ
bytes_of [] = 0
bytes_of (call ∷ calls) = count_in call + bytes_of calls

-- a call that is held, where its bytes are the first of a list
abbrev pub call_told : List PeerStep → Call → List ℕ → PeerCall
call_told script (Next place) bytes = step_call (step_at script place)
call_told script (Sent number offered None) bytes = send number offered None
call_told script (Sent number offered (Some count)) bytes = send number offered (Some (take count bytes))
call_told script (Closed number) bytes = close number

-- the calls that are held, where their bytes are in one list, one after the other
abbrev pub calls_told : List PeerStep → List Call → List ℕ → List PeerCall
calls_told script [] bytes = []
calls_told script (call ∷ calls) bytes = call_told script call bytes ∷ calls_told script calls (drop (count_in call) bytes)

-- whether a call that is held is a send to a number
abbrev pub is_sending : ℕ → Call → Bool
is_sending number (Next place) = false
is_sending number (Sent k offered count) = k == number
is_sending number (Closed k) = false

-- whether it is a close of a number
abbrev pub is_closing : ℕ → Call → Bool
is_closing number (Next place) = false
is_closing number (Sent k offered count) = false
is_closing number (Closed k) = k == number

-- the bytes that calls took for a number
abbrev pub taken_of : ℕ → List Call → List ℕ → List ℕ
taken_of number [] bytes = []
taken_of number (call ∷ calls) bytes = (if is_sending number call then take (count_in call) bytes else []) ++ taken_of number calls (drop (count_in call) bytes)
