-- The state of peers over memory behind a call for which there is room.
use Rattle.std.proofs.Common.{◌≡◌, ℕ, ◌+◌, ◌-◌, ◌==◌, true, false, List, [], ◌∷◌, ◌++◌, length, take, Option, None, Some, Ok, if◌then◌else◌, refl, sym, ap, subst, ◌∙◌, arith}
use Rattle.std.specs.Prelude.{slice_get, Result}
use Rattle.std.proofs.lemmas.Bool.{cond-false, ne_eqb}
use Rattle.smb_serving.specs.declared.memory_peers.PeerStep.{PeerStep}
use Rattle.smb_serving.specs.declared.memory_peers.SendStep.{SendStep}
use Rattle.smb_peers.specs.declared.peers.PeerEvent.{PeerEvent}
use Rattle.smb_peers.specs.declared.peers.SendFault.{SendFault}
use Rattle.smb_peers.specs.Record.{PeerCall, send, close, Keeping}
use Rattle.smb_peers.specs.Peers.{call_of, OpensOnce}
use Rattle.smb_peers.specs.declared.peers.PeerEvent.TheVariants.{Idle as idle_event}
use Rattle.smb_serving.specs.declared.memory_peers.PeerStep.TheVariants.{Opened, Bytes, Ended, Fails, Idle}
use Rattle.smb_serving.specs.MemoryPeers.{MemoryPeersState, opened_by, are_distinct, next_of, send_of, behind_close}
use Rattle.smb_serving.specs.MemoryRecord.{step_event, step_piece, step_failures, step_at, behind_step, stepped, send_count, count_at, sent_so, step_call}
use Rattle.smb_serving.proofs.Scripts.{opens_once, step_call_is}

-- where there is room for a call
pub with_room : {A : Type 0} (n : ℕ) (a b : A) → (n ≡ 0 → ⊥) → (if n == 0 then a else b) ≡ b
with_room n a b h = cond-false (n == 0) a b (ne_eqb n 0 h)

-- a call is told, by peers as they are held
pub told_here : {p old : MemoryPeersState} {calls' : List PeerCall} (call : PeerCall) → p ≡ old → calls' ≡ p.calls ++ call ∷ [] → Keeping old.keeps p.keeps (calls' ≡ old.calls ++ call ∷ [])
told_here call same told = λ k. (sym (ap (λ (s : MemoryPeersState). s.keeps) same) ∙ k, told ∙ ap (λ (s : MemoryPeersState). s.calls ++ call ∷ []) same)

-- peers that do not record a call
abbrev unrecorded : MemoryPeersState → MemoryPeersState
unrecorded p = record p { keeps = false }

plus_none : (n : ℕ) → n + 0 ≡ n
plus_none n = omega arith

-- a call of `next` that brings a step, in parts
stepped_is : (step : PeerStep) (p : MemoryPeersState) → stepped step p ≡ (step_event step, behind_step step p)
stepped_is (Opened k) p = rw (plus_none p.failures) refl
stepped_is (Bytes k piece) p = rw (plus_none p.failures) refl
stepped_is (Ended k) p = rw (plus_none p.failures) refl
stepped_is (Fails k) p = refl
stepped_is Idle p = rw (plus_none p.failures) refl

-- a call of `next` for which there is room
next_here : (p : MemoryPeersState) → (p.calls_left ≡ 0 → ⊥) → (step_event (step_at p.script p.place), behind_step (step_at p.script p.place) p) ≡ next_of p
next_here p room =
    sym (stepped_is (step_at p.script p.place) p)
    ∙ sym (with_room {A = PeerEvent × MemoryPeersState} p.calls_left (idle_event, unrecorded p) (stepped (step_at p.script p.place) p) room)

-- what it answers
pub brought_here : {p old : MemoryPeersState} {event : PeerEvent} → p ≡ old → (p.calls_left ≡ 0 → ⊥) → event ≡ step_event (step_at p.script p.place) → event ≡ (next_of old).0
brought_here {p} same room is = is ∙ ap (λ t. t.0) (next_here p room) ∙ ap (λ (s : MemoryPeersState). (next_of s).0) same

-- behind a close
pub closed_here : {p old : MemoryPeersState} {calls' : List PeerCall} (number : ℕ) → p ≡ old → (p.calls_left ≡ 0 → ⊥) → calls' ≡ p.calls ++ close number ∷ [] →
    record p { calls = calls'; calls_left = p.calls_left - 1 } ≡ behind_close number old
closed_here {p} number same room told =
    ap (λ (cs : List PeerCall). record p { calls = cs; calls_left = p.calls_left - 1 }) told
    ∙ sym (with_room p.calls_left (unrecorded p) (record p { calls = p.calls ++ close number ∷ []; calls_left = p.calls_left - 1 }) room)
    ∙ ap (behind_close number) same

-- behind a step
pub stepped_here : {p old : MemoryPeersState} {calls' : List PeerCall} {piece' : List ℕ} {n : ℕ} → p ≡ old → (p.calls_left ≡ 0 → ⊥) →
    calls' ≡ p.calls ++ step_call (step_at p.script p.place) ∷ [] → piece' ≡ step_piece (step_at p.script p.place) p.piece → n ≡ step_failures (step_at p.script p.place) →
    record p { place = p.place + 1; piece = piece'; calls = calls'; calls_left = p.calls_left - 1; failures = p.failures + n } ≡ (next_of old).1
stepped_here {p} {old} {calls'} {piece'} {n} same room told piece fails =
    ap (λ (cs : List PeerCall). record p { place = p.place + 1; piece = piece'; calls = cs; calls_left = p.calls_left - 1; failures = p.failures + n })
    (told ∙ ap (λ (call : PeerCall). p.calls ++ call ∷ []) (step_call_is (step_at p.script p.place) p.piece))
    ∙ ap (λ (bs : List ℕ). record p { place = p.place + 1; piece = bs; calls = p.calls ++ call_of (step_event (step_at p.script p.place)) (step_piece (step_at p.script p.place) p.piece) ∷ []; calls_left = p.calls_left - 1; failures = p.failures + n }) piece
    ∙ ap (λ (i : ℕ). record p { place = p.place + 1; piece = step_piece (step_at p.script p.place) p.piece; calls = p.calls ++ call_of (step_event (step_at p.script p.place)) (step_piece (step_at p.script p.place) p.piece) ∷ []; calls_left = p.calls_left - 1; failures = p.failures + i }) fails
    ∙ ap (λ t. t.1) (next_here p room)
    ∙ ap (λ (s : MemoryPeersState). (next_of s).1) same

-- the call of a step, as its event and the piece behind it tell it
pub step_told : (step : PeerStep) (before : List ℕ) {event : PeerEvent} {piece' : List ℕ} → event ≡ step_event step → piece' ≡ step_piece step before → step_call step ≡ call_of event piece'
step_told step before {event} {piece'} e f =
    step_call_is step before ∙ ap (λ (bs : List ℕ). call_of (step_event step) bs) (sym f) ∙ ap (λ v. call_of v piece') (sym e)

-- what a step opens, by peers as they are held
pub opens_here : {p old : MemoryPeersState} {event : PeerEvent} → p ≡ old → event ≡ step_event (step_at p.script p.place) → are_distinct (opened_by p.script) ≡ true →
    OpensOnce event (opened_by (take old.place old.script)) (opened_by (take (p.place + 1) p.script))
opens_here {p} {old} {event} same e d =
    let P : MemoryPeersState → Type 0 = λ s. OpensOnce event (opened_by (take s.place s.script)) (opened_by (take (p.place + 1) p.script)) in
    let Q : PeerEvent → Type 0 = λ v. OpensOnce v (opened_by (take p.place p.script)) (opened_by (take (p.place + 1) p.script)) in
    subst P same (subst Q (sym e) (opens_once p.script p.place d))

-- how many bytes a send takes, as the code asks for it
pub count_here : {o : Option ℕ} {steps steps' : List SendStep} {room room' : ℕ} (sent : ℕ) → o ≡ send_count (slice_get steps sent) room → steps ≡ steps' → room ≡ room' → o ≡ send_count (slice_get steps' sent) room'
count_here {o} {steps} {steps'} {room} {room'} sent e f g =
    e ∙ ap (λ (ss : List SendStep). send_count (slice_get ss sent) room) f ∙ ap (λ n. send_count (slice_get steps' sent) n) g

-- a send for which there is room
send_here : (p : MemoryPeersState) (number : ℕ) (bytes : List ℕ) → (p.calls_left ≡ 0 → ⊥) → sent_so number bytes (count_at p bytes) p ≡ send_of number bytes p
send_here p number bytes room = sym (with_room {A = Result ℕ SendFault × MemoryPeersState} p.calls_left (Ok 0, unrecorded p) (sent_so number bytes (count_at p bytes) p) room)

-- behind a send that takes so many bytes
pub sent_here : {p old : MemoryPeersState} {calls' : List PeerCall} (number : ℕ) (bytes : List ℕ) (count : ℕ) → p ≡ old → (p.calls_left ≡ 0 → ⊥) → Some count ≡ count_at p bytes →
    calls' ≡ p.calls ++ send number (length bytes) (Some (take count bytes)) ∷ [] →
    record p { sent = p.sent + 1; calls = calls'; calls_left = p.calls_left - 1; bytes_left = p.bytes_left - count } ≡ (send_of number bytes old).1
sent_here {p} number bytes count same room e told =
    ap (λ (cs : List PeerCall). record p { sent = p.sent + 1; calls = cs; calls_left = p.calls_left - 1; bytes_left = p.bytes_left - count }) told
    ∙ ap (λ (o : Option ℕ). (sent_so number bytes o p).1) e
    ∙ ap (λ t. t.1) (send_here p number bytes room)
    ∙ ap (λ (s : MemoryPeersState). (send_of number bytes s).1) same

-- behind a send that is refused
pub refused_here : {p old : MemoryPeersState} {calls' : List PeerCall} (number : ℕ) (bytes : List ℕ) → p ≡ old → (p.calls_left ≡ 0 → ⊥) → None ≡ count_at p bytes →
    calls' ≡ p.calls ++ send number (length bytes) None ∷ [] →
    record p { sent = p.sent + 1; calls = calls'; calls_left = p.calls_left - 1; failures = p.failures + 1 } ≡ (send_of number bytes old).1
refused_here {p} number bytes same room e told =
    ap (λ (cs : List PeerCall). record p { sent = p.sent + 1; calls = cs; calls_left = p.calls_left - 1; failures = p.failures + 1 }) told
    ∙ ap (λ (o : Option ℕ). (sent_so number bytes o p).1) e
    ∙ ap (λ t. t.1) (send_here p number bytes room)
    ∙ ap (λ (s : MemoryPeersState). (send_of number bytes s).1) same

-- what a send answers
pub answer_here : {p old : MemoryPeersState} (number : ℕ) (bytes : List ℕ) (count : Option ℕ) → p ≡ old → (p.calls_left ≡ 0 → ⊥) → count ≡ count_at p bytes →
    (sent_so number bytes count p).0 ≡ (send_of number bytes old).0
answer_here {p} number bytes count same room e =
    ap (λ (o : Option ℕ). (sent_so number bytes o p).0) e
    ∙ ap (λ t. t.0) (send_here p number bytes room)
    ∙ ap (λ (s : MemoryPeersState). (send_of number bytes s).0) same
