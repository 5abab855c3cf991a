use Rattle.std.proofs.Common.{◌≡◌, List, [], ◌∷◌, ◌++◌, length, refl, ap, ◌∙◌, arith}
use Rattle.smb_serving.specs.declared.memory_peers.PeerStep.{PeerStep}
use Rattle.smb_serving.specs.declared.memory_record.Call.TheVariants.{Next}
use Rattle.smb_peers.specs.Record.{PeerCall}
use Rattle.smb_peers.specs.Peers.{call_of}
use Rattle.smb_serving.specs.MemoryRecord.{step_at, step_event, step_piece, step_failures, piece_at, piece_place, step_call, calls_told}
use Rattle.smb_serving.proofs.HeldCalls.{bytes_same, one_told}
use Rattle.smb_serving.proofs.Scripts.{piece_more}
use Rattle.smb_serving.proofs.MemoryCalls.{told_here, step_told, opens_here, stepped_here, brought_here}
use Rattle.smb_serving.proofs.memory_peers.MemoryPeersPeers.next.Goals as goal
use Rattle.smb_serving.proofs.memory_peers.MemoryPeersPeers.next.Goals.{After-event_at}

-- the step
abbrev step_of : After-event_at → PeerStep
step_of c = step_at c.self.inside.script.items c.self.inside.place

calls_here : (c : After-event_at) → calls_told c.self.inside.script.items c.keep_call.new.calls.items c.self.inside.bytes.items ≡ calls_told c.self.inside.script.items c.self.inside.calls.items c.self.inside.bytes.items ++ step_call (step_of c) ∷ []
calls_here c = one_told c.self.inside.script.items c.self.inside.calls.items c.keep_call.new.calls.items (Next c.self.inside.place) c.self.inside.bytes.items c.keep_call.ensures.items c.self.invariant.1

piece_here : (c : After-event_at) → piece_at c.self.inside.script.items c.piece_behind-self-inside.result ≡ step_piece (step_of c) (piece_at c.self.inside.script.items c.self.inside.piece)
piece_here c =
    ap (λ place. piece_at c.self.inside.script.items place) (c.piece_behind-self-inside.ensures ∙ ap (λ (steps : List PeerStep). piece_place (step_at steps c.self.inside.place) c.self.inside.place c.self.inside.piece) c.deref.ensures.value)
    ∙ piece_more c.self.inside.script.items c.self.inside.place c.self.inside.piece (step_of c) refl

event_here : (c : After-event_at) → c.event_at.result ≡ step_event (step_of c)
event_here c = c.event_at.ensures ∙ ap (λ (steps : List PeerStep). step_event (step_at steps c.self.inside.place)) c.deref-3.ensures.value

pub invariant_of-self-2 : goal.invariant_of-self-2
invariant_of-self-2 c =
    let h = c.self.invariant in (
      h.0,
      bytes_same c.self.inside.calls.items c.keep_call.new.calls.items (Next c.self.inside.place) (length c.self.inside.bytes.items) c.keep_call.ensures.items h.1 refl,
      omega arith,
      h.3,
      omega arith,
      omega arith,
      omega arith,
    )

pub returns-clause-told : goal.returns-clause-told
returns-clause-told c =
    told_here (call_of c.event_at.result (piece_at c.self.inside.script.items c.piece_behind-self-inside.result)) c.self.view_is
    (calls_here c ∙ ap (λ (call : PeerCall). calls_told c.self.inside.script.items c.self.inside.calls.items c.self.inside.bytes.items ++ call ∷ []) (step_told (step_of c) (piece_at c.self.inside.script.items c.self.inside.piece) (event_here c) (piece_here c)))

pub returns-clause-once : goal.returns-clause-once
returns-clause-once c = opens_here c.self.view_is (event_here c) c.self.invariant.0

pub returns-clause-value : goal.returns-clause-value
returns-clause-value c = brought_here c.self.view_is c.if-self-eq0.false (event_here c)

pub returns-clause-after : goal.returns-clause-after
returns-clause-after c =
    stepped_here c.self.view_is c.if-self-eq0.false (calls_here c) (piece_here c)
    (c.failures_at.ensures.count ∙ ap (λ (steps : List PeerStep). step_failures (step_at steps c.self.inside.place)) c.deref-2.ensures.value)
