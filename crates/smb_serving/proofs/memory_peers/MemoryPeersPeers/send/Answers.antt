use Rattle.std.proofs.Common.{◌≡◌, ◌≤◌, [], ◌∷◌, ◌++◌, length, take, Some, None, refl, sym, ap, ◌∙◌, arith}
use Rattle.std.proofs.lemmas.List.{length-append}
use Rattle.std.proofs.lemmas.List.{length-take-le}
use Rattle.smb_serving.specs.declared.memory_record.Call.TheVariants.{Sent}
use Rattle.smb_peers.specs.Record.{send}
use Rattle.smb_serving.proofs.HeldCalls.{bytes_same, bytes_more, one_told, some_told}
use Rattle.smb_serving.proofs.MemoryCalls.{told_here, count_here, sent_here, refused_here, answer_here}
use Rattle.smb_serving.proofs.memory_peers.MemoryPeersPeers.send.Goals as goal

pub invariant_of-self-in-Some : goal.invariant_of-self-in-Some
invariant_of-self-in-Some c =
    let h = c.self.invariant in
    let within : c.in-Some.count ≤ length c.args.bytes.now = omega (arith, c.in-Some.ensures.within) in
    let room : c.in-Some.count ≤ c.self.inside.bytes_left = omega (arith, c.in-Some.ensures.within) in
    let taken : length (take c.in-Some.count c.args.bytes.now) ≡ c.in-Some.count = length-take-le c.in-Some.count c.args.bytes.now within in
    let kept = c.keep_call.ensures.items ∙ ap (λ count. c.self.inside.calls.items ++ Sent c.args.number (length c.args.bytes.now) count ∷ []) c.in-Some.is in (
      h.0,
      bytes_more c.self.inside.calls.items c.keep_call.new.calls.items (Sent c.args.number (length c.args.bytes.now) (Some c.in-Some.count)) (length c.self.inside.bytes.items) (length (take c.in-Some.count c.args.bytes.now)) kept h.1 (sym taken)
          ∙ sym (ap length c.keep_bytes.ensures.items ∙ length-append c.self.inside.bytes.items (take c.in-Some.count c.args.bytes.now)),
      omega arith,
      omega arith,
      omega arith,
      omega arith,
      omega arith,
    )

pub invariant_of-self-in-None : goal.invariant_of-self-in-None
invariant_of-self-in-None c =
    let h = c.self.invariant in
    let kept = c.keep_call.ensures.items ∙ ap (λ count. c.self.inside.calls.items ++ Sent c.args.number (length c.args.bytes.now) count ∷ []) c.in-None.is in (
      h.0,
      bytes_same c.self.inside.calls.items c.keep_call.new.calls.items (Sent c.args.number (length c.args.bytes.now) None) (length c.self.inside.bytes.items) kept h.1 refl,
      omega arith,
      h.3,
      omega arith,
      omega arith,
      omega arith,
    )

pub returns-in-Some-clause-told : goal.returns-in-Some-clause-told
returns-in-Some-clause-told c =
    told_here (send c.args.number (length c.args.bytes.now) (Some (take c.in-Some.count c.args.bytes.now))) c.self.view_is
    (some_told c.self.inside.script.items c.self.inside.calls.items c.keep_call.new.calls.items c.args.number c.in-Some.count c.self.inside.bytes.items c.keep_bytes.new.taken.items c.args.bytes.now
    (c.keep_call.ensures.items ∙ ap (λ count. c.self.inside.calls.items ++ Sent c.args.number (length c.args.bytes.now) count ∷ []) c.in-Some.is) c.keep_bytes.ensures.items c.self.invariant.1)

pub returns-in-Some-clause-value : goal.returns-in-Some-clause-value
returns-in-Some-clause-value c =
    answer_here c.args.number c.args.bytes.now (Some c.in-Some.count) c.self.view_is c.if-self-eq0.false
    (count_here c.self.inside.sent c.in-Some.ensures.count c.deref.ensures.value c.min-room.ensures)

pub returns-in-Some-clause-after : goal.returns-in-Some-clause-after
returns-in-Some-clause-after c =
    sent_here c.args.number c.args.bytes.now c.in-Some.count c.self.view_is c.if-self-eq0.false
    (count_here c.self.inside.sent c.in-Some.ensures.count c.deref.ensures.value c.min-room.ensures)
    (some_told c.self.inside.script.items c.self.inside.calls.items c.keep_call.new.calls.items c.args.number c.in-Some.count c.self.inside.bytes.items c.keep_bytes.new.taken.items c.args.bytes.now
    (c.keep_call.ensures.items ∙ ap (λ count. c.self.inside.calls.items ++ Sent c.args.number (length c.args.bytes.now) count ∷ []) c.in-Some.is) c.keep_bytes.ensures.items c.self.invariant.1)

pub returns-in-None-clause-told : goal.returns-in-None-clause-told
returns-in-None-clause-told c =
    told_here (send c.args.number (length c.args.bytes.now) None) c.self.view_is
    (one_told c.self.inside.script.items c.self.inside.calls.items c.keep_call.new.calls.items (Sent c.args.number (length c.args.bytes.now) None) c.self.inside.bytes.items
    (c.keep_call.ensures.items ∙ ap (λ count. c.self.inside.calls.items ++ Sent c.args.number (length c.args.bytes.now) count ∷ []) c.in-None.is) c.self.invariant.1)

pub returns-in-None-clause-value : goal.returns-in-None-clause-value
returns-in-None-clause-value c =
    answer_here c.args.number c.args.bytes.now None c.self.view_is c.if-self-eq0.false
    (count_here c.self.inside.sent c.in-None.ensures.count c.deref.ensures.value c.min-room.ensures)

pub returns-in-None-clause-after : goal.returns-in-None-clause-after
returns-in-None-clause-after c =
    refused_here c.args.number c.args.bytes.now c.self.view_is c.if-self-eq0.false
    (count_here c.self.inside.sent c.in-None.ensures.count c.deref.ensures.value c.min-room.ensures)
    (one_told c.self.inside.script.items c.self.inside.calls.items c.keep_call.new.calls.items (Sent c.args.number (length c.args.bytes.now) None) c.self.inside.bytes.items
    (c.keep_call.ensures.items ∙ ap (λ count. c.self.inside.calls.items ++ Sent c.args.number (length c.args.bytes.now) count ∷ []) c.in-None.is) c.self.invariant.1)
