use Rattle.std.proofs.Common.{◌≡◌, ◌&&◌, inl, inr, ℕ, List, ◌+◌, ◌<◌, length, [], ◌∷◌, if◌then◌else◌, refl, sym, ap, subst, ◌∙◌, arith}
use Rattle.std.proofs.lemmas.List.{append_cancel_left}
use Rattle.smb_peers.specs.Record.{PeerCall}
use Rattle.smb_serving.specs.Serving.{Turns}
use Rattle.smb_serving.specs.ServingParts.{serving}
use Rattle.smb_serving.specs.ServingLaws.{OpensEachOnce}
use Rattle.smb_serving.specs.Openings.{TurnOf}
use Rattle.smb_serving.proofs.Resting.{none_tracked}
use Rattle.smb_serving.proofs.Once.{since_none, one_more, turn_by}
use Rattle.smb_serving.proofs.serving.serve_until_watched.Goals as goal
use Rattle.smb_serving.proofs.serving.serve_until_watched.Goals.{then-turn, else-turn}

pub returns-then-is_stopped-clause-served : goal.returns-then-is_stopped-clause-served
returns-then-is_stopped-clause-served g c =
    let e : (if c.turn.result then c.loop-turn.count + 1 else c.loop-turn.count) ≡ c.if-turn.count = elim c.if-turn.branch [
      | then-turn w ↦ ap (λ b. if b then c.loop-turn.count + 1 else c.loop-turn.count) w.if-turn.true ∙ sym w.count-is
      | else-turn w ↦ ap (λ b. if b then c.loop-turn.count + 1 else c.loop-turn.count) w.if-turn.false ∙ sym w.count-is
    ] in
    let before = serving c.args.share.now [] (g.P.Peers.calls c.args.peers.now) (g.C.Clock.moments c.args.clock.now) 0 in
    let middle = serving c.loop-turn.share c.loop-turn.served.peers.items (g.P.Peers.calls c.loop-turn.peers) (g.C.Clock.moments c.loop-turn.clock) c.loop-turn.count in
    let after = serving c.turn.new.share c.turn.new.served.peers.items (g.P.Peers.calls c.turn.new.peers) (g.C.Clock.moments c.turn.new.clock) c.if-turn.count in
    let P : PeerCall → ℕ → Type 0 = λ call n. TurnOf g.A.Authenticator.meaning call
    (serving c.loop-turn.share c.loop-turn.served.peers.items (g.P.Peers.calls c.loop-turn.peers) (g.C.Clock.moments c.loop-turn.clock) c.loop-turn.count)
    (serving c.turn.new.share c.turn.new.served.peers.items (g.P.Peers.calls c.turn.new.peers) (g.C.Clock.moments c.turn.new.clock) n) in
    let next = one_more g.A.Authenticator.meaning (g.P.Peers.keeps c.args.peers.now && g.C.Clock.keeps c.args.clock.now) (g.P.Peers.keeps c.loop-turn.peers && g.C.Clock.keeps c.loop-turn.clock) (g.P.Peers.keeps c.turn.new.peers && g.C.Clock.keeps c.turn.new.clock)
    c.loop-turn._turn before middle after (g.P.Peers.calls c.args.peers.now) (g.P.Peers.opened c.loop-turn.peers) (g.P.Peers.opened c.turn.new.peers) c.loop-turn.invariant.so_far
    (λ k. let t = c.turn.ensures.turned k in (t.0, (t.1.0, t.1.1, subst (P t.1.0) e (t.1.2 c.loop-turn.count)))) in
    λ k.
    let b = next k in
    (b.0, (c.loop-turn._turn + 1, omega (arith, c.loop-turn-test.true), λ few. sym c.is_stopped.ensures ∙ c.if-is_stopped.true, (c.turn.new.served.peers.items, b.1.0)))

pub returns-then-is_stopped-clause-stops : goal.returns-then-is_stopped-clause-stops
returns-then-is_stopped-clause-stops g c =
    let e : (if c.turn.result then c.loop-turn.count + 1 else c.loop-turn.count) ≡ c.if-turn.count = elim c.if-turn.branch [
      | then-turn w ↦ ap (λ b. if b then c.loop-turn.count + 1 else c.loop-turn.count) w.if-turn.true ∙ sym w.count-is
      | else-turn w ↦ ap (λ b. if b then c.loop-turn.count + 1 else c.loop-turn.count) w.if-turn.false ∙ sym w.count-is
    ] in
    let middle = serving c.loop-turn.share c.loop-turn.served.peers.items (g.P.Peers.calls c.loop-turn.peers) (g.C.Clock.moments c.loop-turn.clock) c.loop-turn.count in
    let after = serving c.turn.new.share c.turn.new.served.peers.items (g.P.Peers.calls c.turn.new.peers) (g.C.Clock.moments c.turn.new.clock) c.if-turn.count in
    let P : PeerCall → ℕ → Type 0 = λ call n. TurnOf g.A.Authenticator.meaning call
    (serving c.loop-turn.share c.loop-turn.served.peers.items (g.P.Peers.calls c.loop-turn.peers) (g.C.Clock.moments c.loop-turn.clock) c.loop-turn.count)
    (serving c.turn.new.share c.turn.new.served.peers.items (g.P.Peers.calls c.turn.new.peers) (g.C.Clock.moments c.turn.new.clock) n) in
    λ k.
    let t = c.turn.ensures.turned k in
    let b = c.loop-turn.invariant.unstopped t.0 in
    let few : length b.1.0 < c.args.turns = omega (arith, b.1.1, c.loop-turn-test.true) in
    let one = turn_by g.A.Authenticator.meaning middle after t.1.0 (subst (P t.1.0) e (t.1.2 c.loop-turn.count)) in
    (b.0, (c.turn.new.served.peers.items, (b.1.0, _, b.1.2, inr (few, one, sym c.is_stopped.ensures ∙ c.if-is_stopped.true))))

pub returns-then-is_stopped-clause-once : goal.returns-then-is_stopped-clause-once
returns-then-is_stopped-clause-once g c =
    let e : (if c.turn.result then c.loop-turn.count + 1 else c.loop-turn.count) ≡ c.if-turn.count = elim c.if-turn.branch [
      | then-turn w ↦ ap (λ b. if b then c.loop-turn.count + 1 else c.loop-turn.count) w.if-turn.true ∙ sym w.count-is
      | else-turn w ↦ ap (λ b. if b then c.loop-turn.count + 1 else c.loop-turn.count) w.if-turn.false ∙ sym w.count-is
    ] in
    let before = serving c.args.share.now [] (g.P.Peers.calls c.args.peers.now) (g.C.Clock.moments c.args.clock.now) 0 in
    let middle = serving c.loop-turn.share c.loop-turn.served.peers.items (g.P.Peers.calls c.loop-turn.peers) (g.C.Clock.moments c.loop-turn.clock) c.loop-turn.count in
    let after = serving c.turn.new.share c.turn.new.served.peers.items (g.P.Peers.calls c.turn.new.peers) (g.C.Clock.moments c.turn.new.clock) c.if-turn.count in
    let P : PeerCall → ℕ → Type 0 = λ call n. TurnOf g.A.Authenticator.meaning call
    (serving c.loop-turn.share c.loop-turn.served.peers.items (g.P.Peers.calls c.loop-turn.peers) (g.C.Clock.moments c.loop-turn.clock) c.loop-turn.count)
    (serving c.turn.new.share c.turn.new.served.peers.items (g.P.Peers.calls c.turn.new.peers) (g.C.Clock.moments c.turn.new.clock) n) in
    let next = one_more g.A.Authenticator.meaning (g.P.Peers.keeps c.args.peers.now && g.C.Clock.keeps c.args.clock.now) (g.P.Peers.keeps c.loop-turn.peers && g.C.Clock.keeps c.loop-turn.clock) (g.P.Peers.keeps c.turn.new.peers && g.C.Clock.keeps c.turn.new.clock)
    c.loop-turn._turn before middle after (g.P.Peers.calls c.args.peers.now) (g.P.Peers.opened c.loop-turn.peers) (g.P.Peers.opened c.turn.new.peers) c.loop-turn.invariant.so_far
    (λ k. let t = c.turn.ensures.turned k in (t.0, (t.1.0, t.1.1, subst (P t.1.0) e (t.1.2 c.loop-turn.count)))) in
    λ k.
    let b = next k in
    let o = b.1.1 in (
      b.0,
      λ more e.
          let P : List PeerCall → Type 0 = OpensEachOnce in
          subst P (append_cancel_left (g.P.Peers.calls c.args.peers.now) o.more more (sym o.behind ∙ e)) o.once,
    )

pub returns-clause-served : goal.returns-clause-served
returns-clause-served g c = λ k.
    let b = c.loop-turn.invariant.so_far k in
    let P : ℕ → Type 0 = λ i. Turns g.A.Authenticator.meaning i (serving c.args.share.now [] (g.P.Peers.calls c.args.peers.now) (g.C.Clock.moments c.args.clock.now) 0)
    (serving c.loop-turn.share c.loop-turn.served.peers.items (g.P.Peers.calls c.loop-turn.peers) (g.C.Clock.moments c.loop-turn.clock) c.loop-turn.count) in
    let e : c.loop-turn._turn ≡ c.args.turns = omega arith in
    (b.0, (c.args.turns, omega arith, λ few. absurd (omega (arith, few)), (c.loop-turn.served.peers.items, subst P e b.1.0)))

pub returns-clause-stops : goal.returns-clause-stops
returns-clause-stops g c = λ k.
    let b = c.loop-turn.invariant.unstopped k in
    let e : c.loop-turn._turn ≡ c.args.turns = omega arith in
    (b.0, (c.loop-turn.served.peers.items, (b.1.0, _, b.1.2, inl (b.1.1 ∙ e, refl))))

pub returns-clause-once : goal.returns-clause-once
returns-clause-once g c = λ k.
    let b = c.loop-turn.invariant.so_far k in
    let o = b.1.1 in (
      b.0,
      λ more e.
          let P : List PeerCall → Type 0 = OpensEachOnce in
          subst P (append_cancel_left (g.P.Peers.calls c.args.peers.now) o.more more (sym o.behind ∙ e)) o.once,
    )

pub loop-turn-init : goal.loop-turn-init
loop-turn-init g c = record { few = omega arith; tracked = none_tracked c.args.share.now c.new-served.result c.new-served.ensures.peers c.new-served.ensures.restless; so_far = λ k. (k, (ap (λ peers. serving c.args.share.now peers (g.P.Peers.calls c.args.peers.now) (g.C.Clock.moments c.args.clock.now) 0) c.new-served.ensures.peers, since_none (g.P.Peers.calls c.args.peers.now) (g.P.Peers.opened c.args.peers.now))); unstopped = λ k. (k, ([], refl, ap (λ peers. serving c.args.share.now peers (g.P.Peers.calls c.args.peers.now) (g.C.Clock.moments c.args.clock.now) 0) c.new-served.ensures.peers)) }

pub loop-turn-preserved : goal.loop-turn-preserved
loop-turn-preserved g c =
    let e : (if c.turn.result then c.loop-turn.count + 1 else c.loop-turn.count) ≡ c.if-turn.count = elim c.if-turn.branch [
      | then-turn w ↦ ap (λ b. if b then c.loop-turn.count + 1 else c.loop-turn.count) w.if-turn.true ∙ sym w.count-is
      | else-turn w ↦ ap (λ b. if b then c.loop-turn.count + 1 else c.loop-turn.count) w.if-turn.false ∙ sym w.count-is
    ] in
    let before = serving c.args.share.now [] (g.P.Peers.calls c.args.peers.now) (g.C.Clock.moments c.args.clock.now) 0 in
    let middle = serving c.loop-turn.share c.loop-turn.served.peers.items (g.P.Peers.calls c.loop-turn.peers) (g.C.Clock.moments c.loop-turn.clock) c.loop-turn.count in
    let after = serving c.turn.new.share c.turn.new.served.peers.items (g.P.Peers.calls c.turn.new.peers) (g.C.Clock.moments c.turn.new.clock) c.if-turn.count in
    let P : PeerCall → ℕ → Type 0 = λ call n. TurnOf g.A.Authenticator.meaning call
    (serving c.loop-turn.share c.loop-turn.served.peers.items (g.P.Peers.calls c.loop-turn.peers) (g.C.Clock.moments c.loop-turn.clock) c.loop-turn.count)
    (serving c.turn.new.share c.turn.new.served.peers.items (g.P.Peers.calls c.turn.new.peers) (g.C.Clock.moments c.turn.new.clock) n) in
    let next = one_more g.A.Authenticator.meaning (g.P.Peers.keeps c.args.peers.now && g.C.Clock.keeps c.args.clock.now) (g.P.Peers.keeps c.loop-turn.peers && g.C.Clock.keeps c.loop-turn.clock) (g.P.Peers.keeps c.turn.new.peers && g.C.Clock.keeps c.turn.new.clock)
    c.loop-turn._turn before middle after (g.P.Peers.calls c.args.peers.now) (g.P.Peers.opened c.loop-turn.peers) (g.P.Peers.opened c.turn.new.peers) c.loop-turn.invariant.so_far
    (λ k. let t = c.turn.ensures.turned k in (t.0, (t.1.0, t.1.1, subst (P t.1.0) e (t.1.2 c.loop-turn.count)))) in
    record {
      few = elim c.if-turn.branch [ then-turn w ↦ omega arith | else-turn w ↦ omega arith ];
      tracked = c.turn.ensures.tracked;
      so_far = next;
      unstopped = λ k.
          let t = c.turn.ensures.turned k in
          let b = c.loop-turn.invariant.unstopped t.0 in
          let one = turn_by g.A.Authenticator.meaning middle after t.1.0 (subst (P t.1.0) e (t.1.2 c.loop-turn.count)) in
          let count : length (c.turn.new.peers ∷ b.1.0) ≡ c.loop-turn._turn + 1 = omega (arith, b.1.1) in
          (b.0, (c.turn.new.peers ∷ b.1.0, count, (middle, b.1.2, one, refl, sym c.is_stopped.ensures ∙ c.if-is_stopped.false)));
    }
