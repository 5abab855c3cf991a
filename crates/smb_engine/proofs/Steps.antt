-- The payloads of a piece, one payload further.
use Rattle.std.proofs.Common.{◌≡◌, ℕ, ◌+◌, ◌≤◌, Bool, true, false, List, ◌++◌, length, take, Option, None, Some, refl, sym, ap, ◌∙◌, append_assoc, arith, length-drop, length-append}
use Rattle.std.specs.List.{flat_map}
use Rattle.std.proofs.lemmas.List.{append-nil, take-take, length-take}
use Rattle.std.proofs.lemmas.Grind.{flat_map-append}
use Rattle.std.proofs.Math.Seq.{take-append_seam}
use Rattle.smb_wire.specs.Limits.{longest_payload}
use Rattle.smb_frame.specs.Reading.{first, payloads, rest}
use Rattle.smb_frame.specs.Parts.{after}
use Rattle.smb_frame.proofs.Frames.{first_is}
use Rattle.smb_frame.proofs.Streams.{payloads-none, payloads-some, rest-none, rest-some}
use Rattle.smb_engine.specs.declared.arrival.Arrival.{Arrival}
use Rattle.smb_engine.specs.declared.connection.Connection.{Connection}
use Rattle.smb_session.specs.Authenticator.{Meaning}
use Rattle.smb_request.specs.State.{ServerState}
use Rattle.smb_engine.specs.Output.{AreShort, Output, output_bytes, reply_frame}
use Rattle.smb_engine.specs.Sink.{Heard}
use Rattle.smb_engine.specs.Run.{Step, payload_step, payload_steps}
use Rattle.smb_engine.specs.Parts.{and_then, after_step, server_after}
use Rattle.smb_engine.specs.InPlace.{StepPlaced, step_behind}
use Rattle.smb_engine.specs.SoFar.{StepsSoFar}
use Rattle.smb_engine.proofs.Chains.{payload_whole, after-past, after-front}
use Rattle.smb_engine.proofs.Short.{both_short}

-- a step's requests, with those of the others behind it
module _ {S : Type 0} (server : ServerState S) (others : ServerState S → Connection → Step S) (step : Step S) where
  pub and_then-open : step.stays_open ≡ true → and_then others step ≡ after_step step (others step.server step.connection)
  and_then-open t = rw t refl

  pub and_then-over : step.stays_open ≡ false → and_then others step ≡ step
  and_then-over t = rw t refl

  in_at : (b : Bool) (k : ℕ) → step.stays_open ≡ b → k ≤ length step.requests → server_after server step.requests k ≡ server_after server (and_then others step).requests k
  in_at true k t h = rw t (sym (after-front server step.requests (others step.server step.connection).requests k h))
  in_at false k t h = rw t refl

  within_at : (b : Bool) → step.stays_open ≡ b → length step.requests ≤ length (and_then others step).requests
  within_at true t = rw t (omega (arith, length-append step.requests (others step.server step.connection).requests))
  within_at false t = rw t (omega arith)

  -- the server after k of the step's requests, and their number
  pub and_then-in : (k : ℕ) → k ≤ length step.requests → server_after server step.requests k ≡ server_after server (and_then others step).requests k
  and_then-in k h = in_at step.stays_open k refl h

  pub and_then-within : length step.requests ≤ length (and_then others step).requests
  and_then-within = within_at step.stays_open refl

module _ {S : Type 0} (m : Meaning S) (hears : Output → List Heard) (arrival : Arrival) where
  abbrev all : ServerState S → Connection → List ℕ → Step S
  all server connection held = payload_steps m arrival server connection (payloads longest_payload held)

  abbrev one : ServerState S → Connection → List ℕ → Step S
  one server connection payload = payload_step m arrival server connection payload

  pub steps_none : (server : ServerState S) (connection : Connection) (heard : List Heard) (held : List ℕ) → StepsSoFar m hears arrival server connection heard held server connection heard held 0
  steps_none server connection heard held = record {
    says = refl;
    left = refl;
    stops = λ k. let e : 0 + k ≡ k = omega arith in rw e refl;
    count = omega arith;
    number_of = omega arith;
    short = λ later. later;
  }

  behind-more : (a : List Heard) (step next : Step S) → step_behind hears a (after_step step next) ≡ step_behind hears (a ++ flat_map hears step.outputs) next
  behind-more a step next =
      let P : List Heard → StepPlaced S Heard = λ t. record { server = next.server; connection = next.connection; stays_open = next.stays_open; out = t } in
      ap P (ap (λ t. a ++ t) (flat_map-append hears step.outputs next.outputs) ∙ sym (append_assoc a (flat_map hears step.outputs) (flat_map hears next.outputs)))

  abbrev others_of : List ℕ → List ℕ → ServerState S → Connection → Step S
  others_of held payload server connection = all server connection (after payload held)

  -- bytes with a first payload
  steps-some : (server : ServerState S) (connection : Connection) (held payload : List ℕ) → first longest_payload held ≡ Some payload →
      all server connection held ≡ and_then (others_of held payload) (one server connection payload)
  steps-some server connection held payload e = ap (payload_steps m arrival server connection) (payloads-some longest_payload held payload e)

  pub steps_more : (server₀ : ServerState S) (connection₀ : Connection) (heard₀ : List Heard) (held₀ : List ℕ) (server : ServerState S) (connection : Connection) (heard : List Heard) (held : List ℕ) (done : ℕ)
      (server' : ServerState S) (connection' : Connection) (heard' : List Heard) (held' payload : List ℕ) (n : ℕ) →
      StepsSoFar m hears arrival server₀ connection₀ heard₀ held₀ server connection heard held done → first longest_payload held ≡ Some payload →
      record { server = server'; connection = connection'; stays_open = true; out = heard' } ≡ step_behind hears heard (payload_step m arrival server connection payload) →
      n ≡ length (payload_step m arrival server connection payload).requests → held' ≡ after payload held → n ≤ length payload → AreShort (payload_step m arrival server connection payload).outputs →
      StepsSoFar m hears arrival server₀ connection₀ heard₀ held₀ server' connection' heard' held' (done + n)
  steps_more server₀ connection₀ heard₀ held₀ server connection heard held done server' connection' heard' held' payload n h f e c p b short =
      let step = one server connection payload in
      let next = all step.server step.connection (after payload held) in
      let s = ap (λ x. x.server) e in
      let k' = ap (λ x. x.connection) e in
      let o = ap (λ x. x.out) e in
      let open_still : step.stays_open ≡ true = sym (ap (λ x. x.stays_open) e) in
      let opened = steps-some server connection held payload f ∙ and_then-open server (others_of held payload) step open_still in
      record {
        says = rw (s, k', o, p) (sym (behind-more heard step next) ∙ ap (step_behind hears heard) (sym opened) ∙ h.says);
        left = rw p (sym (rest-some longest_payload held payload f) ∙ h.left);
        stops = λ k. let assoc : done + n + k ≡ done + (n + k) = omega arith in
            let past : server_after step.server next.requests k ≡ server_after server (all server connection held).requests (n + k) =
            rw (opened, c) (sym (after-past server step.requests next.requests k ∙ ap (λ t. server_after t next.requests k) (payload_whole m arrival server connection payload).whole)) in
            rw (s, k', p, assoc) (past ∙ h.stops (n + k));
        number_of =
            let whole : length (all server connection held).requests ≡ n + length next.requests =
            ap (λ t. length t.requests) opened ∙ length-append step.requests next.requests ∙ ap (λ i. i + length next.requests) (sym c) in
            rw (s, k', p) (omega (arith, whole, h.number_of));
        count = rw p (omega (arith, h.count, first_is longest_payload held payload f, length-drop (length payload + 4) held));
        short = λ later. h.short (rw opened (both_short step.outputs next.outputs short (rw (s, k', p) at later)));
      }

  -- a payload that ends the connection
  pub steps_over : (server₀ : ServerState S) (connection₀ : Connection) (heard₀ : List Heard) (held₀ : List ℕ) (server : ServerState S) (connection : Connection) (heard : List Heard) (held : List ℕ) (done : ℕ)
      (server' : ServerState S) (connection' : Connection) (heard' : List Heard) (payload : List ℕ) →
      StepsSoFar m hears arrival server₀ connection₀ heard₀ held₀ server connection heard held done → first longest_payload held ≡ Some payload →
      record { server = server'; connection = connection'; stays_open = false; out = heard' } ≡ step_behind hears heard (payload_step m arrival server connection payload) →
      record { server = server'; connection = connection'; stays_open = false; out = heard' } ≡ step_behind hears heard₀ (payload_steps m arrival server₀ connection₀ (payloads longest_payload held₀))
  steps_over server₀ connection₀ heard₀ held₀ server connection heard held done server' connection' heard' payload h f e =
      let step = one server connection payload in
      let over = steps-some server connection held payload f ∙ and_then-over server (others_of held payload) step (sym (ap (λ x. x.stays_open) e)) in
      e ∙ ap (step_behind hears heard) (sym over) ∙ h.says

  pub steps_over_short : (server₀ : ServerState S) (connection₀ : Connection) (heard₀ : List Heard) (held₀ : List ℕ) (server : ServerState S) (connection : Connection) (heard : List Heard) (held : List ℕ) (done : ℕ) (payload : List ℕ) →
      StepsSoFar m hears arrival server₀ connection₀ heard₀ held₀ server connection heard held done → first longest_payload held ≡ Some payload →
      (payload_step m arrival server connection payload).stays_open ≡ false → AreShort (payload_step m arrival server connection payload).outputs →
      AreShort (payload_steps m arrival server₀ connection₀ (payloads longest_payload held₀)).outputs
  steps_over_short server₀ connection₀ heard₀ held₀ server connection heard held done payload h f ends short =
      let step = one server connection payload in
      let over = steps-some server connection held payload f ∙ and_then-over server (others_of held payload) step ends in
      h.short (rw over short)

  -- and changes nothing
  pub steps_refused : (server : ServerState S) (connection : Connection) (heard : List Heard) (server' : ServerState S) (connection' : Connection) (heard' : List Heard) (payload : List ℕ) →
      record { server = server'; connection = connection'; stays_open = false; out = heard' } ≡ step_behind hears heard (payload_step m arrival server connection payload) → (server' ≡ server) × (heard' ≡ heard)
  steps_refused server connection heard server' connection' heard' payload e =
      let refused = (payload_whole m arrival server connection payload).refused (sym (ap (λ x. x.stays_open) e)) in
      (ap (λ x. x.server) e ∙ refused.0, ap (λ x. x.out) e ∙ ap (λ os. heard ++ flat_map hears os) refused.1 ∙ append-nil heard)

  -- no whole frame is left
  pub steps_all : (server₀ : ServerState S) (connection₀ : Connection) (heard₀ : List Heard) (held₀ : List ℕ) (server : ServerState S) (connection : Connection) (heard : List Heard) (held : List ℕ) (done : ℕ) →
      StepsSoFar m hears arrival server₀ connection₀ heard₀ held₀ server connection heard held done → first longest_payload held ≡ None →
      record { server = server; connection = connection; stays_open = true; out = heard } ≡ step_behind hears heard₀ (payload_steps m arrival server₀ connection₀ (payloads longest_payload held₀))
  steps_all server₀ connection₀ heard₀ held₀ server connection heard held done h f =
      let P : List Heard → StepPlaced S Heard = λ t. record { server = server; connection = connection; stays_open = true; out = t } in
      ap P (sym (append-nil heard))
      ∙ ap (λ ps. step_behind hears heard (payload_steps m arrival server connection ps)) (sym (payloads-none longest_payload held f)) ∙ h.says

  pub steps_all_short : (server₀ : ServerState S) (connection₀ : Connection) (heard₀ : List Heard) (held₀ : List ℕ) (server : ServerState S) (connection : Connection) (heard : List Heard) (held : List ℕ) (done : ℕ) →
      StepsSoFar m hears arrival server₀ connection₀ heard₀ held₀ server connection heard held done → first longest_payload held ≡ None →
      AreShort (payload_steps m arrival server₀ connection₀ (payloads longest_payload held₀)).outputs
  steps_all_short server₀ connection₀ heard₀ held₀ server connection heard held done h f = h.short (rw (payloads-none longest_payload held f) tt)

  pub held_all : (server₀ : ServerState S) (connection₀ : Connection) (heard₀ : List Heard) (held₀ : List ℕ) (server : ServerState S) (connection : Connection) (heard : List Heard) (held : List ℕ) (done : ℕ) →
      StepsSoFar m hears arrival server₀ connection₀ heard₀ held₀ server connection heard held done → first longest_payload held ≡ None → held ≡ rest longest_payload held₀
  held_all server₀ connection₀ heard₀ held₀ server connection heard held done h f = sym (rest-none longest_payload held f) ∙ h.left

  -- memory ran out after the requests done so far
  pub steps_stopped : (server₀ : ServerState S) (connection₀ : Connection) (heard₀ : List Heard) (held₀ : List ℕ) (server : ServerState S) (connection : Connection) (heard : List Heard) (held : List ℕ) (done : ℕ) →
      StepsSoFar m hears arrival server₀ connection₀ heard₀ held₀ server connection heard held done → server ≡ server_after server₀ (payload_steps m arrival server₀ connection₀ (payloads longest_payload held₀)).requests done
  steps_stopped server₀ connection₀ heard₀ held₀ server connection heard held done h =
      let e : done + 0 ≡ done = omega arith in
      h.stops 0 ∙ ap (server_after server₀ (all server₀ connection₀ held₀).requests) e

  -- memory ran out after k requests of the payload that stands first
  pub steps_stopped_in : (server₀ : ServerState S) (connection₀ : Connection) (heard₀ : List Heard) (held₀ : List ℕ) (server : ServerState S) (connection : Connection) (heard : List Heard) (held : List ℕ) (done : ℕ)
      (server' : ServerState S) (payload : List ℕ) (k : ℕ) →
      StepsSoFar m hears arrival server₀ connection₀ heard₀ held₀ server connection heard held done → first longest_payload held ≡ Some payload →
      k ≤ length (payload_step m arrival server connection payload).requests → server' ≡ server_after server (payload_step m arrival server connection payload).requests k →
      server' ≡ server_after server₀ (payload_steps m arrival server₀ connection₀ (payloads longest_payload held₀)).requests (done + k)
  steps_stopped_in server₀ connection₀ heard₀ held₀ server connection heard held done server' payload k h f b e =
      e ∙ and_then-in server (others_of held payload) (one server connection payload) k b ∙ ap (λ t. server_after server t.requests k) (sym (steps-some server connection held payload f)) ∙ h.stops k

  pub steps_within : (server₀ : ServerState S) (connection₀ : Connection) (heard₀ : List Heard) (held₀ : List ℕ) (server : ServerState S) (connection : Connection) (heard : List Heard) (held : List ℕ) (done k : ℕ) (payload : List ℕ) →
      StepsSoFar m hears arrival server₀ connection₀ heard₀ held₀ server connection heard held done → first longest_payload held ≡ Some payload → k ≤ length (payload_step m arrival server connection payload).requests →
      done + k ≤ length (payload_steps m arrival server₀ connection₀ (payloads longest_payload held₀)).requests
  steps_within server₀ connection₀ heard₀ held₀ server connection heard held done k payload h f b =
      let more = and_then-within server (others_of held payload) (one server connection payload) in
      let same = ap (λ t. length t.requests) (steps-some server connection held payload f) in
      omega (arith, h.number_of, more, same, b)

  pub steps_done : (server₀ : ServerState S) (connection₀ : Connection) (heard₀ : List Heard) (held₀ : List ℕ) (server : ServerState S) (connection : Connection) (heard : List Heard) (held : List ℕ) (done : ℕ) →
      StepsSoFar m hears arrival server₀ connection₀ heard₀ held₀ server connection heard held done →
      done ≤ length (payload_steps m arrival server₀ connection₀ (payloads longest_payload held₀)).requests
  steps_done server₀ connection₀ heard₀ held₀ server connection heard held done h = omega (arith, h.number_of)

-- a payload whose frame of replies a place for outputs took
module _ {S : Type 0} (m : Meaning S) (hears : Output → List Heard) (arrival : Arrival) (server : ServerState S) (connection : Connection) (payload : List ℕ) (server' : ServerState S) (connection' : Connection) (front out : List ℕ) where
  pub frame_of : record { server = server'; connection = connection'; stays_open = true; out = out } ≡ step_behind output_bytes front (payload_step m arrival server connection payload) →
      (replies : List ℕ) × (out ≡ front ++ flat_map output_bytes (reply_frame arrival.connection_id replies)) × ((before heard : List Heard) → heard ≡ before ++ flat_map hears (reply_frame arrival.connection_id replies) →
      record { server = server'; connection = connection'; stays_open = true; out = heard } ≡ step_behind hears before (payload_step m arrival server connection payload))
  frame_of e =
      let step = payload_step m arrival server connection payload in
      let framed = (payload_whole m arrival server connection payload).framed in (
        framed.0,
        ap (λ x. x.out) e ∙ ap (λ os. front ++ flat_map output_bytes os) framed.1,
        λ before heard h.
            let P : List Heard → StepPlaced S ℕ → StepPlaced S Heard = λ t x. record { server = x.server; connection = x.connection; stays_open = x.stays_open; out = t } in
            ap (P heard) e ∙ ap (λ t. P t (step_behind output_bytes front step)) (h ∙ ap (λ os. before ++ flat_map hears os) (sym framed.1)),
      )

  -- one that ends its connection has none
  pub no_frame : record { server = server'; connection = connection'; stays_open = false; out = out } ≡ step_behind output_bytes front (payload_step m arrival server connection payload) →
      (out ≡ front) × ((before heard : List Heard) → heard ≡ before →
      record { server = server'; connection = connection'; stays_open = false; out = heard } ≡ step_behind hears before (payload_step m arrival server connection payload))
  no_frame e =
      let step = payload_step m arrival server connection payload in
      let refused = (payload_whole m arrival server connection payload).refused (sym (ap (λ x. x.stays_open) e)) in (
        ap (λ x. x.out) e ∙ ap (λ os. front ++ flat_map output_bytes os) refused.1 ∙ append-nil front,
        λ before heard h.
            let P : List Heard → StepPlaced S ℕ → StepPlaced S Heard = λ t x. record { server = x.server; connection = x.connection; stays_open = x.stays_open; out = t } in
            ap (P heard) e ∙ ap (λ t. P t (step_behind output_bytes front step)) (h ∙ sym (append-nil before) ∙ ap (λ os. before ++ flat_map hears os) (sym refused.1)),
      )

-- what stood before is kept
pub front_kept : {X : Type 0} (before more all : List X) → all ≡ before ++ more → take (length before) all ≡ before
front_kept before more all e = rw e (take-append_seam before more)

-- what stood first in a list still does
pub kept_more : {X : Type 0} (a b d : List X) → take (length a) b ≡ a → take (length b) d ≡ b → take (length a) d ≡ a
kept_more a b d p q =
    let n : length a ≤ length b = omega (arith, ap length p, length-take (length a) b) in
    sym (take-take (length a) (length b) d n) ∙ ap (take (length a)) q ∙ p

-- what stands first by a limit that is the share's
pub at_limit : (limit : ℕ) (bytes : List ℕ) (o : Option (List ℕ)) → limit ≡ longest_payload → o ≡ first limit bytes → first longest_payload bytes ≡ o
at_limit limit bytes o e h = ap (λ n. first n bytes) (sym e) ∙ sym h
