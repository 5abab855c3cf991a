-- Bytes of a stream performed in two parts, one behind the other.
use Rattle.std.proofs.Common.{◌≡◌, ℕ, ◌+◌, ◌≤◌, Bool, true, false, List, [], ◌∷◌, ◌++◌, length, take, drop, Option, None, IsTrue, ◌-◌, refl, sym, ap, ◌∙◌, append_assoc, arith, length-append}
use Rattle.std.specs.List.{flat_map}
use Rattle.std.proofs.lemmas.List.{append-nil, length-drop, length-take-le, take-append-drop}
use Rattle.std.proofs.Math.Seq.{take-length}
use Rattle.std.proofs.lemmas.Bool.{false≢true}
use Rattle.std.proofs.lemmas.Grind.{flat_map-append}
use Rattle.smb_wire.specs.Limits.{longest_payload}
use Rattle.smb_frame.specs.Reading.{first, fault_of, payloads, rest}
use Rattle.smb_frame.specs.Unread.{Unread, with_piece}
use Rattle.smb_frame.specs.Unread.{lacking}
use Rattle.smb_frame.proofs.Lacking.{sound_behind}
use Rattle.smb_frame.proofs.Bounds.{open_rest_short}
use Rattle.smb_frame.proofs.Streams.{payloads-none, payloads-more, rest-none, rest-more}
use Rattle.smb_engine.specs.declared.arrival.Arrival.{Arrival}
use Rattle.smb_engine.specs.declared.connection.Connection.{Connection}
use Rattle.smb_session.specs.Authenticator.{Meaning}
use Rattle.smb_request.specs.State.{ServerState}
use Rattle.smb_engine.specs.Output.{AreShort, Output}
use Rattle.smb_engine.specs.Sink.{Heard}
use Rattle.smb_engine.specs.Run.{Step, payload_steps}
use Rattle.smb_engine.specs.Parts.{after_step}
use Rattle.smb_engine.specs.Parts.{server_after}
use Rattle.smb_engine.specs.Held.{StoppedAfter}
use Rattle.smb_engine.specs.InPlace.{StepPlaced, step_behind}
use Rattle.smb_engine.specs.SoFar.{StepsSoFar, StepsOver, AreTaken}
use Rattle.smb_engine.proofs.Chains.{after-past, after-front}
use Rattle.smb_engine.proofs.Cuts.{steps-on, steps-over}
use Rattle.smb_engine.proofs.Short.{both_short}

-- what a buffer with which nothing is wrong holds after more bytes
pub pushed : (before after : Unread) (bytes : List ℕ) → before.limit ≡ longest_payload → fault_of longest_payload before.bytes ≡ None →
    after ≡ with_piece before bytes → (after.limit ≡ longest_payload) × (after.bytes ≡ before.bytes ++ bytes)
pushed before after bytes e sound h =
    let none : fault_of before.limit before.bytes ≡ None = rw e sound in
    let all : after ≡ record before { done = 0; bytes = before.bytes ++ bytes } = h ∙ rw none refl in
    (ap (λ u. u.limit) all ∙ e, ap (λ u. u.bytes) all)

module _ {S : Type 0} (m : Meaning S) (hears : Output → List Heard) (arrival : Arrival) where
  abbrev all : ServerState S → Connection → List ℕ → Step S
  all server connection held = payload_steps m arrival server connection (payloads longest_payload held)

  abbrev behind : List Heard → Step S → StepPlaced S Heard
  behind = step_behind hears

  abbrev SoFar : ServerState S → Connection → List Heard → List ℕ → ServerState S → Connection → List Heard → List ℕ → ℕ → Type 0
  SoFar = StepsSoFar m hears arrival

  -- what was done, and then what was done of what was left
  pub so_far_then : (s₀ : ServerState S) (c₀ : Connection) (h₀ : List Heard) (b₀ : List ℕ) (s₁ : ServerState S) (c₁ : Connection) (h₁ : List Heard) (b₁ : List ℕ) (d : ℕ)
      (s₂ : ServerState S) (c₂ : Connection) (h₂ : List Heard) (b₂ : List ℕ) (k : ℕ) →
      SoFar s₀ c₀ h₀ b₀ s₁ c₁ h₁ b₁ d → SoFar s₁ c₁ h₁ b₁ s₂ c₂ h₂ b₂ k → SoFar s₀ c₀ h₀ b₀ s₂ c₂ h₂ b₂ (d + k)
  so_far_then s₀ c₀ h₀ b₀ s₁ c₁ h₁ b₁ d s₂ c₂ h₂ b₂ k one two = record {
    says = two.says ∙ one.says;
    left = two.left ∙ one.left;
    stops = λ i. let e : d + (k + i) ≡ d + k + i = omega arith in
        two.stops i ∙ one.stops (k + i) ∙ ap (server_after s₀ (all s₀ c₀ b₀).requests) e;
    count = omega (arith, one.count, two.count);
    number_of = omega (arith, one.number_of, two.number_of);
    short = λ later. one.short (two.short later);
  }

  -- and where the connection ended, or memory ran out, in what was left
  pub over_then : (s₀ : ServerState S) (c₀ : Connection) (h₀ : List Heard) (b₀ : List ℕ) (s₁ : ServerState S) (c₁ : Connection) (h₁ : List Heard) (b₁ : List ℕ) (d : ℕ)
      (s₂ : ServerState S) (c₂ : Connection) (h₂ : List Heard) →
      SoFar s₀ c₀ h₀ b₀ s₁ c₁ h₁ b₁ d → StepsOver m hears arrival s₁ c₁ h₁ b₁ s₂ c₂ h₂ → StepsOver m hears arrival s₀ c₀ h₀ b₀ s₂ c₂ h₂
  over_then s₀ c₀ h₀ b₀ s₁ c₁ h₁ b₁ d s₂ c₂ h₂ one over = record { says = over.says ∙ one.says; short = one.short over.short }

  pub stopped_then : (s₀ : ServerState S) (c₀ : Connection) (h₀ : List Heard) (b₀ : List ℕ) (s₁ : ServerState S) (c₁ : Connection) (h₁ : List Heard) (b₁ : List ℕ) (d k : ℕ) (left : ServerState S) →
      SoFar s₀ c₀ h₀ b₀ s₁ c₁ h₁ b₁ d → StoppedAfter s₁ (all s₁ c₁ b₁) k left → StoppedAfter s₀ (all s₀ c₀ b₀) (d + k) left
  stopped_then s₀ c₀ h₀ b₀ s₁ c₁ h₁ b₁ d k left one two = record {
    within = omega (arith, one.number_of, two.within);
    state = two.state ∙ one.stops k;
  }

  pub taken_then : (s₀ : ServerState S) (c₀ : Connection) (h₀ : List Heard) (b₀ : List ℕ) (s₁ : ServerState S) (c₁ : Connection) (h₁ : List Heard) (b₁ : List ℕ) (d : ℕ)
      (s₂ : ServerState S) (c₂ : Connection) (h₂ : List Heard) (b₂ : List ℕ) (stays_open : Bool) (k : ℕ) →
      SoFar s₀ c₀ h₀ b₀ s₁ c₁ h₁ b₁ d → AreTaken m hears arrival s₁ c₁ h₁ b₁ s₂ c₂ h₂ b₂ stays_open k →
      AreTaken m hears arrival s₀ c₀ h₀ b₀ s₂ c₂ h₂ b₂ stays_open (d + k)
  taken_then s₀ c₀ h₀ b₀ s₁ c₁ h₁ b₁ d s₂ c₂ h₂ b₂ stays_open k one two = record {
    all = λ t. so_far_then s₀ c₀ h₀ b₀ s₁ c₁ h₁ b₁ d s₂ c₂ h₂ b₂ k one (two.all t);
    partial = two.partial;
    over = λ f. over_then s₀ c₀ h₀ b₀ s₁ c₁ h₁ b₁ d s₂ c₂ h₂ one (two.over f);
    stopped = stopped_then s₀ c₀ h₀ b₀ s₁ c₁ h₁ b₁ d k s₂ one two.stopped;
    few = omega (arith, one.count, two.few);
  }

  behind-more : (a : List Heard) (step next : Step S) → behind a (after_step step next) ≡ behind (a ++ flat_map hears step.outputs) next
  behind-more a step next =
      let P : List Heard → StepPlaced S Heard = λ t. record { server = next.server; connection = next.connection; stays_open = next.stays_open; out = t } in
      ap P (ap (λ t. a ++ t) (flat_map-append hears step.outputs next.outputs) ∙ sym (append_assoc a (flat_map hears step.outputs) (flat_map hears next.outputs)))

  -- what was done of some bytes, of which less than a frame is left, was done of these with more behind them
  pub so_far_more : (s₀ : ServerState S) (c₀ : Connection) (h₀ : List Heard) (b₀ : List ℕ) (s₁ : ServerState S) (c₁ : Connection) (h₁ : List Heard) (b₁ : List ℕ) (d : ℕ) (more : List ℕ) →
      SoFar s₀ c₀ h₀ b₀ s₁ c₁ h₁ b₁ d → first longest_payload b₁ ≡ None → SoFar s₀ c₀ h₀ (b₀ ++ more) s₁ c₁ h₁ (b₁ ++ more) d
  so_far_more s₀ c₀ h₀ b₀ s₁ c₁ h₁ b₁ d more h partial =
      let a = all s₀ c₀ b₀ in
      let nothing : all s₁ c₁ b₁ ≡ record { server = s₁; connection = c₁; outputs = []; stays_open = true; requests = [] } =
      ap (payload_steps m arrival s₁ c₁) (payloads-none longest_payload b₁ partial) in
      let said = ap (behind h₁) (sym nothing) ∙ h.says in
      let same_server : s₁ ≡ a.server = ap (λ p. p.server) said in
      let same_connection : c₁ ≡ a.connection = ap (λ p. p.connection) said in
      let open_still : a.stays_open ≡ true = sym (ap (λ p. p.stays_open) said) in
      let heard : h₁ ≡ h₀ ++ flat_map hears a.outputs = sym (append-nil h₁) ∙ ap (λ p. p.out) said in
      let number : d ≡ length a.requests = let n = ap (λ (step : Step S). length step.requests) nothing in omega (arith, h.number_of, n) in
      let left : b₁ ≡ rest longest_payload b₀ = sym (rest-none longest_payload b₁ partial) ∙ h.left in
      let next = all s₁ c₁ (b₁ ++ more) in
      let whole : all s₀ c₀ (b₀ ++ more) ≡ after_step a next =
      ap (payload_steps m arrival s₀ c₀) (payloads-more longest_payload more b₀)
      ∙ steps-on m arrival.connection_id arrival.moment s₀ c₀ (payloads longest_payload b₀) (payloads longest_payload (rest longest_payload b₀ ++ more)) open_still
      ∙ rw (same_server, same_connection, left) refl in
      record {
        says = ap (λ t. behind t next) heard ∙ sym (behind-more h₀ a next) ∙ ap (behind h₀) (sym whole);
        left = ap (λ t. rest longest_payload (t ++ more)) left ∙ sym (rest-more longest_payload more b₀);
        stops = λ k.
            let at : s₁ ≡ server_after s₀ a.requests (length a.requests) = let e : d + 0 ≡ length a.requests = omega (arith, number) in
            ap (λ (step : Step S). server_after s₁ step.requests 0) (sym nothing) ∙ h.stops 0 ∙ ap (server_after s₀ a.requests) e in
            ap (λ t. server_after t next.requests k) at ∙ sym (after-past s₀ a.requests next.requests k)
            ∙ ap (λ (step : Step S). server_after s₀ step.requests (length a.requests + k)) (sym whole)
            ∙ ap (λ n. server_after s₀ (all s₀ c₀ (b₀ ++ more)).requests (n + k)) (sym number);
        count = omega (arith, h.count, length-append b₀ more, length-append b₁ more);
        number_of = let n = ap (λ (step : Step S). length step.requests) whole in omega (arith, n, number, length-append a.requests next.requests);
        short = λ later. rw whole (both_short a.outputs next.outputs (h.short (rw nothing tt)) later);
      }

  -- the bytes that were taken, as sentences of their steps
  pub taken_says : (s₀ : ServerState S) (c₀ : Connection) (h₀ : List Heard) (b₀ : List ℕ) (s₁ : ServerState S) (c₁ : Connection) (h₁ : List Heard) (b₁ : List ℕ) (stays_open : Bool) (d : ℕ) →
      AreTaken m hears arrival s₀ c₀ h₀ b₀ s₁ c₁ h₁ b₁ stays_open d →
      record { server = s₁; connection = c₁; stays_open = stays_open; out = h₁ } ≡ behind h₀ (all s₀ c₀ b₀)
  taken_says s₀ c₀ h₀ b₀ s₁ c₁ h₁ b₁ true d taken =
      let P : List Heard → StepPlaced S Heard = λ t. record { server = s₁; connection = c₁; stays_open = true; out = t } in
      ap P (sym (append-nil h₁)) ∙ ap (λ ps. behind h₁ (payload_steps m arrival s₁ c₁ ps)) (sym (payloads-none longest_payload b₁ (taken.partial refl))) ∙ (taken.all refl).says
  taken_says s₀ c₀ h₀ b₀ s₁ c₁ h₁ b₁ false d taken = (taken.over refl).says

  pub taken_short : (s₀ : ServerState S) (c₀ : Connection) (h₀ : List Heard) (b₀ : List ℕ) (s₁ : ServerState S) (c₁ : Connection) (h₁ : List Heard) (b₁ : List ℕ) (stays_open : Bool) (d : ℕ) →
      AreTaken m hears arrival s₀ c₀ h₀ b₀ s₁ c₁ h₁ b₁ stays_open d → AreShort (all s₀ c₀ b₀).outputs
  taken_short s₀ c₀ h₀ b₀ s₁ c₁ h₁ b₁ true d taken = (taken.all refl).short (rw (payloads-none longest_payload b₁ (taken.partial refl)) tt)
  taken_short s₀ c₀ h₀ b₀ s₁ c₁ h₁ b₁ false d taken = (taken.over refl).short

  pub taken_rest : (s₀ : ServerState S) (c₀ : Connection) (h₀ : List Heard) (b₀ : List ℕ) (s₁ : ServerState S) (c₁ : Connection) (h₁ : List Heard) (b₁ : List ℕ) (stays_open : Bool) (d : ℕ) →
      AreTaken m hears arrival s₀ c₀ h₀ b₀ s₁ c₁ h₁ b₁ stays_open d → IsTrue stays_open → (b₁ ≡ rest longest_payload b₀) × (first longest_payload b₁ ≡ None)
  taken_rest s₀ c₀ h₀ b₀ s₁ c₁ h₁ b₁ stays_open d taken t = (sym (rest-none longest_payload b₁ (taken.partial t)) ∙ (taken.all t).left, taken.partial t)

  -- more bytes behind some: what was done of these, or ended the connection, comes first
  with_more_at : (s : ServerState S) (c : Connection) (b more : List ℕ) (o : Bool) → (all s c b).stays_open ≡ o → (k : ℕ) (left : ServerState S) →
      StoppedAfter s (all s c b) k left → StoppedAfter s (payload_steps m arrival s c (payloads longest_payload b ++ payloads longest_payload (rest longest_payload b ++ more))) k left
  with_more_at s c b more true e k left h =
      let a = all s c b in
      let later = payloads longest_payload (rest longest_payload b ++ more) in
      let next = payload_steps m arrival a.server a.connection later in
      rw (steps-on m arrival.connection_id arrival.moment s c (payloads longest_payload b) later e) (record {
        within = omega (arith, h.within, length-append a.requests next.requests);
        state = h.state ∙ sym (after-front s a.requests next.requests k h.within);
      })
  with_more_at s c b more false e k left h =
      rw (steps-over m arrival.connection_id arrival.moment s c (payloads longest_payload b) (payloads longest_payload (rest longest_payload b ++ more)) e) h

  pub stopped_more : (s : ServerState S) (c : Connection) (b more : List ℕ) (k : ℕ) (left : ServerState S) → StoppedAfter s (all s c b) k left → StoppedAfter s (all s c (b ++ more)) k left
  stopped_more s c b more k left h = rw (payloads-more longest_payload more b) (with_more_at s c b more (all s c b).stays_open refl k left h)

  pub over_more : (s₀ : ServerState S) (c₀ : Connection) (h₀ : List Heard) (b more : List ℕ) (s₁ : ServerState S) (c₁ : Connection) (h₁ : List Heard) →
      StepsOver m hears arrival s₀ c₀ h₀ b s₁ c₁ h₁ → StepsOver m hears arrival s₀ c₀ h₀ (b ++ more) s₁ c₁ h₁
  over_more s₀ c₀ h₀ b more s₁ c₁ h₁ h =
      let same : all s₀ c₀ (b ++ more) ≡ all s₀ c₀ b =
      ap (payload_steps m arrival s₀ c₀) (payloads-more longest_payload more b)
      ∙ steps-over m arrival.connection_id arrival.moment s₀ c₀ (payloads longest_payload b) (payloads longest_payload (rest longest_payload b ++ more)) (sym (ap (λ p. p.stays_open) h.says)) in
      record { says = h.says ∙ ap (behind h₀) (sym same); short = rw same h.short }

  -- the connection ended in the front of a piece
  pub parts_over : (s₀ : ServerState S) (c₀ : Connection) (h₀ : List Heard) (held front back piece : List ℕ) (s₁ : ServerState S) (c₁ : Connection) (h₁ : List Heard) (b₁ : List ℕ) (o : Bool) (d : ℕ) →
      front ++ back ≡ piece → o ≡ false → AreTaken m hears arrival s₀ c₀ h₀ (held ++ front) s₁ c₁ h₁ b₁ o d →
      AreTaken m hears arrival s₀ c₀ h₀ (held ++ piece) s₁ c₁ h₁ b₁ false d
  parts_over s₀ c₀ h₀ held front back piece s₁ c₁ h₁ b₁ o d e f h =
      let whole : (held ++ front) ++ back ≡ held ++ piece = append_assoc held front back ∙ ap (λ t. held ++ t) e in
      record {
        all = λ t. absurd (false≢true t);
        partial = λ t. absurd (false≢true t);
        over = λ _. rw (← whole) (over_more s₀ c₀ h₀ (held ++ front) back s₁ c₁ h₁ (h.over f));
        stopped = rw (← whole) (stopped_more s₀ c₀ (held ++ front) back d s₁ h.stopped);
        few = let n = ap length whole in omega (arith, h.few, n, length-append (held ++ front) back);
      }

  -- or memory ran out there
  pub parts_stopped : (s₀ : ServerState S) (c₀ : Connection) (held front back piece : List ℕ) (k : ℕ) (left : ServerState S) → front ++ back ≡ piece →
      StoppedAfter s₀ (all s₀ c₀ (held ++ front)) k left → StoppedAfter s₀ (all s₀ c₀ (held ++ piece)) k left
  parts_stopped s₀ c₀ held front back piece k left e h =
      let whole : (held ++ front) ++ back ≡ held ++ piece = append_assoc held front back ∙ ap (λ t. held ++ t) e in
      rw (← whole) (stopped_more s₀ c₀ (held ++ front) back k left h)

  pub parts_few : (held front back piece : List ℕ) (k : ℕ) → front ++ back ≡ piece → k ≤ length (held ++ front) → k ≤ length (held ++ piece)
  parts_few held front back piece k e h = let n = ap length e in omega (arith, h, n, length-append front back, length-append held front, length-append held piece)

  -- the front of a piece was taken, and then its back
  pub parts_far : (s₀ : ServerState S) (c₀ : Connection) (h₀ : List Heard) (held front back piece : List ℕ) (s₁ : ServerState S) (c₁ : Connection) (h₁ : List Heard) (b₁ : List ℕ) (o : Bool) (d : ℕ) →
      front ++ back ≡ piece → o ≡ true → AreTaken m hears arrival s₀ c₀ h₀ (held ++ front) s₁ c₁ h₁ b₁ o d → SoFar s₀ c₀ h₀ (held ++ piece) s₁ c₁ h₁ (b₁ ++ back) d
  parts_far s₀ c₀ h₀ held front back piece s₁ c₁ h₁ b₁ o d e t h =
      let whole : (held ++ front) ++ back ≡ held ++ piece = append_assoc held front back ∙ ap (λ t. held ++ t) e in
      rw (← whole) (so_far_more s₀ c₀ h₀ (held ++ front) s₁ c₁ h₁ b₁ d back (h.all t) (h.partial t))

-- nothing is held
pub none_held : (held : List ℕ) → length held ≡ 0 → held ≡ []
none_held [] e = refl
none_held (x ∷ held) e = absurd (omega arith)

-- a slice up to the end of some bytes
pub tail_is : (bytes : List ℕ) (used : ℕ) → take (length bytes - used) (drop used bytes) ≡ drop used bytes
tail_is bytes used = let n : length bytes - used ≡ length (drop used bytes) = sym (length-drop used bytes) in rw n (take-length (drop used bytes))

pub tail_long : (bytes : List ℕ) (used : ℕ) → length (take (length bytes - used) (drop used bytes)) ≡ length bytes - used
tail_long bytes used = ap length (tail_is bytes used) ∙ length-drop used bytes

pub first_behind : (bytes : List ℕ) (used : ℕ) (o : Option (List ℕ)) → o ≡ first longest_payload (take (length bytes - used) (drop used bytes)) →
    first longest_payload (drop used bytes) ≡ o
first_behind bytes used o h = ap (first longest_payload) (sym (tail_is bytes used)) ∙ sym h

-- some bytes in two slices
pub split_is : (bytes : List ℕ) (count : ℕ) → take count bytes ++ take (length bytes - count) (drop count bytes) ≡ bytes
split_is bytes count = rw (tail_is bytes count) (take-append-drop count bytes)

-- nothing is wrong with what is held once at most what the first frame lacks was taken
pub sound_front : (held front left : List ℕ) → first longest_payload held ≡ None → fault_of longest_payload held ≡ None → length front ≤ lacking held →
    left ≡ rest longest_payload (held ++ front) → fault_of longest_payload left ≡ None
sound_front held front left none sound few e = rw e (sound_behind longest_payload held front none sound few)

-- how many requests were performed of a piece in two parts: no more than it and what was held have bytes
pub sum_small : (held left piece : List ℕ) (count d k : ℕ) → first longest_payload held ≡ None → fault_of longest_payload held ≡ None →
    first longest_payload left ≡ None → fault_of longest_payload left ≡ None → count ≤ length piece → d ≤ length (held ++ take count piece) →
    k ≤ length (left ++ take (length piece - count) (drop count piece)) → d + k ≤ length piece + 2097158
sum_small held left piece count d k none sound none' sound' few one two =
    omega (
      arith,
      one,
      two,
      few,
      open_rest_short longest_payload held none sound,
      open_rest_short longest_payload left none' sound',
      length-append held (take count piece),
      length-take-le count piece few,
      length-append left (take (length piece - count) (drop count piece)),
      tail_long piece count,
    )
