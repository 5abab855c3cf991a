-- What an observer heard: one request, one payload, one piece, one event further.
use Rattle.std.proofs.Common.{◌≡◌, ℕ, zero, suc, ◌+◌, ◌≤◌, ◌<◌, Bool, true, false, get_or, List, [], ◌∷◌, ◌++◌, length, take, drop, Option, None, Some, refl, sym, ap, ◌∙◌, append_assoc, arith, if◌then◌else◌}
use Rattle.std.specs.Prelude.{slice_get, IfSome, IfNone}
use Rattle.std.specs.Option.{option_map, option_map_or}
use Rattle.std.proofs.lemmas.List.{append-nil, take_all, length-map}
use Rattle.std.proofs.lemmas.Grind.{flat_map-append}
use Rattle.std.specs.BTreeMap.{is_at}
use Rattle.std.specs.Ordering.{nat_cmp}
use Rattle.smb_wire.specs.Limits.{longest_payload}
use Rattle.smb_frame.specs.Reading.{first, fault_of, payloads, rest}
use Rattle.smb_frame.specs.Parts.{after}
use Rattle.smb_frame.proofs.Streams.{payloads-none, payloads-some, payloads-more, rest-more}
use Rattle.smb_session.specs.Authenticator.{Meaning}
use Rattle.smb_session.specs.Window.{credits_granted}
use Rattle.smb_request.specs.State.{ServerState}
use Rattle.smb_request.specs.Request.{performed}
use Rattle.smb_request.specs.Response.{ResponseState}
use Rattle.smb_request.specs.InPlace.{AnswerHeld, answer_held, answer_behind}
use Rattle.smb_request.specs.declared.response.Answered.{Answered}
use Rattle.smb_head.specs.Headers.{header_of}
use Rattle.smb_peers.specs.Record.{Keeping}
use Rattle.smb_peers.specs.Observed.{Observed, performed as was_performed}
use Rattle.smb_wire.specs.declared.dialect.Dialect.{Dialect}
use Rattle.smb_request.specs.declared.context.Context.{Context}
use Rattle.smb_peers.specs.declared.event.Event.{Event}
use Rattle.smb_peers.specs.Event.{EventText, opens, brings, ends, text_of}
use Rattle.smb_peers.specs.declared.ending.Ending.{Ending}
use Rattle.smb_peers.specs.declared.ending.Ending.TheVariants.{Frame}
use Rattle.smb_engine.specs.declared.arrival.Arrival.{Arrival}
use Rattle.smb_engine.specs.declared.connection.Connection.{Connection}
use Rattle.smb_engine.specs.State.{StreamState, ShareState, stream_of}
use Rattle.smb_engine.specs.Stream.{unread}
use Rattle.smb_engine.specs.Output.{Output}
use Rattle.smb_engine.specs.Sink.{Heard}
use Rattle.smb_engine.specs.Run.{PerformedRequest, ChainState, one_performed, requests_of_chain, admitted, ending_of, Step, chain_step, payload_step, payload_steps, event_step, event_refusal, run}
use Rattle.smb_engine.specs.Parts.{and_then, added_payloads, all_performed, chain_begun, unread_stream, events_of}
use Rattle.smb_engine.specs.Held.{Waits, report_observed}
use Rattle.smb_peers.specs.declared.observer.Acting.{Acting}
use Rattle.smb_engine.specs.InPlace.{ChainStatePlaced, step_behind}
use Rattle.smb_engine.specs.SoFar.{AreTaken}
use Rattle.smb_engine.specs.Observed.{acting_on, response_observed, request_observed, requests_observed, ending_observed, payload_observed, payloads_observed, piece_observed, event_observed, run_observed}
use Rattle.smb_engine.proofs.Chains.{first_chain, ChainSoFar}
use Rattle.smb_engine.proofs.Endings.{none_admitted}
use Rattle.smb_engine.proofs.Pieces.{added-waits}
use Rattle.smb_engine.proofs.Streams.{arrived, stream_of-unread}
use Rattle.smb_engine.proofs.SoFar.{taken_says, taken_rest}
use Rattle.smb_engine.proofs.Runs.{added-rest, RunSoFar, at_place, not_refused, run-goes, run-cons}

-- A RECORD THAT GROWS

-- a record that grew by some, and then by others
pub grew_twice : (k₀ k₁ k₂ : Bool) (a₀ a₁ a₂ x y : List Observed) → Keeping k₀ k₁ (a₁ ≡ a₀ ++ x) → Keeping k₁ k₂ (a₂ ≡ a₁ ++ y) → Keeping k₀ k₂ (a₂ ≡ a₀ ++ (x ++ y))
grew_twice k₀ k₁ k₂ a₀ a₁ a₂ x y one two = λ keeps.
    let later = two keeps in
    let before = one later.0 in
    (before.0, later.1 ∙ ap (λ t. t ++ y) before.1 ∙ append_assoc a₀ x y)

-- the same, said otherwise
pub grew_as : (k₀ k₁ : Bool) (a₀ a₁ x y : List Observed) → x ≡ y → Keeping k₀ k₁ (a₁ ≡ a₀ ++ x) → Keeping k₀ k₁ (a₁ ≡ a₀ ++ y)
grew_as k₀ k₁ a₀ a₁ x y same one = λ keeps. let before = one keeps in (before.0, before.1 ∙ ap (λ t. a₀ ++ t) same)

-- by nothing
pub grew_none : (k : Bool) (a : List Observed) → Keeping k k (a ≡ a ++ [])
grew_none k a = λ keeps. (keeps, sym (append-nil a))

-- what was heard with what is left to hear is all that there is to hear
pub record IsLeft (k₀ k₁ : Bool) (a₀ a₁ left all : List Observed) : Type 0 where
  pub says : Keeping k₀ k₁ (a₁ ++ left ≡ a₀ ++ all)

pub left_first : (k : Bool) (a all : List Observed) → IsLeft k k a a all all
left_first k a all = record { says = λ keeps. (keeps, refl) }

left_more : (k₀ k₁ k₂ : Bool) (a₀ a₁ a₂ x left left' all : List Observed) → IsLeft k₀ k₁ a₀ a₁ left all → Keeping k₁ k₂ (a₂ ≡ a₁ ++ x) → left ≡ x ++ left' → IsLeft k₀ k₂ a₀ a₂ left' all
left_more k₀ k₁ k₂ a₀ a₁ a₂ x left left' all one two same = record {
  says = λ keeps.
      let later = two keeps in
      let before = one.says later.0 in
      (before.0, ap (λ t. t ++ left') later.1 ∙ append_assoc a₁ x left' ∙ ap (λ t. a₁ ++ t) (sym same) ∙ before.1);
}

left_none : (k₀ k₁ : Bool) (a₀ a₁ left all : List Observed) → IsLeft k₀ k₁ a₀ a₁ left all → left ≡ [] → Keeping k₀ k₁ (a₁ ≡ a₀ ++ all)
left_none k₀ k₁ a₀ a₁ left all one none = λ keeps.
    let before = one.says keeps in
    (before.0, sym (append-nil a₁) ∙ ap (λ t. a₁ ++ t) (sym none) ∙ before.1)

-- A CHAIN

-- what is heard of a response is told by its status and its refusal
pub same_response : (connection credits : ℕ) (request front out : List ℕ) (answered : Answered) (response : Option ResponseState) → Some (answer_held answered out) ≡ option_map (answer_behind front) response →
    response_observed connection request credits (Some (record { status = answered.status; refusal = answered.refusal; ids = answered.ids; body = [] })) ≡ response_observed connection request credits response
same_response connection credits request front out answered None h = cc
same_response connection credits request front out answered (Some response) h =
    let status : answered.status ≡ response.status = ap (λ o. option_map_or (λ (answer : AnswerHeld). answer.status) o answered.status) h in
    let refusal : answered.refusal ≡ response.refusal = ap (λ o. option_map_or (λ (answer : AnswerHeld). answer.refusal) o None) h in
    rw (status, refusal) refl

-- what is reported of a request is what is heard of it
pub same_report : (arrival : Arrival) (dialect : Option Dialect) (context : Context) (credits credits' : ℕ) (request front out : List ℕ) (answered : Answered) (response : Option ResponseState) → credits ≡ credits' →
    Some (answer_held answered out) ≡ option_map (answer_behind front) response →
    report_observed arrival.connection_id request (acting_on arrival dialect context request) (Some (answered, credits)) ≡ request_observed arrival dialect context request credits' response
same_report arrival dialect context credits credits' request front out answered response e h =
    ap (λ t. was_performed arrival.connection_id request (acting_on arrival dialect context request) ∷ t)
    (same_response arrival.connection_id credits request front out answered response h ∙ ap (λ k. response_observed arrival.connection_id request k response) e)

pub same_cancelled : (arrival : Arrival) (dialect : Option Dialect) (context : Context) (credits : ℕ) (request front : List ℕ) (response : Option ResponseState) → None ≡ option_map (answer_behind front) response →
    report_observed arrival.connection_id request (acting_on arrival dialect context request) None ≡ request_observed arrival dialect context request credits response
same_cancelled arrival dialect context credits request front None h = refl
same_cancelled arrival dialect context credits request front (Some response) h = cc

-- a request was noted, and then reported, to an observer that listens; one that does not keeps no record
pub report_grew : (acting : Option Acting) (acts : Acting) (k₀ k₁ k₂ : Bool) (a₀ a₁ a₂ : List Observed) (connection : ℕ) (request : List ℕ) (answered : Option (Answered × ℕ)) (xs : List Observed) →
    IfSome acting (λ it. it ≡ acts) → IfNone acting (k₁ ≡ true → ⊥) → Keeping k₀ k₁ (a₁ ≡ a₀) →
    IfSome acting (λ it. Keeping k₁ k₂ (a₂ ≡ a₁ ++ report_observed connection request it answered)) → IfNone acting (k₂ ≡ true → k₁ ≡ true) →
    report_observed connection request acts answered ≡ xs → Keeping k₀ k₂ (a₂ ≡ a₀ ++ xs)
report_grew None acts k₀ k₁ k₂ a₀ a₁ a₂ connection request answered xs is deaf noted reported still same = λ keeps. absurd (deaf (still keeps))
report_grew (Some acting) acts k₀ k₁ k₂ a₀ a₁ a₂ connection request answered xs is deaf noted reported still same = λ keeps.
    let later = reported keeps in
    let before = noted later.0 in
    (before.0, later.1 ∙ ap (λ t. t ++ report_observed connection request acting answered) before.1 ∙ ap (λ it. a₀ ++ report_observed connection request it answered) is ∙ ap (λ t. a₀ ++ t) same)

module _ {S : Type 0} (m : Meaning S) (arrival : Arrival) where
  -- the record of a request that was performed in a chain
  abbrev one_request : ChainState S → List ℕ → PerformedRequest S
  one_request chain request = record {
    before = chain.server;
    dialect = chain.connection.dialect;
    context = chain.context;
    request = Some request;
    after = (one_performed m arrival chain request).server;
    response = (performed m arrival.connection_id arrival.moment chain.server chain.connection.dialect chain.context request).response;
    credits = credits_granted chain.connection.window (header_of request).credits;
  }

  requests-more : (chain : ChainState S) (i : ℕ) (requests : List (List ℕ)) (request : List ℕ) → slice_get requests i ≡ Some request →
      requests_of_chain m arrival chain (take (i + 1) requests) ≡ requests_of_chain m arrival chain (take i requests) ++ one_request (all_performed m arrival chain (take i requests)) request ∷ []
  requests-more chain i [] request h = cc
  requests-more chain zero (x ∷ requests) request h = let e : x ≡ request = cc in rw e refl
  requests-more chain (suc i) (x ∷ requests) request h =
      let e : suc i + 1 ≡ suc (i + 1) = omega arith in
      rw e (ap (λ t. one_request chain x ∷ t) (requests-more (one_performed m arrival chain x) i requests request h))

  -- what was heard of the first i requests of a chain
  abbrev pub chain_observed : List ℕ → ChainState S → List (List ℕ) → ℕ → List Observed
  chain_observed payload chain requests i = requests_observed arrival payload (requests_of_chain m arrival chain (take i requests))

  pub chain_heard_more : (payload : List ℕ) (chain : ChainState S) (i : ℕ) (requests : List (List ℕ)) (request : List ℕ) (k₀ k₁ k₂ : Bool) (a₀ a₁ a₂ x : List Observed) → slice_get requests i ≡ Some request →
      x ≡ requests_observed arrival payload (one_request (all_performed m arrival chain (take i requests)) request ∷ []) →
      Keeping k₀ k₁ (a₁ ≡ a₀ ++ chain_observed payload chain requests i) → Keeping k₁ k₂ (a₂ ≡ a₁ ++ x) →
      Keeping k₀ k₂ (a₂ ≡ a₀ ++ chain_observed payload chain requests (i + 1))
  chain_heard_more payload chain i requests request k₀ k₁ k₂ a₀ a₁ a₂ x at e one two =
      let done = requests_of_chain m arrival chain (take i requests) in
      let last = one_request (all_performed m arrival chain (take i requests)) request ∷ [] in
      let same : chain_observed payload chain requests i ++ x ≡ chain_observed payload chain requests (i + 1) =
      ap (λ t. chain_observed payload chain requests i ++ t) e
      ∙ sym (flat_map-append _ done last)
      ∙ ap (requests_observed arrival payload) (sym (requests-more chain i requests request at)) in
      grew_as k₀ k₂ a₀ a₂ _ _ same (grew_twice k₀ k₁ k₂ a₀ a₁ a₂ _ x one two)

  -- what was heard of the next request of a chain
  pub chain_heard_one : (front payload : List ℕ) (start : ChainState S) (now : ChainStatePlaced S) (requests : List (List ℕ)) (request : List ℕ) (i : ℕ) → ChainSoFar m arrival front start now requests i →
      request_observed arrival now.connection.dialect now.context request (credits_granted now.connection.window (header_of request).credits)
      (performed m arrival.connection_id arrival.moment now.server now.connection.dialect now.context request).response
      ≡ requests_observed arrival payload (one_request (all_performed m arrival start (take i requests)) request ∷ [])
  chain_heard_one front payload start now requests request i h =
      ap (λ t. request_observed arrival t.connection.dialect t.context request (credits_granted t.connection.window (header_of request).credits)
      (performed m arrival.connection_id arrival.moment t.server t.connection.dialect t.context request).response) h.so_far
      ∙ sym (append-nil _)

  no_ending : (connection : Connection) (payload : List ℕ) (requests : List (List ℕ)) (ending : Option Ending) → ending_of connection payload ≡ ending → admitted connection payload ≡ Some requests → ending ≡ None
  no_ending connection payload requests None e h = refl
  no_ending connection payload requests (Some ending) e h = let none = none_admitted connection payload ending e in cc

  -- a chain that was performed whole
  pub chain_heard_all : (server : ServerState S) (connection connection' : Connection) (payload : List ℕ) (requests : List (List ℕ)) (i : ℕ) (k₀ k₁ : Bool) (a₀ a₁ : List Observed) →
      admitted connection payload ≡ Some requests → connection' ≡ (chain_begun server connection requests).connection → length requests ≤ i →
      Keeping k₀ k₁ (a₁ ≡ a₀ ++ chain_observed payload (first_chain server connection') requests i) →
      Keeping k₀ k₁ (a₁ ≡ a₀ ++ (requests_observed arrival payload (chain_step m arrival server connection payload).requests ++ ending_observed arrival.connection_id (ending_of connection payload)))
  unfolding chain_step
  chain_heard_all server connection connection' payload requests i k₀ k₁ a₀ a₁ h c l one =
      let none : ending_of connection payload ≡ None = no_ending connection payload requests (ending_of connection payload) refl h in
      let whole : take i requests ≡ requests = take_all i requests l in
      let same : chain_observed payload (first_chain server connection') requests i ≡ requests_observed arrival payload (requests_of_chain m arrival (chain_begun server connection requests) requests) =
      rw (whole, c) refl in
      rw (h, none) (grew_as k₀ k₁ a₀ a₁ _ _ (same ∙ sym (append-nil _)) one)

  -- a payload that ends its connection by a rule
  pub chain_heard_none : (server : ServerState S) (connection : Connection) (payload : List ℕ) (ending : Ending) (k₀ k₁ : Bool) (a₀ a₁ : List Observed) →
      ending_of connection payload ≡ Some ending → Keeping k₀ k₁ (a₁ ≡ a₀ ++ ending_observed arrival.connection_id (Some ending)) →
      Keeping k₀ k₁ (a₁ ≡ a₀ ++ (requests_observed arrival payload (chain_step m arrival server connection payload).requests ++ ending_observed arrival.connection_id (ending_of connection payload)))
  unfolding chain_step
  chain_heard_none server connection payload ending k₀ k₁ a₀ a₁ h one = rw (h, none_admitted connection payload ending h) one

-- PAYLOADS

module _ {S : Type 0} (m : Meaning S) (arrival : Arrival) where
  abbrev all : ServerState S → Connection → List (List ℕ) → Step S
  all = payload_steps m arrival

  abbrev heard_of : ServerState S → Connection → List (List ℕ) → List Observed
  heard_of = payloads_observed m arrival

  abbrev heard_one : ServerState S → Connection → List ℕ → List Observed
  heard_one = payload_observed m arrival

  heard_some : (server : ServerState S) (connection : Connection) (held payload : List ℕ) → first longest_payload held ≡ Some payload →
      heard_of server connection (payloads longest_payload held) ≡ heard_of server connection (payload ∷ payloads longest_payload (after payload held))
  heard_some server connection held payload e = ap (heard_of server connection) (payloads-some longest_payload held payload e)

  pub heard_nothing : (server : ServerState S) (connection : Connection) (held : List ℕ) → first longest_payload held ≡ None → heard_of server connection (payloads longest_payload held) ≡ []
  heard_nothing server connection held e = ap (heard_of server connection) (payloads-none longest_payload held e)

  -- one payload further
  pub heard_more : (hears : Output → List Heard) (server : ServerState S) (connection : Connection) (held payload : List ℕ) (server' : ServerState S) (connection' : Connection) (out out' : List Heard) (held' : List ℕ)
      (k₀ k₁ k₂ : Bool) (a₀ a₁ a₂ whole : List Observed) →
      IsLeft k₀ k₁ a₀ a₁ (heard_of server connection (payloads longest_payload held)) whole → first longest_payload held ≡ Some payload →
      record { server = server'; connection = connection'; stays_open = true; out = out' } ≡ step_behind hears out (payload_step m arrival server connection payload) →
      held' ≡ after payload held → Keeping k₁ k₂ (a₂ ≡ a₁ ++ heard_one server connection payload) →
      IsLeft k₀ k₂ a₀ a₂ (heard_of server' connection' (payloads longest_payload held')) whole
  heard_more hears server connection held payload server' connection' out out' held' k₀ k₁ k₂ a₀ a₁ a₂ whole one f e p two =
      let open_still : (payload_step m arrival server connection payload).stays_open ≡ true = sym (ap (λ x. x.stays_open) e) in
      let left : heard_of server connection (payloads longest_payload held) ≡ heard_one server connection payload ++ heard_of server' connection' (payloads longest_payload held') =
      heard_some server connection held payload f ∙ rw (open_still, ap (λ x. x.server) e, ap (λ x. x.connection) e, p) refl in
      left_more k₀ k₁ k₂ a₀ a₁ a₂ _ _ _ whole one two left

  -- a payload that ends the connection
  pub heard_over : (hears : Output → List Heard) (server : ServerState S) (connection : Connection) (held payload : List ℕ) (server' : ServerState S) (connection' : Connection) (out out' : List Heard)
      (k₀ k₁ k₂ : Bool) (a₀ a₁ a₂ whole : List Observed) →
      IsLeft k₀ k₁ a₀ a₁ (heard_of server connection (payloads longest_payload held)) whole → first longest_payload held ≡ Some payload →
      record { server = server'; connection = connection'; stays_open = false; out = out' } ≡ step_behind hears out (payload_step m arrival server connection payload) →
      Keeping k₁ k₂ (a₂ ≡ a₁ ++ heard_one server connection payload) → Keeping k₀ k₂ (a₂ ≡ a₀ ++ whole)
  heard_over hears server connection held payload server' connection' out out' k₀ k₁ k₂ a₀ a₁ a₂ whole one f e two =
      let over : (payload_step m arrival server connection payload).stays_open ≡ false = sym (ap (λ x. x.stays_open) e) in
      let left : heard_of server connection (payloads longest_payload held) ≡ heard_one server connection payload ++ [] =
      heard_some server connection held payload f ∙ rw over refl in
      left_none k₀ k₂ a₀ a₂ [] whole (left_more k₀ k₁ k₂ a₀ a₁ a₂ _ _ [] whole one two left) refl

  -- no whole frame is left
  pub heard_all : (server : ServerState S) (connection : Connection) (held : List ℕ) (k₀ k₁ : Bool) (a₀ a₁ whole : List Observed) →
      IsLeft k₀ k₁ a₀ a₁ (heard_of server connection (payloads longest_payload held)) whole → first longest_payload held ≡ None → Keeping k₀ k₁ (a₁ ≡ a₀ ++ whole)
  heard_all server connection held k₀ k₁ a₀ a₁ whole one f = left_none k₀ k₁ a₀ a₁ _ whole one (heard_nothing server connection held f)

  -- payloads after payloads that leave the connection open, or end it
  on_at : (p : Step S) (o : List Observed) (xs ys : List (List ℕ)) (b : Bool) → p.stays_open ≡ b →
      ((all p.server p.connection xs).stays_open ≡ true →
      heard_of p.server p.connection (xs ++ ys) ≡ heard_of p.server p.connection xs ++ heard_of (all p.server p.connection xs).server (all p.server p.connection xs).connection ys) →
      (and_then (λ s c. all s c xs) p).stays_open ≡ true →
      o ++ (if p.stays_open then heard_of p.server p.connection (xs ++ ys) else [])
      ≡ (o ++ (if p.stays_open then heard_of p.server p.connection xs else [])) ++ heard_of (and_then (λ s c. all s c xs) p).server (and_then (λ s c. all s c xs) p).connection ys
  on_at p o xs ys false e ih h = let h' = rw e at h in cc
  on_at p o xs ys true e ih h =
      let before = all p.server p.connection xs in
      rw e (ap (λ t. o ++ t) (ih (rw e at h)) ∙ sym (append_assoc o (heard_of p.server p.connection xs) (heard_of before.server before.connection ys)))

  heard-on : (server : ServerState S) (connection : Connection) (xs ys : List (List ℕ)) → (all server connection xs).stays_open ≡ true →
      heard_of server connection (xs ++ ys) ≡ heard_of server connection xs ++ heard_of (all server connection xs).server (all server connection xs).connection ys
  heard-on server connection [] ys h = refl
  heard-on server connection (x ∷ xs) ys h =
      let p = payload_step m arrival server connection x in
      on_at p (heard_one server connection x) xs ys p.stays_open refl (heard-on p.server p.connection xs ys) h

  over_at : (p : Step S) (o : List Observed) (xs ys : List (List ℕ)) (b : Bool) → p.stays_open ≡ b →
      ((all p.server p.connection xs).stays_open ≡ false → heard_of p.server p.connection (xs ++ ys) ≡ heard_of p.server p.connection xs) →
      (and_then (λ s c. all s c xs) p).stays_open ≡ false →
      o ++ (if p.stays_open then heard_of p.server p.connection (xs ++ ys) else []) ≡ o ++ (if p.stays_open then heard_of p.server p.connection xs else [])
  over_at p o xs ys false e ih h = rw e refl
  over_at p o xs ys true e ih h = rw e (ap (λ t. o ++ t) (ih (rw e at h)))

  heard-over : (server : ServerState S) (connection : Connection) (xs ys : List (List ℕ)) → (all server connection xs).stays_open ≡ false → heard_of server connection (xs ++ ys) ≡ heard_of server connection xs
  heard-over server connection [] ys h = cc
  heard-over server connection (x ∷ xs) ys h =
      let p = payload_step m arrival server connection x in
      over_at p (heard_one server connection x) xs ys p.stays_open refl (heard-over p.server p.connection xs ys) h

  -- the connection ended in the front of a piece
  pub parts_heard_over : (hears : Output → List Heard) (s₀ : ServerState S) (c₀ : Connection) (h₀ : List Heard) (held front back piece : List ℕ) (s₁ : ServerState S) (c₁ : Connection) (h₁ : List Heard) (b₁ : List ℕ) (o : Bool) (d : ℕ)
      (k₀ k₁ : Bool) (a₀ a₁ : List Observed) →
      front ++ back ≡ piece → o ≡ false → AreTaken m hears arrival s₀ c₀ h₀ (held ++ front) s₁ c₁ h₁ b₁ o d →
      Keeping k₀ k₁ (a₁ ≡ a₀ ++ heard_of s₀ c₀ (payloads longest_payload (held ++ front))) →
      Keeping k₀ k₁ (a₁ ≡ a₀ ++ heard_of s₀ c₀ (payloads longest_payload (held ++ piece)))
  parts_heard_over hears s₀ c₀ h₀ held front back piece s₁ c₁ h₁ b₁ o d k₀ k₁ a₀ a₁ e f taken one =
      let whole : (held ++ front) ++ back ≡ held ++ piece = append_assoc held front back ∙ ap (λ t. held ++ t) e in
      let xs = payloads longest_payload (held ++ front) in
      let ys = payloads longest_payload (rest longest_payload (held ++ front) ++ back) in
      let ended : (all s₀ c₀ xs).stays_open ≡ false = sym (ap (λ p. p.stays_open) (taken_says m hears arrival s₀ c₀ h₀ (held ++ front) s₁ c₁ h₁ b₁ o d taken)) ∙ f in
      let same : heard_of s₀ c₀ xs ≡ heard_of s₀ c₀ (payloads longest_payload (held ++ piece)) =
      sym (heard-over s₀ c₀ xs ys ended) ∙ ap (heard_of s₀ c₀) (sym (payloads-more longest_payload back (held ++ front))) ∙ ap (λ t. heard_of s₀ c₀ (payloads longest_payload t)) whole in
      grew_as k₀ k₁ a₀ a₁ _ _ same one

  -- the front of a piece was taken, and then its back
  pub parts_heard : (hears : Output → List Heard) (s₀ : ServerState S) (c₀ : Connection) (h₀ : List Heard) (held front back piece : List ℕ) (s₁ : ServerState S) (c₁ : Connection) (h₁ : List Heard) (b₁ : List ℕ) (o : Bool) (d : ℕ)
      (k₀ k₁ k₂ : Bool) (a₀ a₁ a₂ : List Observed) →
      front ++ back ≡ piece → o ≡ true → AreTaken m hears arrival s₀ c₀ h₀ (held ++ front) s₁ c₁ h₁ b₁ o d →
      Keeping k₀ k₁ (a₁ ≡ a₀ ++ heard_of s₀ c₀ (payloads longest_payload (held ++ front))) →
      Keeping k₁ k₂ (a₂ ≡ a₁ ++ heard_of s₁ c₁ (payloads longest_payload (b₁ ++ back))) →
      Keeping k₀ k₂ (a₂ ≡ a₀ ++ heard_of s₀ c₀ (payloads longest_payload (held ++ piece)))
  parts_heard hears s₀ c₀ h₀ held front back piece s₁ c₁ h₁ b₁ o d k₀ k₁ k₂ a₀ a₁ a₂ e t taken one two =
      let whole : (held ++ front) ++ back ≡ held ++ piece = append_assoc held front back ∙ ap (λ t. held ++ t) e in
      let xs = payloads longest_payload (held ++ front) in
      let ys = payloads longest_payload (rest longest_payload (held ++ front) ++ back) in
      let says = taken_says m hears arrival s₀ c₀ h₀ (held ++ front) s₁ c₁ h₁ b₁ o d taken in
      let open_still : (all s₀ c₀ xs).stays_open ≡ true = sym (ap (λ p. p.stays_open) says) ∙ t in
      let left = (taken_rest m hears arrival s₀ c₀ h₀ (held ++ front) s₁ c₁ h₁ b₁ o d taken t).0 in
      let later : heard_of s₁ c₁ (payloads longest_payload (b₁ ++ back)) ≡ heard_of (all s₀ c₀ xs).server (all s₀ c₀ xs).connection ys =
      rw (ap (λ p. p.server) says, ap (λ p. p.connection) says, left) refl in
      let same : heard_of s₀ c₀ xs ++ heard_of s₁ c₁ (payloads longest_payload (b₁ ++ back)) ≡ heard_of s₀ c₀ (payloads longest_payload (held ++ piece)) =
      ap (λ t. heard_of s₀ c₀ xs ++ t) later
      ∙ sym (heard-on s₀ c₀ xs ys open_still) ∙ ap (heard_of s₀ c₀) (sym (payloads-more longest_payload back (held ++ front))) ∙ ap (λ t. heard_of s₀ c₀ (payloads longest_payload t)) whole in
      grew_as k₀ k₂ a₀ a₂ _ _ same (grew_twice k₀ k₁ k₂ a₀ a₁ a₂ _ _ one two)

  -- whole frames were taken, and of what is behind them none
  pub back_heard : (server server' : ServerState S) (connection connection' : Connection) (back left : List ℕ) (k₀ k₁ k₂ : Bool) (a₀ a₁ a₂ : List Observed) → first longest_payload left ≡ None →
      Keeping k₀ k₁ (a₁ ≡ a₀ ++ heard_of server connection (payloads longest_payload back)) →
      Keeping k₁ k₂ (a₂ ≡ a₁ ++ heard_of server' connection' (payloads longest_payload left)) →
      Keeping k₀ k₂ (a₂ ≡ a₀ ++ heard_of server connection (payloads longest_payload back))
  back_heard server server' connection connection' back left k₀ k₁ k₂ a₀ a₁ a₂ none one two =
      grew_as k₀ k₂ a₀ a₂ _ _ (ap (λ t. heard_of server connection (payloads longest_payload back) ++ t) (heard_nothing server' connection' left none) ∙ append-nil _)
      (grew_twice k₀ k₁ k₂ a₀ a₁ a₂ _ _ one two)

  -- A PIECE

  abbrev fault_heard : Bool → List ℕ → List Observed
  fault_heard open_still bytes = if open_still then ending_observed arrival.connection_id (option_map Frame (fault_of longest_payload bytes)) else []

  fault_same : (o : Bool) (b b' : List ℕ) → (o ≡ true → b ≡ b') → fault_heard o b ≡ fault_heard o b'
  fault_same true b b' h = ap (fault_heard true) (h refl)
  fault_same false b b' h = refl

  -- the payloads of a piece, and then a fault in the unread bytes
  pub piece_heard : (hears : Output → List Heard) (server : ServerState S) (stream : StreamState) (piece held : List ℕ) (h₀ : List Heard) (s₁ : ServerState S) (c₁ : Connection) (h₁ : List Heard) (b₁ : List ℕ) (o : Bool) (d : ℕ)
      (k₀ k₁ k₂ : Bool) (a₀ a₁ a₂ : List Observed) →
      Waits stream → held ≡ stream.received ++ piece → AreTaken m hears arrival server stream.connection h₀ held s₁ c₁ h₁ b₁ o d →
      Keeping k₀ k₁ (a₁ ≡ a₀ ++ heard_of server stream.connection (payloads longest_payload held)) →
      Keeping k₁ k₂ (a₂ ≡ a₁ ++ fault_heard o b₁) →
      Keeping k₀ k₂ (a₂ ≡ a₀ ++ piece_observed m arrival server stream piece)
  piece_heard hears server stream piece held h₀ s₁ c₁ h₁ b₁ o d k₀ k₁ k₂ a₀ a₁ a₂ w h taken one two =
      let added = added_payloads stream.received piece in
      let is : payloads longest_payload held ≡ added = ap (payloads longest_payload) h ∙ sym (added-waits stream piece w) in
      let says = taken_says m hears arrival server stream.connection h₀ held s₁ c₁ h₁ b₁ o d taken in
      let fate : o ≡ (all server stream.connection added).stays_open = ap (λ p. p.stays_open) says ∙ ap (λ ps. (all server stream.connection ps).stays_open) is in
      let left : o ≡ true → b₁ ≡ rest longest_payload (stream.received ++ piece) =
      λ t. (taken_rest m hears arrival server stream.connection h₀ held s₁ c₁ h₁ b₁ o d taken t).0 ∙ ap (rest longest_payload) h in
      let fault : fault_heard o b₁ ≡ fault_heard (all server stream.connection added).stays_open (rest longest_payload (stream.received ++ piece)) =
      fault_same o b₁ (rest longest_payload (stream.received ++ piece)) left ∙ ap (λ t. fault_heard t (rest longest_payload (stream.received ++ piece))) fate in
      let same : heard_of server stream.connection (payloads longest_payload held) ++ fault_heard o b₁ ≡ piece_observed m arrival server stream piece =
      ap (λ ps. heard_of server stream.connection ps ++ fault_heard o b₁) is ∙ ap (λ t. heard_of server stream.connection added ++ t) fault in
      grew_as k₀ k₂ a₀ a₂ _ _ same (grew_twice k₀ k₁ k₂ a₀ a₁ a₂ _ _ one two)

-- EVENTS

module _ {S : Type 0} (m : Meaning S) where
  -- a piece on a connection that is open, and on one that is not
  pub brought_heard : (s : ShareState S) (n moment : ℕ) (piece : List ℕ) (stream : StreamState) (k₀ k₁ : Bool) (a₀ a₁ : List Observed) → stream_of n s.streams ≡ Some stream →
      Keeping k₀ k₁ (a₁ ≡ a₀ ++ piece_observed m (arrived n moment) s.server stream piece) → Keeping k₀ k₁ (a₁ ≡ a₀ ++ event_observed m s (brings n moment piece))
  brought_heard s n moment piece stream k₀ k₁ a₀ a₁ h one = rw h one

  pub passed_heard : (s : ShareState S) (n moment : ℕ) (piece : List ℕ) (k : Bool) (a : List Observed) → stream_of n s.streams ≡ None → Keeping k k (a ≡ a ++ event_observed m s (brings n moment piece))
  passed_heard s n moment piece k a h = rw h (grew_none k a)

  -- a piece behind the rest of a stream is heard as behind the whole of it
  piece-rest : (arrival : Arrival) (server : ServerState S) (stream : StreamState) (piece : List ℕ) → piece_observed m arrival server (unread_stream stream) piece ≡ piece_observed m arrival server stream piece
  piece-rest arrival server stream piece =
      let same : rest longest_payload (rest longest_payload stream.received ++ piece) ≡ rest longest_payload (stream.received ++ piece) = sym (rest-more longest_payload piece stream.received) in
      rw (added-rest, same) refl

  brought-unread : (arrival : Arrival) (server : ServerState S) (piece : List ℕ) (o : Option StreamState) →
      option_map_or (λ (stream : StreamState). piece_observed m arrival server stream piece) (option_map unread_stream o) []
      ≡ option_map_or (λ (stream : StreamState). piece_observed m arrival server stream piece) o []
  brought-unread arrival server piece None = refl
  brought-unread arrival server piece (Some stream) = piece-rest arrival server stream piece

  event-unread : (s : ShareState S) (event : EventText) → event_observed m (unread s) event ≡ event_observed m s event
  event-unread s (opens n) = refl
  event-unread s (brings n moment piece) =
      rw (stream_of-unread (is_at (nat_cmp n)) s.streams) (brought-unread (arrived n moment) s.server piece (stream_of n s.streams))
  event-unread s (ends n) = refl

  -- one more event at the end, which is not refused
  run-heard-more : (s : ShareState S) (events others : List EventText) (event : EventText) (i : ℕ) → drop i events ≡ event ∷ others →
      (run m s (take i events)).stop ≡ None → event_refusal (run m s (take i events)).state event ≡ None →
      run_observed m s (take (i + 1) events) ≡ run_observed m s (take i events) ++ event_observed m (run m s (take i events)).state event
  run-heard-more s [] others event zero h g r = cc
  run-heard-more s (x ∷ events) others event zero h g r =
      let e : x ≡ event = cc in
      rw (e, r) (append-nil (event_observed m s event))
  run-heard-more s [] others event (suc i) h g r = cc
  run-heard-more s (x ∷ events) others event (suc i) h g r =
      let e : suc i + 1 ≡ suc (i + 1) = omega arith in
      let p = run-goes m s x (take i events) g in
      let next = (event_step m s x).state in
      let whole = run-cons m s x (take i events) p.0 in
      let r' : event_refusal (run m next (take i events)).state event ≡ None = ap (λ t. event_refusal t.state event) (sym whole) ∙ r in
      rw (e, whole, p.0) (
      ap (λ t. event_observed m s x ++ t) (run-heard-more next events others event i h p.1 r')
      ∙ sym (append_assoc (event_observed m s x) (run_observed m next (take i events)) (event_observed m (run m next (take i events)).state event))
      )

  pub run_heard_more : (start now : ShareState S) (front outputs : List Output) (events : List Event) (event : Event) (i : ℕ) (k₀ k₁ k₂ : Bool) (a₀ a₁ a₂ : List Observed) → RunSoFar m start now front outputs (events_of events) i →
      i < length events → event ≡ get_or events i event → event_refusal now (text_of event) ≡ None →
      Keeping k₀ k₁ (a₁ ≡ a₀ ++ run_observed m start (take i (events_of events))) → Keeping k₁ k₂ (a₂ ≡ a₁ ++ event_observed m now (text_of event)) →
      Keeping k₀ k₂ (a₂ ≡ a₀ ++ run_observed m start (take (i + 1) (events_of events)))
  run_heard_more start now front outputs events event i k₀ k₁ k₂ a₀ a₁ a₂ h p e r one two =
      let text = text_of event in
      let before = run m start (take i (events_of events)) in
      let same : event_observed m now text ≡ event_observed m before.state text = ap (λ s. event_observed m s text) h.state ∙ event-unread before.state text in
      let more = run-heard-more start (events_of events) (events_of (drop (i + 1) events)) text i (at_place m events event i p e) h.goes (not_refused m start now (events_of events) text i None h.state r) in
      grew_as k₀ k₂ a₀ a₂ _ _ (ap (λ t. run_observed m start (take i (events_of events)) ++ t) same ∙ sym more) (grew_twice k₀ k₁ k₂ a₀ a₁ a₂ _ _ one two)

  pub run_heard_all : (start : ShareState S) (events : List Event) (i : ℕ) (k₀ k₁ : Bool) (a₀ a₁ : List Observed) → length events ≤ i →
      Keeping k₀ k₁ (a₁ ≡ a₀ ++ run_observed m start (take i (events_of events))) → Keeping k₀ k₁ (a₁ ≡ a₀ ++ run_observed m start (events_of events))
  run_heard_all start events i k₀ k₁ a₀ a₁ p one =
      let q : length (events_of events) ≤ i = rw length-map p in
      grew_as k₀ k₁ a₀ a₁ _ _ (ap (run_observed m start) (take_all i (events_of events) q)) one
