-- A piece on a connection: what the code holds is the rest of the stream.
use Rattle.std.proofs.Common.{◌≡◌, ℕ, ◌&&◌, Bool, true, false, List, [], ◌∷◌, ◌++◌, length, drop, Option, None, Some, IsTrue, is_none, refl, sym, ap, ◌∙◌, append_assoc, arith}
use Rattle.std.specs.List.{flat_map}
use Rattle.std.proofs.lemmas.List.{drop_at}
use Rattle.std.proofs.lemmas.Bool.{and_parts, false≢true}
use Rattle.std.proofs.lemmas.Grind.{flat_map-append}
use Rattle.smb_frame.specs.Reading.{first, fault_of, payloads, rest}
use Rattle.smb_frame.specs.Unread.{Unread, with_piece}
use Rattle.smb_frame.proofs.Streams.{payloads-more, rest-none}
use Rattle.smb_session.specs.Window.{GoodWindow}
use Rattle.smb_engine.specs.declared.arrival.Arrival.{Arrival}
use Rattle.smb_engine.specs.declared.connection.Connection.{Connection}
use Rattle.smb_session.specs.Authenticator.{Meaning}
use Rattle.smb_request.specs.State.{ServerState}
use Rattle.std.specs.Option.{option_map_or}
use Rattle.smb_wire.specs.Limits.{longest_payload}
use Rattle.smb_body.specs.declared.smb1.Smb1Dialects.{Smb1Dialects}
use Rattle.smb_request.specs.declared.smb1.Smb1Answer.{Smb1Answer}
use Rattle.smb_request.specs.Smb1.{answer_to_smb1}
use Rattle.smb_request.specs.Request.{performed}
use Rattle.smb_request.specs.Response.{Performed}
use Rattle.smb_engine.specs.State.{StreamState, new_stream}
use Rattle.smb_engine.specs.Output.{AreShort, Output, end_of}
use Rattle.smb_engine.specs.Sink.{Heard}
use Rattle.smb_engine.specs.Parts.{added_payloads, replied, chain_begun, and_then, framed_chain, all_performed, refused_step, first_negotiate, server_after}
use Rattle.smb_engine.specs.Run.{ChainState, one_performed, admitted, Step, smb1_step, chain_step, payload_step, payload_steps, piece_step}
use Rattle.smb_engine.specs.Held.{Waits, IsPieceHeld, StoppedAfter}
use Rattle.smb_engine.specs.InPlace.{step_behind}
use Rattle.smb_engine.proofs.Short.{with_end}

-- what a piece adds to a stream are the payloads of its rest with the piece
pub added_is : (received piece : List ℕ) → added_payloads received piece ≡ payloads longest_payload (rest longest_payload received ++ piece)
added_is received piece =
    ap (drop (length (payloads longest_payload received))) (payloads-more longest_payload piece received)
    ∙ drop_at (payloads longest_payload received) (payloads longest_payload (rest longest_payload received ++ piece)) (length (payloads longest_payload received)) refl

pub added-waits : (stream : StreamState) (piece : List ℕ) → Waits stream → added_payloads stream.received piece ≡ payloads longest_payload (stream.received ++ piece)
added-waits stream piece w = added_is stream.received piece ∙ ap (λ b. payloads longest_payload (b ++ piece)) (rest-none longest_payload stream.received w.partial)

-- what a buffer holds after a piece
pub held_with : (stream : StreamState) (before after : Unread) (piece : List ℕ) → before.limit ≡ longest_payload → before.bytes ≡ stream.received → Waits stream →
    after ≡ with_piece before piece → (after.limit ≡ longest_payload) × (after.bytes ≡ stream.received ++ piece)
held_with stream before after piece e b w h =
    let sound : fault_of before.limit before.bytes ≡ None = rw (e, b) w.sound in
    let test : is_none (fault_of before.limit before.bytes) ≡ true = rw sound refl in
    let all : after ≡ record before { done = 0; bytes = before.bytes ++ piece } = h ∙ rw test refl in
    (ap (λ u. u.limit) all ∙ e, ap (λ u. u.bytes) all ∙ ap (λ t. t ++ piece) b)

none_is : {X : Type 0} (o : Option X) → is_none o ≡ true → o ≡ None
none_is None h = refl
none_is (Some x) h = absurd (false≢true h)

over_at : (open_still : Bool) {a b : List ℕ} → (IsTrue open_still → a ≡ b) → false ≡ (open_still && is_none (fault_of longest_payload a)) → (open_still && is_none (fault_of longest_payload b)) ≡ false
over_at false r x = refl
over_at true {a = a} {b = b} r x = rw (← r refl) (sym x)

module _ {S : Type 0} (m : Meaning S) (arrival : Arrival) where
  -- the requests of a piece are those of its payloads
  pub stopped_in : (server : ServerState S) (stream : StreamState) (piece held : List ℕ) (k : ℕ) (left : ServerState S) → Waits stream → held ≡ stream.received ++ piece →
      StoppedAfter server (payload_steps m arrival server stream.connection (payloads longest_payload held)) k left → StoppedAfter server (piece_step m arrival server stream piece) k left
  unfolding piece_step
  stopped_in server stream piece held k left w h e =
      let same : payload_steps m arrival server stream.connection (payloads longest_payload held) ≡ payload_steps m arrival server stream.connection (added_payloads stream.received piece) =
      ap (λ b. payload_steps m arrival server stream.connection (payloads longest_payload b)) h ∙ ap (payload_steps m arrival server stream.connection) (sym (added-waits stream piece w)) in
      record {
        within = let n = ap (λ s. length s.requests) same in omega (arith, n, e.within);
        state = e.state ∙ ap (λ s. server_after server s.requests k) same;
      }

  -- what a piece puts out is short where what its payloads put out is
  pub short_in : (server : ServerState S) (stream : StreamState) (piece held : List ℕ) → Waits stream → held ≡ stream.received ++ piece →
      AreShort (payload_steps m arrival server stream.connection (payloads longest_payload held)).outputs → AreShort (piece_step m arrival server stream piece).outputs
  unfolding piece_step
  short_in server stream piece held w h short =
      let same : payload_steps m arrival server stream.connection (payloads longest_payload held) ≡ payload_steps m arrival server stream.connection (added_payloads stream.received piece) =
      ap (λ b. payload_steps m arrival server stream.connection (payloads longest_payload b)) h ∙ ap (payload_steps m arrival server stream.connection) (sym (added-waits stream piece w)) in
      let step = payload_steps m arrival server stream.connection (added_payloads stream.received piece) in
      with_end (step.stays_open && is_none (fault_of longest_payload (rest longest_payload (stream.received ++ piece)))) step.outputs arrival.connection_id (rw same at short)

  -- what the added payloads come to
  unfoldable pub steps_by : ServerState S → StreamState → List ℕ → Step S
  steps_by server stream piece = payload_steps m arrival server stream.connection (added_payloads stream.received piece)

  steps-held : (server : ServerState S) (stream : StreamState) (piece held : List ℕ) → Waits stream → held ≡ stream.received ++ piece →
      payload_steps m arrival server stream.connection (payloads longest_payload held) ≡ steps_by server stream piece
  unfolding steps_by
  steps-held server stream piece held w h = rw (added-waits stream piece w, h) refl

  pub step-open : (server : ServerState S) (stream : StreamState) (piece : List ℕ) → ((steps_by server stream piece).stays_open && is_none (fault_of longest_payload (rest longest_payload (stream.received ++ piece)))) ≡ true →
      piece_step m arrival server stream piece ≡ record (steps_by server stream piece) { stays_open = true }
  unfolding piece_step steps_by
  step-open server stream piece t = rw t refl

  pub step-over : (server : ServerState S) (stream : StreamState) (piece : List ℕ) → ((steps_by server stream piece).stays_open && is_none (fault_of longest_payload (rest longest_payload (stream.received ++ piece)))) ≡ false →
      piece_step m arrival server stream piece ≡ record (steps_by server stream piece) { outputs = (steps_by server stream piece).outputs ++ end_of arrival.connection_id ∷ []; stays_open = false }
  unfolding piece_step steps_by
  step-over server stream piece t = rw t refl

  -- a connection of which no payload came is a new one
  abbrev IsFresh : Connection → Type 0
  IsFresh connection = connection.payload_came ≡ false → connection ≡ new_stream.connection

  came_replied : (connection : ℕ) (now : ChainState S) (request : List ℕ) (p : Performed S) → (replied connection now request p).connection.payload_came ≡ now.connection.payload_came
  came_replied connection now request p = elim (p.response) as (λ r. (replied connection now request (record p { response = r })).connection.payload_came ≡ now.connection.payload_came) [ None ↦ refl | Some response ↦ refl ]

  came_one : (now : ChainState S) (request : List ℕ) → (one_performed m arrival now request).connection.payload_came ≡ now.connection.payload_came
  unfolding one_performed
  came_one now request = came_replied arrival.connection_id now request (performed m arrival.connection_id arrival.moment now.server now.connection.dialect now.context request)

  came_all : (now : ChainState S) (requests : List (List ℕ)) → (all_performed m arrival now requests).connection.payload_came ≡ now.connection.payload_came
  came_all now [] = refl
  came_all now (request ∷ requests) = came_all (one_performed m arrival now request) requests ∙ came_one now request

  fresh_chain_at : (server : ServerState S) (connection : Connection) (requests : Option (List (List ℕ))) → IsFresh connection →
      IsFresh (option_map_or (λ requests. framed_chain m arrival (chain_begun server connection requests) requests) requests (refused_step server connection)).connection
  fresh_chain_at server connection None f = f
  fresh_chain_at server connection (Some requests) f = λ t. absurd (false≢true (sym t ∙ came_all (chain_begun server connection requests) requests))

  fresh_chain : (server : ServerState S) (connection : Connection) (payload : List ℕ) → IsFresh connection → IsFresh (chain_step m arrival server connection payload).connection
  unfolding chain_step
  fresh_chain server connection payload f = fresh_chain_at server connection (admitted connection payload) f

  fresh_first_at : (server : ServerState S) (connection : Connection) (answer : Option Smb1Answer) (step : Smb1Answer → Step S) → ((answer : Smb1Answer) → (step answer).connection.payload_came ≡ true) → IsFresh connection →
      IsFresh (option_map_or step answer (refused_step server connection)).connection
  fresh_first_at server connection None step h f = f
  fresh_first_at server connection (Some answer) step h f = λ t. absurd (false≢true (sym t ∙ h answer))

  fresh_first : (server : ServerState S) (connection : Connection) (dialects : Smb1Dialects) → IsFresh connection → IsFresh (smb1_step m arrival server connection dialects).connection
  unfolding smb1_step
  fresh_first server connection dialects f = fresh_first_at server connection (answer_to_smb1 dialects) _ (λ answer. refl) f

  fresh_payload_at : (server : ServerState S) (connection : Connection) (payload : List ℕ) (first : Option Smb1Dialects) → IsFresh connection →
      IsFresh (option_map_or (smb1_step m arrival server connection) first (chain_step m arrival server connection payload)).connection
  fresh_payload_at server connection payload None f = fresh_chain server connection payload f
  fresh_payload_at server connection payload (Some dialects) f = fresh_first server connection dialects f

  fresh_payload : (server : ServerState S) (connection : Connection) (payload : List ℕ) → IsFresh connection → IsFresh (payload_step m arrival server connection payload).connection
  unfolding payload_step
  fresh_payload server connection payload f = fresh_payload_at server connection payload (first_negotiate connection payload) f

  fresh_then : (step : Step S) (others : ServerState S → Connection → Step S) (b : Bool) → step.stays_open ≡ b → IsFresh step.connection →
      (IsFresh step.connection → IsFresh (others step.server step.connection).connection) → IsFresh (and_then others step).connection
  fresh_then step others true e f h = rw e (h f)
  fresh_then step others false e f h = rw e f

  fresh_steps : (server : ServerState S) (connection : Connection) (payloads : List (List ℕ)) → IsFresh connection → IsFresh (payload_steps m arrival server connection payloads).connection
  fresh_steps server connection [] f = f
  fresh_steps server connection (payload ∷ payloads) f =
      let step = payload_step m arrival server connection payload in
      fresh_then step (λ s c. payload_steps m arrival s c payloads) step.stays_open refl (fresh_payload server connection payload f) (fresh_steps step.server step.connection payloads)

  -- the connection stays open
  pub stays_as : (hears : Output → List Heard) (server : ServerState S) (stream : StreamState) (piece held held' : List ℕ) (server' : ServerState S) (connection' : Connection) (heard heard' : List Heard) (open_still : Bool) →
      Waits stream → held ≡ stream.received ++ piece →
      record { server = server'; connection = connection'; stays_open = open_still; out = heard' } ≡ step_behind hears heard (payload_steps m arrival server stream.connection (payloads longest_payload held)) →
      (IsTrue open_still → (held' ≡ rest longest_payload held) × (first longest_payload held' ≡ None)) → true ≡ (open_still && is_none (fault_of longest_payload held')) →
      GoodWindow connection'.window →
      IsPieceHeld stream.received piece (piece_step m arrival server stream piece) server' (record { received = held'; connection = connection' }) true
      × (heard' ≡ heard ++ flat_map hears (piece_step m arrival server stream piece).outputs)
  stays_as hears server stream piece held held' server' connection' heard heard' open_still w h e r x few =
      let parts = and_parts open_still (is_none (fault_of longest_payload held')) (sym x) in
      let left = r parts.0 in
      let all = e ∙ ap (step_behind hears heard) (steps-held server stream piece held w h) in
      let same_rest : held' ≡ rest longest_payload (stream.received ++ piece) = left.0 ∙ ap (rest longest_payload) h in
      let test : ((steps_by server stream piece).stays_open && is_none (fault_of longest_payload (rest longest_payload (stream.received ++ piece)))) ≡ true =
      rw (← ap (λ s. s.stays_open) all, ← same_rest) (sym x) in
      rw (step-open server stream piece test) (
        record {
          same = ap (λ s. s.server) all;
          fate = refl;
          rests = λ t. rw (same_rest, ap (λ s. s.connection) all) refl;
          waits = λ t. record {
            partial = left.1;
            sound = none_is _ parts.1;
            window = few;
            fresh = rw (ap (λ s. s.connection) e) (fresh_steps server stream.connection (payloads longest_payload held) w.fresh);
          };
        },
        ap (λ s. s.out) all,
      )

  pub ends_as : (hears : Output → List Heard) (server : ServerState S) (stream stream' : StreamState) (piece held held' : List ℕ) (server' : ServerState S) (connection' : Connection) (heard heard' : List Heard) (open_still : Bool) →
      Waits stream → held ≡ stream.received ++ piece →
      record { server = server'; connection = connection'; stays_open = open_still; out = heard' } ≡ step_behind hears heard (payload_steps m arrival server stream.connection (payloads longest_payload held)) →
      (IsTrue open_still → (held' ≡ rest longest_payload held) × (first longest_payload held' ≡ None)) → false ≡ (open_still && is_none (fault_of longest_payload held')) →
      IsPieceHeld stream.received piece (piece_step m arrival server stream piece) server' stream' false
      × (heard' ++ flat_map hears (end_of arrival.connection_id ∷ []) ≡ heard ++ flat_map hears (piece_step m arrival server stream piece).outputs)
  ends_as hears server stream stream' piece held held' server' connection' heard heard' open_still w h e r x =
      let all = e ∙ ap (step_behind hears heard) (steps-held server stream piece held w h) in
      let test : ((steps_by server stream piece).stays_open && is_none (fault_of longest_payload (rest longest_payload (stream.received ++ piece)))) ≡ false =
      rw (← ap (λ s. s.stays_open) all) (over_at open_still (λ t. (r t).0 ∙ ap (rest longest_payload) h) x) in
      rw (step-over server stream piece test) (
        record { same = ap (λ s. s.server) all; fate = refl; rests = λ t. absurd (false≢true t); waits = λ t. absurd (false≢true t) },
        ap (λ t. t ++ flat_map hears (end_of arrival.connection_id ∷ [])) (ap (λ s. s.out) all) ∙ append_assoc heard (flat_map hears (steps_by server stream piece).outputs) (flat_map hears (end_of arrival.connection_id ∷ []))
            ∙ ap (λ t. heard ++ t) (sym (flat_map-append hears (steps_by server stream piece).outputs (end_of arrival.connection_id ∷ []))),
      )
