-- Who observes a run hears of each connection that the share ends, and of no other.
use Rattle.std.proofs.Common.{◌≡◌, ℕ, Bool, true, false, ◌&&◌, not, List, [], ◌∷◌, ◌++◌, Option, None, Some, is_some, is_none, refl, sym, ap, ◌∙◌, if◌then◌else◌}
use Rattle.std.specs.Option.{option_map, option_map_or}
use Rattle.std.proofs.lemmas.Grind.{flat_map-append}
use Rattle.smb_wire.specs.Limits.{longest_payload}
use Rattle.smb_frame.specs.Reading.{fault_of, rest}
use Rattle.smb_frame.specs.declared.fault.FrameFault.{FrameFault}
use Rattle.smb_body.specs.declared.smb1.Smb1Dialects.{Smb1Dialects}
use Rattle.smb_session.specs.Authenticator.{Meaning}
use Rattle.smb_request.specs.State.{ServerState}
use Rattle.smb_request.specs.Response.{ResponseState}
use Rattle.smb_peers.specs.Event.{EventText, opens, brings, ends}
use Rattle.smb_peers.specs.Observed.{Observed}
use Rattle.smb_peers.specs.declared.ending.Ending.{Ending}
use Rattle.smb_peers.specs.declared.ending.Ending.TheVariants.{Frame}
use Rattle.smb_engine.specs.declared.arrival.Arrival.{Arrival}
use Rattle.smb_engine.specs.declared.connection.Connection.{Connection}
use Rattle.smb_engine.specs.declared.fault.ServeFault.{ServeFault}
use Rattle.smb_engine.specs.Laws.{ends_put_out, ends_heard, EachEndIsHeard}
use Rattle.smb_engine.specs.Observed.{response_observed, request_observed, requests_observed, smb1_observed, ending_observed, smb1_ending, payload_ending, payload_observed, payloads_observed, piece_observed, event_observed, run_observed}
use Rattle.smb_engine.specs.Output.{Output, end_of, reply_frame}
use Rattle.smb_engine.specs.Parts.{added_payloads, and_then, first_negotiate, framed_chain, chain_begun, refused_at_once, refused_step, then_ran}
use Rattle.smb_engine.specs.Run.{PerformedRequest, Step, admitted, ending_of, smb1_step, chain_step, payload_step, payload_steps, piece_step, bytes_step, EventStep, event_step, event_refusal, Ran, run}
use Rattle.smb_engine.specs.State.{StreamState, ShareState, stream_of}
use Rattle.smb_engine.proofs.Chains.{payload_whole}
use Rattle.smb_engine.proofs.Endings.{admitted_or_ends}
use Rattle.smb_engine.proofs.Streams.{arrived, bytes_step-none, bytes_step-some}

heard_both : (xs ys : List Observed) → ends_heard (xs ++ ys) ≡ ends_heard xs ++ ends_heard ys
heard_both xs ys = flat_map-append _ xs ys

put_both : (xs ys : List Output) → ends_put_out (xs ++ ys) ≡ ends_put_out xs ++ ends_put_out ys
put_both xs ys = flat_map-append _ xs ys

-- requests end nothing, and neither do replies
response_ends_none : (n credits : ℕ) (request : List ℕ) (response : Option ResponseState) → ends_heard (response_observed n request credits response) ≡ []
response_ends_none n credits request None = refl
response_ends_none n credits request (Some response) = refl

requests_end_none : {S : Type 0} (arrival : Arrival) (payload : List ℕ) (requests : List (PerformedRequest S)) → ends_heard (requests_observed arrival payload requests) ≡ []
requests_end_none arrival payload [] = refl
requests_end_none {S} arrival payload (x ∷ requests) =
    let one : Option (List ℕ) → List Observed = λ o. option_map_or (λ request. request_observed arrival x.dialect x.context request x.credits x.response) o (smb1_observed arrival.connection_id payload x.credits) in
    heard_both (one x.request) (requests_observed arrival payload requests) ∙ by x.request (requests_end_none arrival payload requests)
  where
    by : (o : Option (List ℕ)) → ends_heard (requests_observed arrival payload requests) ≡ [] →
        ends_heard (option_map_or (λ request. request_observed arrival x.dialect x.context request x.credits x.response) o (smb1_observed arrival.connection_id payload x.credits))
        ++ ends_heard (requests_observed arrival payload requests) ≡ []
    by None h = h
    by (Some request) h = rw (response_ends_none arrival.connection_id x.credits request x.response) h

frame_ends_none : (n : ℕ) (replies : List ℕ) → ends_put_out (reply_frame n replies) ≡ []
frame_ends_none n [] = refl
frame_ends_none n (byte ∷ replies) = refl

module _ {S : Type 0} (m : Meaning S) (arrival : Arrival) where
  abbrev n : ℕ
  n = arrival.connection_id

  abbrev end_if : Bool → List ℕ
  end_if stays_open = if stays_open then [] else n ∷ []

  -- a payload ends its connection just where a rule says why
  chain_at : (server : ServerState S) (connection : Connection) (o : Option (List (List ℕ))) (e : Option Ending) → is_some o ≡ not (is_some e) →
      (option_map_or (λ requests. framed_chain m arrival (chain_begun server connection requests) requests) o (refused_step server connection)).stays_open ≡ is_none e
  chain_at server connection None None h = cc
  chain_at server connection None (Some ending) h = refl
  chain_at server connection (Some requests) None h = refl
  chain_at server connection (Some requests) (Some ending) h = cc

  chain_stays : (server : ServerState S) (connection : Connection) (payload : List ℕ) → (chain_step m arrival server connection payload).stays_open ≡ is_none (ending_of connection payload)
  unfolding chain_step
  chain_stays server connection payload = chain_at server connection (admitted connection payload) (ending_of connection payload) (admitted_or_ends connection payload)

  smb1_at : (server : ServerState S) (connection : Connection) (wildcard smb_2_002 : Bool) →
      (smb1_step m arrival server connection (record { smb_2_wildcard = wildcard; smb_2_002 = smb_2_002 })).stays_open ≡ is_none (smb1_ending (record { smb_2_wildcard = wildcard; smb_2_002 = smb_2_002 }))
  unfolding smb1_step
  smb1_at server connection true smb_2_002 = refl
  smb1_at server connection false true = refl
  smb1_at server connection false false = refl

  stays_at : (server : ServerState S) (connection : Connection) (payload : List ℕ) (o : Option Smb1Dialects) →
      (option_map_or (smb1_step m arrival server connection) o (chain_step m arrival server connection payload)).stays_open ≡ is_none (option_map_or smb1_ending o (ending_of connection payload))
  stays_at server connection payload None = chain_stays server connection payload
  stays_at server connection payload (Some dialects) = smb1_at server connection dialects.smb_2_wildcard dialects.smb_2_002

  stays_is : (server : ServerState S) (connection : Connection) (payload : List ℕ) → (payload_step m arrival server connection payload).stays_open ≡ is_none (payload_ending connection payload)
  unfolding payload_step
  stays_is server connection payload = stays_at server connection payload (first_negotiate connection payload)

  ending_ends : (ending : Option Ending) → ends_heard (ending_observed n ending) ≡ end_if (is_none ending)
  ending_ends None = refl
  ending_ends (Some rule) = refl

  payload_heard : (server : ServerState S) (connection : Connection) (payload : List ℕ) →
      ends_heard (payload_observed m arrival server connection payload) ≡ end_if (payload_step m arrival server connection payload).stays_open
  payload_heard server connection payload =
      let requests = (payload_step m arrival server connection payload).requests in
      heard_both (requests_observed arrival payload requests) (ending_observed n (payload_ending connection payload))
      ∙ ap (λ t. t ++ ends_heard (ending_observed n (payload_ending connection payload))) (requests_end_none arrival payload requests)
      ∙ ending_ends (payload_ending connection payload)
      ∙ ap end_if (sym (stays_is server connection payload))

  payload_put : (server : ServerState S) (connection : Connection) (payload : List ℕ) → ends_put_out (payload_step m arrival server connection payload).outputs ≡ []
  payload_put server connection payload =
      let framed = (payload_whole m arrival server connection payload).framed in
      ap ends_put_out framed.1 ∙ frame_ends_none n framed.0

  -- payloads in order
  abbrev all : ServerState S → Connection → List (List ℕ) → Step S
  all = payload_steps m arrival

  put_at : (p : Step S) (xs : List (List ℕ)) (b : Bool) → p.stays_open ≡ b → ends_put_out p.outputs ≡ [] → ends_put_out (all p.server p.connection xs).outputs ≡ [] →
      ends_put_out (and_then (λ s c. all s c xs) p).outputs ≡ []
  put_at p xs true e h ih = rw e (put_both p.outputs (all p.server p.connection xs).outputs ∙ ap (λ t. t ++ ends_put_out (all p.server p.connection xs).outputs) h ∙ ih)
  put_at p xs false e h ih = rw e h

  steps_put : (server : ServerState S) (connection : Connection) (xs : List (List ℕ)) → ends_put_out (all server connection xs).outputs ≡ []
  steps_put server connection [] = refl
  steps_put server connection (x ∷ xs) =
      let p = payload_step m arrival server connection x in
      put_at p xs p.stays_open refl (payload_put server connection x) (steps_put p.server p.connection xs)

  heard_at : (p : Step S) (o : List Observed) (xs : List (List ℕ)) (b : Bool) → p.stays_open ≡ b → ends_heard o ≡ end_if p.stays_open →
      ends_heard (payloads_observed m arrival p.server p.connection xs) ≡ end_if (all p.server p.connection xs).stays_open →
      ends_heard (o ++ (if p.stays_open then payloads_observed m arrival p.server p.connection xs else [])) ≡ end_if (and_then (λ s c. all s c xs) p).stays_open
  heard_at p o xs true e h ih =
      let later = payloads_observed m arrival p.server p.connection xs in
      rw e (heard_both o later ∙ ap (λ t. t ++ ends_heard later) (rw e at h) ∙ ih)
  heard_at p o xs false e h ih = rw e (heard_both o [] ∙ ap (λ t. t ++ []) (rw e at h))

  steps_heard : (server : ServerState S) (connection : Connection) (xs : List (List ℕ)) → ends_heard (payloads_observed m arrival server connection xs) ≡ end_if (all server connection xs).stays_open
  steps_heard server connection [] = refl
  steps_heard server connection (x ∷ xs) =
      let p = payload_step m arrival server connection x in
      heard_at p (payload_observed m arrival server connection x) xs p.stays_open refl (payload_heard server connection x) (steps_heard p.server p.connection xs)

  -- a piece: the end of a connection is put out where a payload or a fault ends it, and heard there
  closed_at : (outputs : List Output) (o : List Observed) (b : Bool) (fault : Option FrameFault) → ends_put_out outputs ≡ [] → ends_heard o ≡ end_if b →
      ends_put_out (if b && is_none fault then outputs else outputs ++ end_of n ∷ []) ≡ ends_heard (o ++ (if b then ending_observed n (option_map Frame fault) else []))
  closed_at outputs o true None h k = h ∙ sym (heard_both o [] ∙ ap (λ t. t ++ []) k)
  closed_at outputs o true (Some fault) h k =
      put_both outputs (end_of n ∷ []) ∙ ap (λ t. t ++ n ∷ []) h ∙ sym (heard_both o (ending_observed n (Some (Frame fault))) ∙ ap (λ t. t ++ n ∷ []) k)
  closed_at outputs o false fault h k = put_both outputs (end_of n ∷ []) ∙ ap (λ t. t ++ n ∷ []) h ∙ sym (heard_both o [] ∙ ap (λ t. t ++ []) k)

  piece_ends : (server : ServerState S) (stream : StreamState) (piece : List ℕ) → ends_put_out (piece_step m arrival server stream piece).outputs ≡ ends_heard (piece_observed m arrival server stream piece)
  unfolding piece_step
  piece_ends server stream piece =
      let added = added_payloads stream.received piece in
      let steps = all server stream.connection added in
      closed_at steps.outputs (payloads_observed m arrival server stream.connection added) steps.stays_open (fault_of longest_payload (rest longest_payload (stream.received ++ piece)))
      (steps_put server stream.connection added) (steps_heard server stream.connection added)

module _ {S : Type 0} (m : Meaning S) where
  bytes_ends : (s : ShareState S) (n moment : ℕ) (piece : List ℕ) (o : Option StreamState) → stream_of n s.streams ≡ o →
      ends_put_out (bytes_step m s n moment piece).outputs ≡ ends_heard (event_observed m s (brings n moment piece))
  bytes_ends s n moment piece None h = rw (bytes_step-none m s n moment piece h, h) refl
  bytes_ends s n moment piece (Some stream) h = rw (bytes_step-some m s n moment piece stream h, h) (piece_ends m (arrived n moment) s.server stream piece)

  event_ends : (s : ShareState S) (event : EventText) → ends_put_out (event_step m s event).outputs ≡ ends_heard (event_observed m s event)
  event_ends s (opens n) = refl
  event_ends s (brings n moment piece) = bytes_ends s n moment piece (stream_of n s.streams) refl
  event_ends s (ends n) = refl

  run_at : (s : ShareState S) (d : EventStep S) (r : Ran S) (a b : List Observed) (o : Option ServeFault) → ends_put_out d.outputs ≡ ends_heard a → ends_put_out r.outputs ≡ ends_heard b →
      ends_put_out (option_map_or (refused_at_once s) o (then_ran d r)).outputs ≡ ends_heard (option_map_or (λ (fault : ServeFault). []) o (a ++ b))
  run_at s d r a b None h k = put_both d.outputs r.outputs ∙ ap (λ t. t ++ ends_put_out r.outputs) h ∙ ap (λ t. ends_heard a ++ t) k ∙ sym (heard_both a b)
  run_at s d r a b (Some why) h k = refl

  pub each_end_is_heard : EachEndIsHeard m
  each_end_is_heard s [] = refl
  each_end_is_heard s (event ∷ events) =
      let d = event_step m s event in
      run_at s d (run m d.state events) (event_observed m s event) (run_observed m d.state events) (event_refusal s event) (event_ends s event) (each_end_is_heard d.state events)
