-- The connection of a client who keeps the rules stays open.
use Rattle.std.proofs.Common.{◌≡◌, ◌≢◌, ℕ, eqb, Bool, true, false, ◌||◌, List, [], ◌∷◌, ◌++◌, Option, None, Some, is_some, is_eq, refl, sym, ap, subst, ◌∙◌}
use Rattle.std.specs.Option.{option_map_or}
use Rattle.std.specs.declared.cmp.Ordering.{Ordering}
use Rattle.std.specs.declared.cmp.Ordering.TheVariants.{Less, Equal, Greater}
use Rattle.std.specs.BTreeMap.{is_at, insert_entry}
use Rattle.std.specs.Ordering.{nat_cmp}
use Rattle.std.proofs.lemmas.Bool.{eqb-true, ne_eqb}
use Rattle.smb_wire.specs.Limits.{longest_payload}
use Rattle.smb_frame.specs.Reading.{rest, fault_of}
use Rattle.smb_body.specs.declared.smb1.Smb1Dialects.{Smb1Dialects}
use Rattle.smb_session.specs.Authenticator.{Meaning}
use Rattle.smb_request.specs.declared.smb1.Smb1Answer.{Smb1Answer}
use Rattle.smb_request.specs.Smb1.{answer_to_smb1}
use Rattle.smb_request.specs.State.{ServerState}
use Rattle.smb_peers.specs.Event.{EventText, opens, brings, ends, connection_of}
use Rattle.smb_serving.specs.Happenings.{Happening, performed, cut_short, event_of, happening_step, run_of}
use Rattle.smb_engine.specs.declared.connection.Connection.{Connection}
use Rattle.smb_engine.specs.declared.fault.ServeFault.{ServeFault}
use Rattle.smb_engine.specs.Parts.{added_payloads, and_then, settled, first_negotiate, refused_step, framed_chain, chain_begun, refused_at_once, then_ran}
use Rattle.smb_engine.specs.Refusals.{stopped}
use Rattle.smb_engine.specs.Run.{Step, admitted, smb1_step, chain_step, payload_step, payload_steps, piece_step, bytes_step, event_refusal}
use Rattle.smb_engine.specs.State.{StreamState, ShareState, stream_of, is_open, opened, ended, new_stream}
use Rattle.smb_request.proofs.Numbered.{at_same}
use Rattle.smb_engine.proofs.Order.{lookup-set, other_set, other_without, other_insert}
use Rattle.smb_engine.proofs.Streams.{arrived, bytes_step-none, bytes_step-some}
use Rattle.smb_run_laws.specs.Rules.{is_allowed, AreAllowed, IsAllowedPiece, LetsGoOn, LetGoOn}

open_by : (o : Option StreamState) → is_some o ≡ true → (stream : StreamState) × (o ≡ Some stream)
open_by None e = cc
open_by (Some stream) e = (stream, refl)

module _ {S : Type 0} (m : Meaning S) (n moment : ℕ) where
  module _ (server : ServerState S) (connection : Connection) where
    -- a payload that is allowed does not end its connection
    chain_at : (o : Option (List (List ℕ))) → is_some o ≡ true →
        (option_map_or (λ requests. framed_chain m (arrived n moment) (chain_begun server connection requests) requests) o (refused_step server connection)).stays_open ≡ true
    chain_at None e = cc
    chain_at (Some requests) e = refl

    chain_stays : (payload : List ℕ) → is_some (admitted connection payload) ≡ true → (chain_step m (arrived n moment) server connection payload).stays_open ≡ true
    unfolding chain_step
    chain_stays payload e = chain_at (admitted connection payload) e

    smb1_by : (wildcard old : Bool) (answer : Bool → Bool → Option Smb1Answer) (f : Smb1Answer → Step S) → ((it : Smb1Answer) → (f it).stays_open ≡ true) →
        is_some (answer wildcard old) ≡ true → (option_map_or f (answer wildcard old) (refused_step server connection)).stays_open ≡ true
    smb1_by wildcard old answer f all e =
        elim (answer wildcard old) as (λ o. is_some o ≡ true → (option_map_or f o (refused_step server connection)).stays_open ≡ true) [
          | None ↦ λ h. cc
          | Some it ↦ λ h. all it
        ] e

    answered_by : (dialects : Smb1Dialects) (wildcard old : Bool) → dialects.smb_2_wildcard ≡ wildcard → dialects.smb_2_002 ≡ old → (wildcard || old) ≡ true → is_some (answer_to_smb1 dialects) ≡ true
    answered_by dialects true old e f h = rw e refl
    answered_by dialects false true e f h = rw (e, f) refl
    answered_by dialects false false e f h = cc

    smb1_stays : (dialects : Smb1Dialects) → (dialects.smb_2_wildcard || dialects.smb_2_002) ≡ true → (smb1_step m (arrived n moment) server connection dialects).stays_open ≡ true
    unfolding smb1_step
    smb1_stays dialects e =
        smb1_by dialects.smb_2_wildcard dialects.smb_2_002 (λ wildcard old. answer_to_smb1 dialects) _ (λ it. refl)
        (answered_by dialects dialects.smb_2_wildcard dialects.smb_2_002 refl refl e)

    payload_at : (payload : List ℕ) (first : Option Smb1Dialects) → option_map_or (λ dialects. dialects.smb_2_wildcard || dialects.smb_2_002) first (is_some (admitted connection payload)) ≡ true →
        (option_map_or (smb1_step m (arrived n moment) server connection) first (chain_step m (arrived n moment) server connection payload)).stays_open ≡ true
    payload_at payload None e = chain_stays payload e
    payload_at payload (Some dialects) e = smb1_stays dialects e

    payload_stays : (payload : List ℕ) → is_allowed connection payload ≡ true → (payload_step m (arrived n moment) server connection payload).stays_open ≡ true
    unfolding payload_step
    payload_stays payload e = payload_at payload (first_negotiate connection payload) e

  steps_at : (step : Step S) (others : ServerState S → Connection → Step S) → step.stays_open ≡ true → (others step.server step.connection).stays_open ≡ true → (and_then others step).stays_open ≡ true
  steps_at step others e h = rw e h

  steps_stay : (server : ServerState S) (connection : Connection) (payloads : List (List ℕ)) → AreAllowed m (arrived n moment) server connection payloads → (payload_steps m (arrived n moment) server connection payloads).stays_open ≡ true
  steps_stay server connection [] h = refl
  steps_stay server connection (payload ∷ payloads) h =
      let step = payload_step m (arrived n moment) server connection payload in
      steps_at step (λ s c. payload_steps m (arrived n moment) s c payloads) (payload_stays server connection payload h.0) (steps_stay step.server step.connection payloads h.1)

  piece_stays : (server : ServerState S) (stream : StreamState) (piece : List ℕ) → fault_of longest_payload (rest longest_payload (stream.received ++ piece)) ≡ None →
      AreAllowed m (arrived n moment) server stream.connection (added_payloads stream.received piece) → (piece_step m (arrived n moment) server stream piece).stays_open ≡ true
  unfolding piece_step
  piece_stays server stream piece none h = rw (steps_stay server stream.connection (added_payloads stream.received piece) h, none) refl

-- ---- a happening leaves the connection open

inserted_at : (n : ℕ) (e : ℕ × StreamState) (es : List (ℕ × StreamState)) (new : StreamState) (o : Ordering) → nat_cmp n e.0 ≡ o →
    is_some (stream_of n (insert_entry nat_cmp es n new)) ≡ true → is_some (stream_of n (insert_entry nat_cmp (e ∷ es) n new)) ≡ true
inserted_at n e es new Less t ih = rw (t, at_same n n refl) refl
inserted_at n e es new Equal t ih = rw (t, ap is_eq t) refl
inserted_at n e es new Greater t ih = rw (t, ap is_eq t) ih

inserted : (n : ℕ) (es : List (ℕ × StreamState)) (new : StreamState) → is_some (stream_of n (insert_entry nat_cmp es n new)) ≡ true
inserted n [] new = rw (at_same n n refl) refl
inserted n (e ∷ es) new = inserted_at n e es new (nat_cmp n e.0) refl (inserted n es new)

module _ {S : Type 0} (m : Meaning S) (n : ℕ) where
  other_open : (s t : ShareState S) → stream_of n t.streams ≡ stream_of n s.streams → is_open s n ≡ true → is_open t n ≡ true
  other_open s t same e = ap is_some same ∙ e

  settled_own : (s : ShareState S) (received : List ℕ) (stream : StreamState) (step : Step S) → step.stays_open ≡ true → stream_of n s.streams ≡ Some stream → is_open (settled s n received step).state n ≡ true
  settled_own s received stream step e h = rw e (ap is_some (lookup-set (is_at (nat_cmp n)) s.streams stream (record { received = received; connection = step.connection }) h))

  settled_other : (s : ShareState S) (other : ℕ) (received : List ℕ) (step : Step S) (b : Bool) → step.stays_open ≡ b → eqb other n ≡ false → stream_of n (settled s other received step).state.streams ≡ stream_of n s.streams
  settled_other s other received step true e d = rw e (other_set other n s.streams (record { received = received; connection = step.connection }) d)
  settled_other s other received step false e d = rw e (other_without other n s.streams d)

  bytes_own : (s : ShareState S) (moment : ℕ) (piece : List ℕ) → is_open s n ≡ true → IsAllowedPiece m s n moment piece → is_open (bytes_step m s n moment piece).state n ≡ true
  bytes_own s moment piece e allowed =
      let it = open_by (stream_of n s.streams) e in
      let kept = allowed it.0 it.1 in
      rw (bytes_step-some m s n moment piece it.0 it.1)
      (settled_own s (it.0.received ++ piece) it.0 (piece_step m (arrived n moment) s.server it.0 piece) (piece_stays m n moment s.server it.0 piece kept.0 kept.1) it.1)

  bytes_other : (s : ShareState S) (other moment : ℕ) (piece : List ℕ) (o : Option StreamState) → stream_of other s.streams ≡ o → eqb other n ≡ false → stream_of n (bytes_step m s other moment piece).state.streams ≡ stream_of n s.streams
  bytes_other s other moment piece None e d = rw (bytes_step-none m s other moment piece e) refl
  bytes_other s other moment piece (Some stream) e d =
      rw (bytes_step-some m s other moment piece stream e) (settled_other s other (stream.received ++ piece) (piece_step m (arrived other moment) s.server stream piece) _ refl d)

  bytes_by : (s : ShareState S) (other moment : ℕ) (piece : List ℕ) (b : Bool) → eqb other n ≡ b → is_open s n ≡ true → (other ≡ n → IsAllowedPiece m s n moment piece) → is_open (bytes_step m s other moment piece).state n ≡ true
  bytes_by s other moment piece true t e allowed =
      let same : other ≡ n = eqb-true other n t in
      subst (λ (k : ℕ). is_open (bytes_step m s k moment piece).state n ≡ true) (sym same) (bytes_own s moment piece e (allowed same))
  bytes_by s other moment piece false t e allowed = other_open s (bytes_step m s other moment piece).state (bytes_other s other moment piece (stream_of other s.streams) refl t) e

  opened_by : (s : ShareState S) (b : Bool) → eqb s.next n ≡ b → is_open s n ≡ true → is_open (opened s) n ≡ true
  opened_by s true t e =
      let same : s.next ≡ n = eqb-true s.next n t in
      subst (λ (k : ℕ). is_some (stream_of n (insert_entry nat_cmp s.streams k new_stream)) ≡ true) (sym same) (inserted n s.streams new_stream)
  opened_by s false t e = other_open s (opened s) (other_insert s.next n s.streams new_stream t) e

  stopped_open : (s : ShareState S) (event : EventText) (done : ℕ) → connection_of event ≢ n → is_open s n ≡ true → is_open (stopped m s event done) n ≡ true
  stopped_open s (opens other) done d e = e
  stopped_open s (brings other moment piece) done d e = other_open s (stopped m s (brings other moment piece) done) (other_without other n s.streams (ne_eqb other n d)) e
  stopped_open s (ends other) done d e = e

  happening_open : (s : ShareState S) (happening : Happening) → is_open s n ≡ true → LetsGoOn m n s happening → is_open (happening_step m s happening).state n ≡ true
  happening_open s (performed (opens other)) e h = opened_by s (eqb s.next n) refl e
  happening_open s (performed (brings other moment piece)) e h = bytes_by s other moment piece (eqb other n) refl e h
  happening_open s (performed (ends other)) e h = other_open s (ended s other) (other_without other n s.streams (ne_eqb other n h)) e
  happening_open s (cut_short event done) e h = stopped_open s event done h e

  run_at : (s : ShareState S) (happening : Happening) (happenings : List Happening) (o : Option ServeFault) → is_open s n ≡ true →
      is_open (run_of m (happening_step m s happening).state happenings).state n ≡ true →
      is_open (option_map_or (refused_at_once s) o (then_ran (happening_step m s happening) (run_of m (happening_step m s happening).state happenings))).state n ≡ true
  run_at s happening happenings None e rest = rest
  run_at s happening happenings (Some why) e rest = e

  pub served_on : (s : ShareState S) (happenings : List Happening) → is_open s n ≡ true → LetGoOn m n s happenings → is_open (run_of m s happenings).state n ≡ true
  served_on s [] e h = e
  served_on s (happening ∷ happenings) e h =
      run_at s happening happenings (event_refusal s (event_of happening)) e (served_on (happening_step m s happening).state happenings (happening_open s happening e h.0) h.1)
