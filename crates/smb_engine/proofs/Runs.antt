-- A run over whole streams and one over their rests leave and put out the same.
use Rattle.std.proofs.Common.{◌≡◌, ℕ, zero, suc, ◌+◌, ◌<◌, ◌≤◌, Bool, true, false, get_or, List, [], ◌∷◌, ◌++◌, length, take, drop, map, Option, None, Some, is_some, refl, sym, ap, subst, ◌∙◌, append_assoc, arith}
use Rattle.std.specs.Prelude.{nat_le, unwrap_or, ◌||◌}
use Rattle.std.specs.Option.{option_map, option_map_or}
use Rattle.std.proofs.lemmas.List.{append-nil, drop-map, drop_more, take_all, length-map}
use Rattle.std.proofs.lemmas.Bool.{eq-eqb}
use Rattle.std.proofs.lemmas.Option.{slice_get-map, slice_get_read}
use Rattle.std.specs.BTreeMap.{is_at, insert_entry}
use Rattle.std.specs.Ordering.{nat_cmp}
use Rattle.smb_wire.specs.Counters.{is_spent}
use Rattle.smb_wire.specs.Limits.{longest_payload}
use Rattle.smb_frame.specs.Reading.{rest, payloads}
use Rattle.smb_frame.proofs.Streams.{rest-more}
use Rattle.smb_peers.specs.declared.event.Event.{Event}
use Rattle.smb_engine.specs.declared.fault.ServeFault.{ServeFault}
use Rattle.smb_engine.specs.declared.fault.ServeFault.TheVariants.{TooManyConnections, NoMemory, BadEvent, BadConfig}
use Rattle.smb_session.specs.Authenticator.{Meaning}
use Rattle.smb_request.specs.State.{ServerState, connection_added}
use Rattle.smb_engine.specs.State.{StreamState, ShareState, stream_of, new_stream, opened}
use Rattle.smb_engine.specs.Output.{Output}
use Rattle.smb_engine.specs.Stream.{unread}
use Rattle.smb_engine.specs.Parts.{added_payloads, unread_stream, unread_entry, settled, connection_at, EventStopped, events_of, can_want_memory, quiet_step, later, then_ran, refused_at_once}
use Rattle.smb_engine.specs.Run.{Step, piece_step, EventStep, bytes_step, event_step, event_refusal, Stop, Ran, run}
use Rattle.smb_engine.specs.Refusals.{stopped, EventOutOfMemory, run_behind, RunStopped, opening_refusal}
use Rattle.smb_peers.specs.Event.{EventText, opens, brings, ends, text_of, connection_of}
use Rattle.smb_engine.proofs.Pieces.{added_is}
use Rattle.smb_engine.proofs.Streams.{arrived, unread-with, unread-without, unread-insert, stream_of-unread}

pub rest-rest : (received : List ℕ) → rest longest_payload (rest longest_payload received) ≡ rest longest_payload received
rest-rest received = ap (rest longest_payload) (sym (append-nil (rest longest_payload received))) ∙ sym (rest-more longest_payload [] received) ∙ ap (rest longest_payload) (append-nil received)

pub added-rest : (received piece : List ℕ) → added_payloads (rest longest_payload received) piece ≡ added_payloads received piece
added-rest received piece = added_is (rest longest_payload received) piece ∙ ap (λ b. payloads longest_payload (b ++ piece)) (rest-rest received) ∙ sym (added_is received piece)

unread_entries : (streams : List (ℕ × StreamState)) → map unread_entry (map unread_entry streams) ≡ map unread_entry streams
unread_entries [] = refl
unread_entries (e ∷ streams) = rw (rest-rest e.1.received, unread_entries streams) refl

pub unread-unread : {S : Type 0} (s : ShareState S) → unread (unread s) ≡ unread s
unread-unread s = ap (λ t. record s { streams = t }) (unread_entries s.streams)

abbrev pub unread_step : {S : Type 0} → EventStep S → EventStep S
unread_step d = record d { state = unread d.state }

module _ {S : Type 0} (m : Meaning S) where
  -- a piece behind the rest of a stream is as behind the whole of it
  piece-rest : (n moment : ℕ) (server : ServerState S) (stream : StreamState) (piece : List ℕ) → piece_step m (arrived n moment) server (unread_stream stream) piece ≡ piece_step m (arrived n moment) server stream piece
  unfolding piece_step
  piece-rest n moment server stream piece =
      let same : rest longest_payload (rest longest_payload stream.received ++ piece) ≡ rest longest_payload (stream.received ++ piece) = sym (rest-more longest_payload piece stream.received) in
      rw (added-rest, same) refl

  settled-unread_at : (s : ShareState S) (n : ℕ) (held received : List ℕ) (step : Step S) (b : Bool) → step.stays_open ≡ b → rest longest_payload held ≡ rest longest_payload received →
      unread_step (settled (unread s) n held step) ≡ unread_step (settled s n received step)
  settled-unread_at s n held received step true e r =
      let old : StreamState = record { received = held; connection = step.connection } in
      let new : StreamState = record { received = received; connection = step.connection } in
      rw (e, unread-with (is_at (nat_cmp n)) old (map unread_entry s.streams), unread_entries s.streams, unread-with (is_at (nat_cmp n)) new s.streams, r) refl
  settled-unread_at s n held received step false e r =
      rw (e, unread-without (is_at (nat_cmp n)) (map unread_entry s.streams), unread_entries s.streams, unread-without (is_at (nat_cmp n)) s.streams) refl

  bytes_at : (s : ShareState S) (n moment : ℕ) (piece : List ℕ) (o : Option StreamState) →
      unread_step (option_map_or (λ stream. settled (unread s) n (stream.received ++ piece) (piece_step m (arrived n moment) s.server stream piece)) (option_map unread_stream o) (quiet_step (unread s)))
      ≡ unread_step (option_map_or (λ stream. settled s n (stream.received ++ piece) (piece_step m (arrived n moment) s.server stream piece)) o (quiet_step s))
  bytes_at s n moment piece None = rw unread-unread refl
  bytes_at s n moment piece (Some stream) =
      let held = rest longest_payload stream.received ++ piece in
      let step = piece_step m (arrived n moment) s.server stream piece in
      ap (λ t. unread_step (settled (unread s) n held t)) (piece-rest n moment s.server stream piece)
      ∙ settled-unread_at s n held (stream.received ++ piece) step step.stays_open refl (sym (rest-more longest_payload piece stream.received))

  bytes_step-unread : (s : ShareState S) (n moment : ℕ) (piece : List ℕ) → unread_step (bytes_step m (unread s) n moment piece) ≡ unread_step (bytes_step m s n moment piece)
  unfolding bytes_step
  bytes_step-unread s n moment piece = rw (stream_of-unread (is_at (nat_cmp n)) s.streams) (bytes_at s n moment piece (stream_of n s.streams))

  -- an event over rests leaves and puts out what it does over whole streams
  pub event_step-unread : (s : ShareState S) (event : EventText) → unread_step (event_step m (unread s) event) ≡ unread_step (event_step m s event)
  event_step-unread s (opens n) = rw (unread-insert s.next new_stream (map unread_entry s.streams), unread-insert s.next new_stream s.streams, unread_entries s.streams) refl
  event_step-unread s (brings n moment piece) = bytes_step-unread s n moment piece
  event_step-unread s (ends n) = rw (unread-without (is_at (nat_cmp n)) (map unread_entry s.streams), unread_entries s.streams, unread-without (is_at (nat_cmp n)) s.streams) refl

  pub refusal-unread : (s : ShareState S) (event : EventText) → event_refusal (unread s) event ≡ event_refusal s event
  refusal-unread s (opens n) = rw length-map refl
  refusal-unread s (brings n moment piece) = refl
  refusal-unread s (ends n) = refl

  later-none : (o : Option Stop) → option_map later o ≡ None → o ≡ None
  later-none None h = refl
  later-none (Some f) h = cc

  goes_at : (s : ShareState S) (d : EventStep S) (r : Ran S) (o : Option ServeFault) → (option_map_or (refused_at_once s) o (then_ran d r)).stop ≡ None → (o ≡ None) × (r.stop ≡ None)
  goes_at s d r None h = (refl, later-none r.stop h)
  goes_at s d r (Some why) h = cc

  pub run-goes : (s : ShareState S) (event : EventText) (events : List EventText) → (run m s (event ∷ events)).stop ≡ None →
      (event_refusal s event ≡ None) × ((run m (event_step m s event).state events).stop ≡ None)
  run-goes s event events h = goes_at s (event_step m s event) (run m (event_step m s event).state events) (event_refusal s event) h

  pub run-cons : (s : ShareState S) (event : EventText) (events : List EventText) → event_refusal s event ≡ None →
      run m s (event ∷ events) ≡ then_ran (event_step m s event) (run m (event_step m s event).state events)
  run-cons s event events h = rw h refl

  abbrev and_then : Ran S → EventStep S → Ran S
  and_then r d = record { state = d.state; outputs = r.outputs ++ d.outputs; stop = None }

  -- one more event at the end, which is not refused
  pub run-more : (s : ShareState S) (events others : List EventText) (event : EventText) (i : ℕ) → drop i events ≡ event ∷ others →
      (run m s (take i events)).stop ≡ None → event_refusal (run m s (take i events)).state event ≡ None →
      run m s (take (i + 1) events) ≡ and_then (run m s (take i events)) (event_step m (run m s (take i events)).state event)
  run-more s [] others event zero h g r = cc
  run-more s (x ∷ events) others event zero h g r =
      let e : x ≡ event = cc in
      rw (e, r) (ap (λ t. record { state = (event_step m s event).state; outputs = t; stop = None }) (append-nil (event_step m s event).outputs))
  run-more s [] others event (suc i) h g r = cc
  run-more s (x ∷ events) others event (suc i) h g r =
      let e : suc i + 1 ≡ suc (i + 1) = omega arith in
      let p = run-goes s x (take i events) g in
      let first = event_step m s x in
      let before = run m first.state (take i events) in
      let last = event_step m before.state event in
      let whole = run-cons s x (take i events) p.0 in
      let r' : event_refusal before.state event ≡ None = ap (λ t. event_refusal t.state event) (sym whole) ∙ r in
      rw (e, whole, run-cons s x (take (i + 1) events) p.0, run-more first.state events others event i h p.1 r')
      (ap (λ t. record { state = last.state; outputs = t; stop = None }) (sym (append_assoc first.outputs before.outputs last.outputs)))

  -- the run stops at an event that is refused
  pub run-refused : (s : ShareState S) (events others : List EventText) (event : EventText) (i : ℕ) (why : ServeFault) → drop i events ≡ event ∷ others →
      (run m s (take i events)).stop ≡ None → event_refusal (run m s (take i events)).state event ≡ Some why →
      run m s events ≡ record { state = (run m s (take i events)).state; outputs = (run m s (take i events)).outputs; stop = Some (record { place = i; fault = why }) }
  run-refused s [] others event zero why h g r = cc
  run-refused s (x ∷ events) others event zero why h g r = let e : x ≡ event = cc in rw (e, r) refl
  run-refused s [] others event (suc i) why h g r = cc
  run-refused s (x ∷ events) others event (suc i) why h g r =
      let p = run-goes s x (take i events) g in
      let first = event_step m s x in
      let whole = run-cons s x (take i events) p.0 in
      let r' : event_refusal (run m first.state (take i events)).state event ≡ Some why = ap (λ t. event_refusal t.state event) (sym whole) ∙ r in
      rw (whole, run-cons s x events p.0, run-refused first.state events others event i why h p.1 r') refl

  -- where memory ran out in an event over rests
  pub stopped-unread : (s : ShareState S) (event : EventText) (k : ℕ) → unread (stopped m (unread s) event k) ≡ unread (stopped m s event k)
  stopped-unread s (opens n) k = unread-unread s
  stopped-unread s (brings n moment piece) k =
      let same = ap (λ d. d.requests) (bytes_step-unread s n moment piece) in
      rw (same, unread-without (is_at (nat_cmp n)) (map unread_entry s.streams), unread_entries s.streams, unread-without (is_at (nat_cmp n)) s.streams) refl
  stopped-unread s (ends n) k = unread-unread s

  is_open-unread : (o : Option StreamState) → is_some (option_map unread_stream o) ≡ is_some o
  is_open-unread None = refl
  is_open-unread (Some stream) = refl

  can_want_memory-unread : (s : ShareState S) (event : EventText) → can_want_memory (unread s) event ≡ can_want_memory s event
  can_want_memory-unread s (opens n) = refl
  can_want_memory-unread s (brings n moment piece) = ap is_some (stream_of-unread (is_at (nat_cmp n)) s.streams) ∙ is_open-unread (stream_of n s.streams)
  can_want_memory-unread s (ends n) = refl

  memory-unread : (s : ShareState S) (event : EventText) (k : ℕ) (left : ShareState S) → EventOutOfMemory m (unread s) event k left → EventOutOfMemory m s event k left
  memory-unread s event k left h = record {
    wanting = sym (can_want_memory-unread s event) ∙ h.wanting;
    within = let same = ap (λ d. length d.requests) (event_step-unread s event) in omega (arith, same, h.within);
    state = h.state ∙ stopped-unread s event k;
  }

  -- the first i events of a run are done, and none was refused
  pub record RunSoFar (start now : ShareState S) (front outputs : List Output) (events : List EventText) (i : ℕ) : Type 0 where
    pub goes : (run m start (take i events)).stop ≡ None
    pub state : now ≡ unread (run m start (take i events)).state
    pub says : outputs ≡ front ++ (run m start (take i events)).outputs

  pub run_none : (start : ShareState S) (front : List Output) (events : List EventText) → start ≡ unread start → RunSoFar start start front front events 0
  run_none start front events h = record { goes = refl; state = h; says = sym (append-nil front) }

  pub at_place : (events : List Event) (event : Event) (i : ℕ) → i < length events → event ≡ get_or events i event → drop i (events_of events) ≡ text_of event ∷ events_of (drop (i + 1) events)
  at_place events event i p e = drop-map text_of i events ∙ ap events_of (drop_more events i event p) ∙ ap (λ x. text_of x ∷ events_of (drop (i + 1) events)) (sym e)

  -- the connection of the event at a place
  pub connection_read : (events : List Event) (event : Event) (i : ℕ) → i < length events → event ≡ get_or events i event → connection_at (events_of events) i ≡ Some (connection_of (text_of event))
  connection_read events event i p e = rw slice_get-map (ap (λ o. option_map connection_of (option_map text_of o)) (slice_get_read events (length events) i event refl p e))

  pub not_refused : (start now : ShareState S) (events : List EventText) (event : EventText) (i : ℕ) (o : Option ServeFault) → now ≡ unread (run m start (take i events)).state → event_refusal now event ≡ o →
      event_refusal (run m start (take i events)).state event ≡ o
  not_refused start now events event i o h r = sym (refusal-unread (run m start (take i events)).state event) ∙ ap (λ t. event_refusal t event) (sym h) ∙ r

  pub run_more : (start now new : ShareState S) (front outputs outputs' : List Output) (events : List Event) (event : Event) (i : ℕ) → RunSoFar start now front outputs (events_of events) i →
      i < length events → event ≡ get_or events i event → event_refusal now (text_of event) ≡ None → new ≡ unread (event_step m now (text_of event)).state →
      outputs' ≡ outputs ++ (event_step m now (text_of event)).outputs → RunSoFar start new front outputs' (events_of events) (i + 1)
  run_more start now new front outputs outputs' events event i h p e r s t =
      let text = text_of event in
      let before = run m start (take i (events_of events)) in
      let same : unread_step (event_step m now text) ≡ unread_step (event_step m before.state text) = ap (λ x. unread_step (event_step m x text)) h.state ∙ event_step-unread before.state text in
      let more = run-more start (events_of events) (events_of (drop (i + 1) events)) text i (at_place events event i p e) h.goes (not_refused start now (events_of events) text i None h.state r) in
      record {
        goes = ap (λ d. d.stop) more;
        state = s ∙ ap (λ d. d.state) same ∙ ap (λ d. unread d.state) (sym more);
        says = t ∙ ap (λ x. outputs ++ x) (ap (λ d. d.outputs) same) ∙ ap (λ x. x ++ (event_step m before.state text).outputs) h.says
            ∙ append_assoc front before.outputs (event_step m before.state text).outputs ∙ ap (λ d. front ++ d.outputs) (sym more);
      }

  pub run_all : (start now : ShareState S) (front outputs : List Output) (events : List Event) (i : ℕ) → RunSoFar start now front outputs (events_of events) i → length events ≤ i →
      record { state = now; outputs = outputs; stop = None } ≡ run_behind front (run m start (events_of events))
  run_all start now front outputs events i h p =
      let q : length (events_of events) ≤ i = rw length-map p in
      rw (h.state, h.says, ← h.goes) (ap (λ es. run_behind front (run m start es)) (take_all i (events_of events) q))

  run_refused : (start now new : ShareState S) (front outputs : List Output) (events : List Event) (event : Event) (i : ℕ) (why : ServeFault) → RunSoFar start now front outputs (events_of events) i →
      i < length events → event ≡ get_or events i event → event_refusal now (text_of event) ≡ Some why → new ≡ now →
      record { state = new; outputs = outputs; stop = Some (record { place = i; fault = why }) } ≡ run_behind front (run m start (events_of events))
  run_refused start now new front outputs events event i why h p e r s =
      rw (s, h.state, h.says, run-refused start (events_of events) (events_of (drop (i + 1) events)) (text_of event) i why (at_place events event i p e) h.goes (not_refused start now (events_of events) (text_of event) i (Some why) h.state r)) refl

  -- an event at which the run stops, whatever the fault
  pub run_stops : (start now new : ShareState S) (front outputs outputs' : List Output) (events : List Event) (event : Event) (place : ℕ) (fault : ServeFault) (i : ℕ) → RunSoFar start now front outputs (events_of events) i →
      place ≡ i → i < length events → event ≡ get_or events i event → EventStopped m now (text_of event) fault new → outputs' ≡ outputs →
      RunStopped m start (events_of events) place fault new front outputs'
  run_stops start now new front outputs outputs' events event place (NoMemory done) i h q p e s t =
      let text = text_of event in
      let before = run m start (take i (events_of events)) in
      let Q : ShareState S → Type 0 = λ x. EventOutOfMemory m x text done new in
      rw (q, t) (record {
        event = text;
        others = events_of (drop (i + 1) events);
        at = at_place events event i p e;
        unrefused = h.goes;
        stops = (not_refused start now (events_of events) text i None h.state s.0, memory-unread before.state text done new (subst Q h.state s.1));
        outputs = h.says;
      })
  run_stops start now new front outputs outputs' events event place TooManyConnections i h q p e s t = rw (q, t) (run_refused start now new front outputs events event i TooManyConnections h p e s.0 s.1)
  run_stops start now new front outputs outputs' events event place BadEvent i h q p e s t = rw (q, t) (run_refused start now new front outputs events event i BadEvent h p e s.0 s.1)
  run_stops start now new front outputs outputs' events event place BadConfig i h q p e s t = absurd s

  pub opened-unread : (s : ShareState S) → s ≡ unread s → opened s ≡ unread (opened s)
  unfolding rest payloads
  opened-unread s h = rw (unread-insert s.next new_stream s.streams) (ap (λ t. record { server = connection_added s.server s.next; streams = insert_entry nat_cmp t.streams s.next new_stream; next = s.next + 1; most_connections = s.most_connections }) h)

  open_refused : (s : ShareState S) (n : ℕ) (o : Option ServeFault) → n ≡ s.next → opening_refusal s ≡ o → event_refusal s (opens n) ≡ o
  open_refused s n o e h = rw (eq-eqb n s.next e) h

  open_stops_at : (s new : ShareState S) (n : ℕ) (b : Bool) → (nat_le s.most_connections (length s.streams) || is_spent 64 s.next) ≡ b → s ≡ unread s → n ≡ s.next → new ≡ s →
      EventStopped m s (opens n) (unwrap_or (opening_refusal s) (NoMemory 0)) new
  open_stops_at s new n true t w e k =
      let full : opening_refusal s ≡ Some TooManyConnections = rw t refl in
      rw full (open_refused s n (Some TooManyConnections) e full, k)
  open_stops_at s new n false t w e k =
      let room : opening_refusal s ≡ None = rw t refl in
      rw room (open_refused s n None e room, record { wanting = refl; within = omega arith; state = k ∙ w })

  pub open_stops : (s new : ShareState S) (n : ℕ) (fault : ServeFault) → s ≡ unread s → n ≡ s.next → fault ≡ unwrap_or (opening_refusal s) (NoMemory 0) → new ≡ s → EventStopped m s (opens n) fault new
  open_stops s new n fault w e h k =
      let P : ServeFault → Type 0 = λ f. EventStopped m s (opens n) f new in
      subst P (sym h) (open_stops_at s new n _ refl w e k)
