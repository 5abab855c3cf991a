-- How streams are cut into pieces, and events into runs, does not matter.
use Rattle.std.proofs.Common.{◌≡◌, ℕ, suc, ◌+◌, ◌<◌, ◌&&◌, ltb, Bool, true, false, List, [], ◌∷◌, ◌++◌, length, Option, None, Some, is_none, refl, sym, ap, subst, ◌∙◌, append_assoc, arith}
use Rattle.std.specs.Option.{option_map, option_map_or}
use Rattle.std.specs.BTreeMap.{is_at}
use Rattle.std.specs.Ordering.{nat_cmp}
use Rattle.std.proofs.lemmas.List.{append-nil}
use Rattle.std.proofs.lemmas.Bool.{ltb-true, ltb-false, lt-ltb, le-ltb}
use Rattle.smb_wire.specs.Limits.{longest_payload}
use Rattle.smb_frame.specs.declared.fault.FrameFault.{FrameFault}
use Rattle.smb_frame.specs.Reading.{payloads, rest, fault_of}
use Rattle.smb_frame.proofs.Streams.{payloads-more, payloads-none, rest-more, rest-none}
use Rattle.smb_frame.proofs.Rests.{fault_more}
use Rattle.smb_session.specs.Authenticator.{Meaning}
use Rattle.smb_engine.specs.declared.connection.Connection.{Connection}
use Rattle.smb_engine.specs.declared.fault.ServeFault.{ServeFault}
use Rattle.smb_peers.specs.Event.{EventText, brings}
use Rattle.smb_request.specs.State.{ServerState}
use Rattle.smb_engine.specs.State.{StreamState, ShareState, ended, stream_of}
use Rattle.smb_engine.specs.Parts.{with_stream, after_step, and_then, settled, added_payloads, then_ran, later, refused_at_once, later_behind, with_one_more_at, moved, pieces_on, bytes_of_pieces}
use Rattle.smb_engine.specs.Output.{end_of}
use Rattle.smb_engine.specs.Stream.{unread}
use Rattle.smb_engine.specs.Run.{Step, payload_step, payload_steps, EventStep, bytes_step, event_step, event_refusal, Stop, Ran, run}
use Rattle.smb_engine.specs.Refusals.{run_behind}
use Rattle.smb_engine.specs.Laws.{StreamsInOrder, AreAlike, run_after}
use Rattle.smb_engine.proofs.Streams.{arrived, bytes_step-none, bytes_step-some, remove-set}
use Rattle.smb_engine.proofs.Pieces.{added_is, steps_by, step-open, step-over}
use Rattle.smb_engine.proofs.Order.{lookup-set, set-set, stream_of-without, bytes_step-next, order_step}
use Rattle.smb_engine.proofs.Runs.{unread-unread, unread_step, event_step-unread, refusal-unread}

-- a piece in two adds the payloads of the one and then those of the other
added-cut : (received a b : List ℕ) → added_payloads received (a ++ b) ≡ added_payloads received a ++ added_payloads (received ++ a) b
added-cut received a b =
    let held = rest longest_payload received in
    let left : rest longest_payload (held ++ a) ≡ rest longest_payload (received ++ a) = sym (rest-more longest_payload a received) in
    added_is received (a ++ b)
    ∙ ap (payloads longest_payload) (sym (append_assoc held a b))
    ∙ payloads-more longest_payload b (held ++ a)
    ∙ ap (λ t. payloads longest_payload (held ++ a) ++ payloads longest_payload (t ++ b)) left
    ∙ ap (λ t. t ++ payloads longest_payload (rest longest_payload (received ++ a) ++ b)) (sym (added_is received a))
    ∙ ap (λ t. added_payloads received a ++ t) (sym (added_is (received ++ a) b))

-- behind a faulty rest nothing is read, and it stays faulty
abbrev kind_after : List ℕ → Bool
kind_after received = is_none (fault_of longest_payload (rest longest_payload received))

record NothingMore (received b : List ℕ) : Type 0 where
  pub added : added_payloads received b ≡ []
  pub faulty : kind_after (received ++ b) ≡ false

nothing_at : (received b : List ℕ) (o : Option FrameFault) → fault_of longest_payload (rest longest_payload received) ≡ o → is_none o ≡ false → NothingMore received b
nothing_at received b None e h = cc
nothing_at received b (Some fault) e h =
    let held = rest longest_payload received in
    let both = fault_more longest_payload held b fault e in
    let same : rest longest_payload (received ++ b) ≡ held ++ b = rest-more longest_payload b received ∙ rest-none longest_payload (held ++ b) both.1 in
    record { added = added_is received b ∙ payloads-none longest_payload (held ++ b) both.1; faulty = rw (same, both.0) refl }

nothing_more : (received b : List ℕ) → kind_after received ≡ false → NothingMore received b
nothing_more received b h = nothing_at received b _ refl h

module _ {S : Type 0} (m : Meaning S) (n moment : ℕ) where
  abbrev all : ServerState S → Connection → List (List ℕ) → Step S
  all = payload_steps m (arrived n moment)

  -- one step behind two others
  step-assoc : (a b c : Step S) → after_step a (after_step b c) ≡ after_step (after_step a b) c
  step-assoc a b c = rw (append_assoc a.outputs b.outputs c.outputs, append_assoc a.requests b.requests c.requests) refl

  -- payloads after payloads that leave the connection open
  on_at : (p : Step S) (xs ys : List (List ℕ)) (o : Bool) → p.stays_open ≡ o →
      ((all p.server p.connection xs).stays_open ≡ true →
      all p.server p.connection (xs ++ ys) ≡ after_step (all p.server p.connection xs) (all (all p.server p.connection xs).server (all p.server p.connection xs).connection ys)) →
      (and_then (λ s c. all s c xs) p).stays_open ≡ true →
      and_then (λ s c. all s c (xs ++ ys)) p
      ≡ after_step (and_then (λ s c. all s c xs) p) (all (and_then (λ s c. all s c xs) p).server (and_then (λ s c. all s c xs) p).connection ys)
  on_at p xs ys false e ih h = let h' = rw e at h in cc
  on_at p xs ys true e ih h =
      let before = all p.server p.connection xs in
      let others = all before.server before.connection ys in
      rw (e, ih (rw e at h)) (step-assoc p before others)

  pub steps-on : (server : ServerState S) (connection : Connection) (xs ys : List (List ℕ)) → (all server connection xs).stays_open ≡ true →
      all server connection (xs ++ ys) ≡ after_step (all server connection xs) (all (all server connection xs).server (all server connection xs).connection ys)
  steps-on server connection [] ys h = refl
  steps-on server connection (x ∷ xs) ys h =
      let p = payload_step m (arrived n moment) server connection x in
      on_at p xs ys p.stays_open refl (steps-on p.server p.connection xs ys) h

  -- payloads after payloads that end it
  over_at : (p : Step S) (xs ys : List (List ℕ)) (o : Bool) → p.stays_open ≡ o →
      ((all p.server p.connection xs).stays_open ≡ false → all p.server p.connection (xs ++ ys) ≡ all p.server p.connection xs) →
      (and_then (λ s c. all s c xs) p).stays_open ≡ false → and_then (λ s c. all s c (xs ++ ys)) p ≡ and_then (λ s c. all s c xs) p
  over_at p xs ys false e ih h = rw e refl
  over_at p xs ys true e ih h = rw e (ap (after_step p) (ih (rw e at h)))

  pub steps-over : (server : ServerState S) (connection : Connection) (xs ys : List (List ℕ)) → (all server connection xs).stays_open ≡ false → all server connection (xs ++ ys) ≡ all server connection xs
  steps-over server connection [] ys h = cc
  steps-over server connection (x ∷ xs) ys h =
      let p = payload_step m (arrived n moment) server connection x in
      over_at p xs ys p.stays_open refl (steps-over p.server p.connection xs ys) h

  abbrev by_piece : ServerState S → StreamState → List ℕ → Step S
  by_piece = steps_by m (arrived n moment)

  -- a piece whose payloads come to these steps
  bytes-open : (s : ShareState S) (stream : StreamState) (piece : List ℕ) (steps : Step S) → stream_of n s.streams ≡ Some stream → by_piece s.server stream piece ≡ steps →
      (steps.stays_open && kind_after (stream.received ++ piece)) ≡ true →
      bytes_step m s n moment piece ≡ record {
        state = record s { server = steps.server; streams = with_stream n (record { received = stream.received ++ piece; connection = steps.connection }) s.streams };
        outputs = steps.outputs;
        requests = steps.requests;
      }
  bytes-open s stream piece steps h e t =
      bytes_step-some m s n moment piece stream h ∙ ap (settled s n (stream.received ++ piece)) (step-open m (arrived n moment) s.server stream piece (rw e t)) ∙ rw e refl

  bytes-over : (s : ShareState S) (stream : StreamState) (piece : List ℕ) (steps : Step S) → stream_of n s.streams ≡ Some stream → by_piece s.server stream piece ≡ steps →
      (steps.stays_open && kind_after (stream.received ++ piece)) ≡ false →
      bytes_step m s n moment piece ≡ record { state = ended (record s { server = steps.server }) n; outputs = steps.outputs ++ end_of n ∷ []; requests = steps.requests }
  bytes-over s stream piece steps h e t =
      bytes_step-some m s n moment piece stream h ∙ ap (settled s n (stream.received ++ piece)) (step-over m (arrived n moment) s.server stream piece (rw e t)) ∙ rw e refl

  by-cut : (server : ServerState S) (stream : StreamState) (a b : List ℕ) → by_piece server stream (a ++ b) ≡ all server stream.connection (added_payloads stream.received a ++ added_payloads (stream.received ++ a) b)
  unfolding steps_by
  by-cut server stream a b = rw added-cut refl

  by-is : (server : ServerState S) (stream : StreamState) (a : List ℕ) → by_piece server stream a ≡ all server stream.connection (added_payloads stream.received a)
  unfolding steps_by
  by-is server stream a = refl

  abbrev two : ShareState S → List ℕ → List ℕ → EventStep S
  two s a b = record {
    state = (bytes_step m (bytes_step m s n moment a).state n moment b).state;
    outputs = (bytes_step m s n moment a).outputs ++ (bytes_step m (bytes_step m s n moment a).state n moment b).outputs;
    requests = (bytes_step m s n moment a).requests ++ (bytes_step m (bytes_step m s n moment a).state n moment b).requests;
  }

  -- the first piece leaves the connection open
  cut_open_at : (s : ShareState S) (stream : StreamState) (a b : List ℕ) (first_steps more : Step S) (c : Bool) → stream_of n s.streams ≡ Some stream →
      by_piece s.server stream a ≡ first_steps → (first_steps.stays_open && kind_after (stream.received ++ a)) ≡ true →
      by_piece first_steps.server (record { received = stream.received ++ a; connection = first_steps.connection }) b ≡ more →
      by_piece s.server stream (a ++ b) ≡ after_step first_steps more →
      (more.stays_open && kind_after ((stream.received ++ a) ++ b)) ≡ c →
      bytes_step m s n moment (a ++ b) ≡ two s a b
  cut_open_at s stream a b f more true h e t e' e'' t' =
      let stream' : StreamState = record { received = stream.received ++ a; connection = f.connection } in
      let s' : ShareState S = record s { server = f.server; streams = with_stream n stream' s.streams } in
      let q : (stream.received ++ a) ++ b ≡ stream.received ++ (a ++ b) = append_assoc stream.received a b in
      let t'' : (more.stays_open && kind_after (stream.received ++ (a ++ b))) ≡ true = rw (← q) t' in
      rw (
        bytes-open s stream (a ++ b) (after_step f more) h e'' t'',
        bytes-open s stream a f h e t,
        bytes-open s' stream' b more (lookup-set (is_at (nat_cmp n)) s.streams stream stream' h) e' t',
        set-set,
        q,
      ) refl
  cut_open_at s stream a b f more false h e t e' e'' t' =
      let stream' : StreamState = record { received = stream.received ++ a; connection = f.connection } in
      let s' : ShareState S = record s { server = f.server; streams = with_stream n stream' s.streams } in
      let q : (stream.received ++ a) ++ b ≡ stream.received ++ (a ++ b) = append_assoc stream.received a b in
      let t'' : (more.stays_open && kind_after (stream.received ++ (a ++ b))) ≡ false = rw (← q) t' in
      rw (
        bytes-over s stream (a ++ b) (after_step f more) h e'' t'',
        bytes-open s stream a f h e t,
        bytes-over s' stream' b more (lookup-set (is_at (nat_cmp n)) s.streams stream stream' h) e' t',
        remove-set,
        append_assoc,
      ) refl

  open_parts : (x y : Bool) → (x && y) ≡ true → x ≡ true
  open_parts true y h = refl
  open_parts false y h = cc

  cut_open : (s : ShareState S) (stream : StreamState) (a b : List ℕ) → stream_of n s.streams ≡ Some stream →
      ((by_piece s.server stream a).stays_open && kind_after (stream.received ++ a)) ≡ true → bytes_step m s n moment (a ++ b) ≡ two s a b
  cut_open s stream a b h t =
      let f = by_piece s.server stream a in
      let is = by-is s.server stream a in
      let stream' : StreamState = record { received = stream.received ++ a; connection = f.connection } in
      let open_still = ap (λ d. d.stays_open) (sym is) ∙ open_parts f.stays_open _ t in
      let on = by-cut s.server stream a b ∙ steps-on s.server stream.connection (added_payloads stream.received a) (added_payloads (stream.received ++ a) b) open_still in
      let on' : by_piece s.server stream (a ++ b) ≡ after_step f (by_piece f.server stream' b) = rw (by-is f.server stream' b, is) on in
      cut_open_at s stream a b f (by_piece f.server stream' b) _ h refl t refl on' refl

  -- the first piece ends it
  cut_over_by : (s : ShareState S) (stream : StreamState) (a b : List ℕ) → StreamsInOrder s → stream_of n s.streams ≡ Some stream →
      ((by_piece s.server stream a).stays_open && kind_after (stream.received ++ a)) ≡ false →
      by_piece s.server stream (a ++ b) ≡ by_piece s.server stream a → ((by_piece s.server stream a).stays_open && kind_after (stream.received ++ (a ++ b))) ≡ false →
      bytes_step m s n moment (a ++ b) ≡ two s a b
  cut_over_by s stream a b r h t e t' =
      let f = by_piece s.server stream a in
      let gone : ShareState S = ended (record s { server = f.server }) n in
      rw (bytes-over s stream (a ++ b) f h e t', bytes-over s stream a f h refl t, bytes_step-none m gone n moment b (stream_of-without n s.streams r.rising))
      (rw (append-nil (f.outputs ++ end_of n ∷ []), append-nil f.requests) refl)

  cut_over_at : (s : ShareState S) (stream : StreamState) (a b : List ℕ) (x : Bool) → StreamsInOrder s → stream_of n s.streams ≡ Some stream → (by_piece s.server stream a).stays_open ≡ x →
      (x && kind_after (stream.received ++ a)) ≡ false → bytes_step m s n moment (a ++ b) ≡ two s a b
  cut_over_at s stream a b true r h e t =
      let f = by_piece s.server stream a in
      let is = by-is s.server stream a in
      let more = nothing_more (stream.received ++ a) b t in
      let open_still = ap (λ d. d.stays_open) (sym is) ∙ e in
      let on = by-cut s.server stream a b ∙ steps-on s.server stream.connection (added_payloads stream.received a) (added_payloads (stream.received ++ a) b) open_still in
      let none : after_step f (all f.server f.connection []) ≡ f =
      rw (append-nil f.outputs, append-nil f.requests) (ap (λ y. record f { stays_open = y }) (sym e)) in
      let on' : by_piece s.server stream (a ++ b) ≡ after_step f (all f.server f.connection []) = rw (more.added, ← is) at on in
      let t' = rw (append_assoc stream.received a b) at more.faulty in
      cut_over_by s stream a b r h (rw (e, t) refl) (on' ∙ none) (rw (e, t') refl)
  cut_over_at s stream a b false r h e t =
      let is = by-is s.server stream a in
      let over = steps-over s.server stream.connection (added_payloads stream.received a) (added_payloads (stream.received ++ a) b) (ap (λ d. d.stays_open) (sym is) ∙ e) in
      cut_over_by s stream a b r h (rw e refl) (by-cut s.server stream a b ∙ over ∙ sym is) (rw e refl)

  cut_stream : (s : ShareState S) (stream : StreamState) (a b : List ℕ) (c : Bool) → StreamsInOrder s → stream_of n s.streams ≡ Some stream →
      ((by_piece s.server stream a).stays_open && kind_after (stream.received ++ a)) ≡ c → bytes_step m s n moment (a ++ b) ≡ two s a b
  cut_stream s stream a b true r h t = cut_open s stream a b h t
  cut_stream s stream a b false r h t = cut_over_at s stream a b _ r h refl t

  cut_at : (s : ShareState S) (a b : List ℕ) (o : Option StreamState) → StreamsInOrder s → stream_of n s.streams ≡ o → bytes_step m s n moment (a ++ b) ≡ two s a b
  cut_at s a b None r h = rw (bytes_step-none m s n moment (a ++ b) h, bytes_step-none m s n moment a h, bytes_step-none m s n moment b h) refl
  cut_at s a b (Some stream) r h = cut_stream s stream a b _ r h refl

  -- one event, in two
  pub bytes_step-cut : (s : ShareState S) (a b : List ℕ) → StreamsInOrder s → bytes_step m s n moment (a ++ b) ≡ two s a b
  bytes_step-cut s a b r = cut_at s a b _ r refl

-- the place of a stop, one event later
later_head : (o : Option Stop) → option_map later (option_map later o) ≡ option_map (later_behind 0) (option_map later o)
later_head None = refl
later_head (Some f) = let t : ltb 0 (suc f.place) ≡ true = lt-ltb 0 (suc f.place) (omega arith) in rw t refl

later_more_at : (k : ℕ) (f : Stop) (b : Bool) → ltb k f.place ≡ b → later (later_behind k f) ≡ later_behind (suc k) (later f)
later_more_at k f true e =
    let t : ltb (suc k) (suc f.place) ≡ true = lt-ltb (suc k) (suc f.place) (omega (arith, ltb-true k f.place e)) in
    rw (t, e) refl
later_more_at k f false e =
    let t : ltb (suc k) (suc f.place) ≡ false = le-ltb _ _ (omega (arith, ltb-false k f.place e)) in
    rw (t, e) refl

later_more : (k : ℕ) (o : Option Stop) → option_map later (option_map (later_behind k) o) ≡ option_map (later_behind (suc k)) (option_map later o)
later_more k None = refl
later_more k (Some f) = ap Some (later_more_at k f _ refl)

pub moved_none : (o : Option Stop) → o ≡ option_map (moved 0) o
moved_none None = refl
moved_none (Some f) = let e : 0 + f.place ≡ f.place = omega arith in rw e refl

moved_more : (k : ℕ) (o : Option Stop) → option_map later (option_map (moved k) o) ≡ option_map (moved (suc k)) o
moved_more k None = refl
moved_more k (Some f) = let e : suc (k + f.place) ≡ suc k + f.place = omega arith in rw e refl

stop_none : (o : Option Stop) → option_map later o ≡ None → o ≡ None
stop_none None h = refl
stop_none (Some f) h = cc

is_none-later : (o : Option Stop) → is_none (option_map later o) ≡ false → is_none o ≡ false
is_none-later None h = h
is_none-later (Some f) h = refl

module _ {S : Type 0} (m : Meaning S) where
  one_by_two : (a b : EventStep S) (r : Ran S) → then_ran a (then_ran b r) ≡ with_one_more_at 0 (then_ran (record { state = b.state; outputs = a.outputs ++ b.outputs; requests = a.requests ++ b.requests }) r)
  one_by_two a b r = rw (append_assoc a.outputs b.outputs r.outputs, later_head r.stop) refl

  cut_head_at : (s : ShareState S) (n moment : ℕ) (a b : List ℕ) (after : List EventText) (o : Option ServeFault) → StreamsInOrder s → event_refusal s (brings n moment a) ≡ o →
      run m s (brings n moment a ∷ brings n moment b ∷ after) ≡ with_one_more_at 0 (run m s (brings n moment (a ++ b) ∷ after))
  cut_head_at s n moment a b after None h e =
      let first_step = bytes_step m s n moment a in
      let second_step = bytes_step m first_step.state n moment b in
      let e' : event_refusal first_step.state (brings n moment b) ≡ None = rw (bytes_step-next m s n moment a) e in
      rw (e, e', bytes_step-cut m n moment s a b h) (one_by_two first_step second_step (run m second_step.state after))
  cut_head_at s n moment a b after (Some why) h e = rw e refl

  cut_more : (d : EventStep S) (k : ℕ) (s : ShareState S) (r r' : Ran S) (o : Option ServeFault) → r ≡ with_one_more_at k r' →
      option_map_or (refused_at_once s) o (then_ran d r) ≡ with_one_more_at (suc k) (option_map_or (refused_at_once s) o (then_ran d r'))
  cut_more d k s r r' None e = rw e (ap (λ t. record { state = r'.state; outputs = d.outputs ++ r'.outputs; stop = t }) (later_more k r'.stop))
  cut_more d k s r r' (Some why) e = let t : ltb (suc k) 0 ≡ false = le-ltb _ _ (omega arith) in rw t refl

  pub cuts_do_not_matter : (s : ShareState S) → StreamsInOrder s → (before after : List EventText) (n moment : ℕ) (a b : List ℕ) →
      run m s (before ++ brings n moment a ∷ brings n moment b ∷ after) ≡ with_one_more_at (length before) (run m s (before ++ brings n moment (a ++ b) ∷ after))
  cuts_do_not_matter s h [] after n moment a b = cut_head_at s n moment a b after _ h refl
  cuts_do_not_matter s h (x ∷ before) after n moment a b =
      let d = event_step m s x in
      cut_more d (length before) s _ _ (event_refusal s x) (cuts_do_not_matter d.state (order_step m s x h) before after n moment a b)

  -- runs one after the other
  pub goes_on_at : (s : ShareState S) (d : EventStep S) (k : ℕ) (r whole second : Ran S) (o : Option ServeFault) →
      (r.stop ≡ None → whole ≡ run_after k r.outputs second) → (option_map_or (refused_at_once s) o (then_ran d r)).stop ≡ None →
      option_map_or (refused_at_once s) o (then_ran d whole) ≡ run_after (suc k) (option_map_or (refused_at_once s) o (then_ran d r)).outputs second
  goes_on_at s d k r whole second None ih h =
      rw (ih (stop_none r.stop h), append_assoc d.outputs r.outputs second.outputs) (ap (λ t. record { state = second.state; outputs = d.outputs ++ (r.outputs ++ second.outputs); stop = t }) (moved_more k second.stop))
  goes_on_at s d k r whole second (Some why) ih h = cc

  pub state_at : (s : ShareState S) (d : EventStep S) (r : Ran S) (o : Option ServeFault) → (option_map_or (refused_at_once s) o (then_ran d r)).stop ≡ None →
      (option_map_or (refused_at_once s) o (then_ran d r)).state ≡ r.state
  state_at s d r None h = refl
  state_at s d r (Some why) h = cc

  pub run_goes_on : (s : ShareState S) (events others : List EventText) → (run m s events).stop ≡ None →
      run m s (events ++ others) ≡ run_after (length events) (run m s events).outputs (run m (run m s events).state others)
  run_goes_on s [] others h = let r = run m s others in ap (λ t. record { state = r.state; outputs = r.outputs; stop = t }) (moved_none r.stop)
  run_goes_on s (x ∷ events) others h =
      let d = event_step m s x in
      let r = run m d.state events in
      rw (state_at s d r (event_refusal s x) h)
      (goes_on_at s d (length events) r (run m d.state (events ++ others)) (run m r.state others) (event_refusal s x) (run_goes_on d.state events others) h)

  stays_at : (s : ShareState S) (d : EventStep S) (r whole : Ran S) (o : Option ServeFault) → (is_none r.stop ≡ false → whole ≡ r) →
      is_none (option_map_or (refused_at_once s) o (then_ran d r)).stop ≡ false → option_map_or (refused_at_once s) o (then_ran d whole) ≡ option_map_or (refused_at_once s) o (then_ran d r)
  stays_at s d r whole None ih h = ap (then_ran d) (ih (is_none-later r.stop h))
  stays_at s d r whole (Some why) ih h = refl

  stays_by : (s : ShareState S) (events others : List EventText) → is_none (run m s events).stop ≡ false → run m s (events ++ others) ≡ run m s events
  stays_by s [] others h = cc
  stays_by s (x ∷ events) others h =
      let d = event_step m s x in
      stays_at s d (run m d.state events) (run m d.state (events ++ others)) (event_refusal s x) (stays_by d.state events others) h

  pub run_stays : (s : ShareState S) (events others : List EventText) (fault : Stop) → (run m s events).stop ≡ Some fault → run m s (events ++ others) ≡ run m s events
  run_stays s events others fault h = stays_by s events others (rw h refl)

  -- a run from what is unread
  pub same_at : (s s' : ShareState S) (d d' : EventStep S) (r r' : Ran S) (o : Option ServeFault) → unread s ≡ unread s' → unread_step d ≡ unread_step d' → run_behind [] r ≡ run_behind [] r' →
      run_behind [] (option_map_or (refused_at_once s) o (then_ran d r)) ≡ run_behind [] (option_map_or (refused_at_once s') o (then_ran d' r'))
  same_at s s' d d' r r' None h e ih =
      let outputs = ap (λ t. t.outputs) e in
      let left = ap (λ t. t.state) ih in
      let more = ap (λ t. t.outputs) ih in
      let stop = ap (λ t. t.stop) ih in
      rw (left, outputs, more, stop) refl
  same_at s s' d d' r r' (Some why) h e ih = rw h refl

  same_run : (s s' : ShareState S) (events : List EventText) → unread s ≡ unread s' → run_behind [] (run m s events) ≡ run_behind [] (run m s' events)
  same_run s s' [] h = rw h refl
  same_run s s' (x ∷ events) h =
      let d = event_step m s x in
      let d' = event_step m s' x in
      let e : unread_step d ≡ unread_step d' = sym (event_step-unread m s x) ∙ ap (λ t. unread_step (event_step m t x)) h ∙ event_step-unread m s' x in
      let o : event_refusal s x ≡ event_refusal s' x = sym (refusal-unread m s x) ∙ ap (λ t. event_refusal t x) h ∙ refusal-unread m s' x in
      rw o (same_at s s' d d' (run m d.state events) (run m d'.state events) (event_refusal s' x) h e (same_run d.state d'.state events (ap (λ t. t.state) e)))

  pub unread_is_enough : (s : ShareState S) (events : List EventText) → run_behind [] (run m (unread s) events) ≡ run_behind [] (run m s events)
  unread_is_enough s events = same_run (unread s) s events (unread-unread s)

-- runs that are alike
pub alike_same : {S : Type 0} (r : Ran S) → AreAlike r r
alike_same r = record { state = refl; outputs = refl; reason = refl }

alike_sym : {S : Type 0} (r r' : Ran S) → AreAlike r r' → AreAlike r' r
alike_sym r r' h = record { state = sym h.state; outputs = sym h.outputs; reason = sym h.reason }

alike_trans : {S : Type 0} (r r' r'' : Ran S) → AreAlike r r' → AreAlike r' r'' → AreAlike r r''
alike_trans r r' r'' h k = record { state = h.state ∙ k.state; outputs = h.outputs ∙ k.outputs; reason = h.reason ∙ k.reason }

reason_at : (k : ℕ) (f : Stop) (b : Bool) → ltb k f.place ≡ b → (later_behind k f).fault ≡ f.fault
reason_at k f true e = rw e refl
reason_at k f false e = rw e refl

reason_behind : (k : ℕ) (o : Option Stop) → option_map (λ f. f.fault) (option_map (later_behind k) o) ≡ option_map (λ f. f.fault) o
reason_behind k None = refl
reason_behind k (Some f) = ap Some (reason_at k f _ refl)

alike_more : {S : Type 0} (k : ℕ) (r r' : Ran S) → r ≡ with_one_more_at k r' → AreAlike r r'
alike_more k r r' e = rw e (record { state = refl; outputs = refl; reason = reason_behind k r'.stop })

module _ {S : Type 0} (m : Meaning S) (n moment : ℕ) where
  whole : (s : ShareState S) → StreamsInOrder s → (before after : List EventText) (piece : List ℕ) (pieces : List (List ℕ)) →
      AreAlike (run m s (before ++ brings n moment piece ∷ (pieces_on n moment pieces ++ after))) (run m s (before ++ brings n moment (piece ++ bytes_of_pieces pieces) ∷ after))
  whole s h before after piece [] =
      let P : List ℕ → Type 0 = λ bytes. AreAlike (run m s (before ++ brings n moment piece ∷ after)) (run m s (before ++ brings n moment bytes ∷ after)) in
      subst P (sym (append-nil piece)) (alike_same (run m s (before ++ brings n moment piece ∷ after)))
  whole s h before after piece (next ∷ pieces) =
      let first = run m s (before ++ brings n moment piece ∷ (brings n moment next ∷ (pieces_on n moment pieces ++ after))) in
      let one = run m s (before ++ brings n moment (piece ++ next) ∷ (pieces_on n moment pieces ++ after)) in
      let all = run m s (before ++ brings n moment ((piece ++ next) ++ bytes_of_pieces pieces) ∷ after) in
      let P : List ℕ → Type 0 = λ bytes. AreAlike first (run m s (before ++ brings n moment bytes ∷ after)) in
      subst P (append_assoc piece next (bytes_of_pieces pieces))
      (alike_trans first one all
      (alike_more (length before) first one (cuts_do_not_matter m s h before (pieces_on n moment pieces ++ after) n moment piece next))
      (whole s h before after (piece ++ next) pieces))

  pub however_cut : (s : ShareState S) → StreamsInOrder s → (before after : List EventText) (pieces others : List (List ℕ)) → 0 < length pieces → 0 < length others → bytes_of_pieces pieces ≡ bytes_of_pieces others →
      AreAlike (run m s (before ++ (pieces_on n moment pieces ++ after))) (run m s (before ++ (pieces_on n moment others ++ after)))
  however_cut s h before after [] others p q e = absurd (omega (arith, p))
  however_cut s h before after (x ∷ pieces) [] p q e = absurd (omega (arith, q))
  however_cut s h before after (x ∷ pieces) (y ∷ others) p q e =
      let here = whole s h before after x pieces in
      let there = alike_sym _ _ (whole s h before after y others) in
      alike_trans _ (run m s (before ++ brings n moment (bytes_of_pieces (y ∷ others)) ∷ after)) _ (rw e at here) there
