-- The connections stand in rising number, and each by itself.
use Rattle.std.proofs.Common.{◌≡◌, ℕ, ◌+◌, ◌<◌, ◌&&◌, eqb, Bool, true, false, List, [], ◌∷◌, ◌++◌, Option, None, Some, is_none, is_eq, refl, sym, ap, subst, ◌∙◌, arith}
use Rattle.std.specs.Option.{option_map_or}
use Rattle.std.specs.List.{AllByRecursion}
use Rattle.std.specs.Map.{lookup, set_value, remove_entry}
use Rattle.std.specs.BTreeMap.{is_at, insert_entry}
use Rattle.std.specs.Ordering.{nat_cmp}
use Rattle.std.specs.declared.cmp.Ordering.{Ordering}
use Rattle.std.specs.declared.cmp.Ordering.TheVariants.{Less, Equal, Greater}
use Rattle.std.proofs.lemmas.Bool.{eqb-true, ne_eqb}
use Rattle.smb_wire.specs.Limits.{longest_payload}
use Rattle.smb_session.specs.Numbers.{IsRising}
use Rattle.smb_session.proofs.Numbers.{rising-with}
use Rattle.smb_session.proofs.Windows.{rising-filter, all-append}
use Rattle.smb_session.specs.Authenticator.{Meaning}
use Rattle.smb_engine.specs.declared.fault.ServeFault.{ServeFault}
use Rattle.smb_frame.specs.Reading.{rest, fault_of}
use Rattle.smb_engine.specs.declared.connection.Connection.{Connection}
use Rattle.smb_request.specs.State.{ServerState}
use Rattle.smb_engine.specs.Laws.{StreamsInOrder, receiver}
use Rattle.smb_engine.specs.State.{StreamState, ShareState, stream_of, new_stream, opened, ended}
use Rattle.smb_engine.specs.Output.{Output, end_of, reply_frame}
use Rattle.smb_engine.specs.Parts.{added_payloads, and_then, closed_by, settled, then_ran, refused_at_once}
use Rattle.smb_engine.specs.Run.{Step, payload_step, payload_steps, piece_step, EventStep, bytes_step, event_step, event_refusal, Ran, run}
use Rattle.smb_engine.specs.Good.{GoodState}
use Rattle.smb_peers.specs.Event.{EventText, opens, brings, ends, connection_of}
use Rattle.smb_request.proofs.Numbered.{at_is, at_same}
use Rattle.smb_engine.proofs.Chains.{payload_whole}
use Rattle.smb_engine.proofs.Streams.{arrived, all_set, all_remove, all_insert, bytes_step-none, bytes_step-some}
use Rattle.smb_engine.proofs.Kept.{numbers_of, numbers-set, numbers-remove, numbers-insert, not_among, given_more, given_below}

pub good_in_order : {S : Type 0} (s : ShareState S) → GoodState s → StreamsInOrder s
good_in_order s h = record { rising = subst IsRising h.known h.sessions.connections; given = given_below s.streams s.next h.given }

-- what was found is found again where another is put in its place, and that again where yet another is
found_at : (test : ℕ → Bool) (e : ℕ × StreamState) (es : List (ℕ × StreamState)) (stream new : StreamState) (b : Bool) → test e.0 ≡ b →
    (lookup test es ≡ Some stream → lookup test (set_value test es new) ≡ Some new) → lookup test (e ∷ es) ≡ Some stream → lookup test (set_value test (e ∷ es) new) ≡ Some new
found_at test e es stream new true t ih h = rw (t, t) refl
found_at test e es stream new false t ih h = rw (t, t) (ih (rw t at h))

pub lookup-set : (test : ℕ → Bool) (es : List (ℕ × StreamState)) (stream new : StreamState) → lookup test es ≡ Some stream → lookup test (set_value test es new) ≡ Some new
lookup-set test [] stream new h = cc
lookup-set test (e ∷ es) stream new h = found_at test e es stream new (test e.0) refl (lookup-set test es stream new) h

twice_at : (test : ℕ → Bool) (e : ℕ × StreamState) (es : List (ℕ × StreamState)) (v w : StreamState) (b : Bool) → test e.0 ≡ b →
    set_value test (set_value test es v) w ≡ set_value test es w → set_value test (set_value test (e ∷ es) v) w ≡ set_value test (e ∷ es) w
twice_at test e es v w true t ih = rw (t, t) refl
twice_at test e es v w false t ih = rw (t, t) (ap (λ x. e ∷ x) ih)

pub set-set : (test : ℕ → Bool) (es : List (ℕ × StreamState)) (v w : StreamState) → set_value test (set_value test es v) w ≡ set_value test es w
set-set test [] v w = refl
set-set test (e ∷ es) v w = twice_at test e es v w (test e.0) refl (set-set test es v w)

-- where the numbers rise, none stands twice
above_none : (n : ℕ) (es : List (ℕ × StreamState)) → AllByRecursion (λ k. n < k) (numbers_of es) → stream_of n es ≡ None
above_none n [] a = refl
above_none n (e ∷ es) a =
    let t : eqb e.0 n ≡ false = ne_eqb e.0 n (λ x. omega (arith, a.0, x)) in
    rw (at_is n e.0, t) (above_none n es a.1)

gone_at : (n : ℕ) (e : ℕ × StreamState) (es : List (ℕ × StreamState)) (b : Bool) → eqb e.0 n ≡ b → AllByRecursion (λ k. e.0 < k) (numbers_of es) →
    stream_of n (remove_entry (is_at (nat_cmp n)) es) ≡ None → stream_of n (remove_entry (is_at (nat_cmp n)) (e ∷ es)) ≡ None
gone_at n e es true t a ih = rw (at_is n e.0, t) (above_none n es (subst (λ (k : ℕ). AllByRecursion (λ m. k < m) (numbers_of es)) (eqb-true e.0 n t) a))
gone_at n e es false t a ih = rw (at_is n e.0, t) (rw (at_is n e.0, t) ih)

pub stream_of-without : (n : ℕ) (es : List (ℕ × StreamState)) → IsRising (numbers_of es) → stream_of n (remove_entry (is_at (nat_cmp n)) es) ≡ None
stream_of-without n [] r = refl
stream_of-without n (e ∷ es) r = gone_at n e es (eqb e.0 n) refl r.0 (stream_of-without n es r.1)

-- the steps keep the order
order_set : {S : Type 0} (s t : ShareState S) (n : ℕ) (new : StreamState) → t.streams ≡ set_value (is_at (nat_cmp n)) s.streams new → t.next ≡ s.next → StreamsInOrder s → StreamsInOrder t
order_set s t n new e f h = record {
  rising = rw (e, numbers-set (is_at (nat_cmp n)) s.streams new) h.rising;
  given = rw (e, f) (all_set (λ x. x.0 < s.next) (is_at (nat_cmp n)) s.streams new (λ x p. p) h.given);
}

pub order_without : {S : Type 0} (s t : ShareState S) (n : ℕ) → t.streams ≡ remove_entry (is_at (nat_cmp n)) s.streams → t.next ≡ s.next → StreamsInOrder s → StreamsInOrder t
order_without s t n e f h = record {
  rising = rw (e, numbers-remove n s.streams h.rising) (rising-filter _ (numbers_of s.streams) h.rising);
  given = rw (e, f) (all_remove (λ x. x.0 < s.next) (is_at (nat_cmp n)) s.streams h.given);
}

pub order_opened : {S : Type 0} (s : ShareState S) → StreamsInOrder s → StreamsInOrder (opened s)
order_opened s h = record {
  rising = rw (← numbers-insert s.next new_stream s.streams h.given) (rising-with (numbers_of s.streams) s.next h.rising (not_among s.next s.streams h.given));
  given = all_insert (λ e. e.0 < s.next + 1) s.next new_stream s.streams (omega arith) (λ e p. p) (given_more s.streams s.next h.given);
}

order_settled : {S : Type 0} (s : ShareState S) (n : ℕ) (received : List ℕ) (t : Step S) (b : Bool) → t.stays_open ≡ b → StreamsInOrder s → StreamsInOrder (settled s n received t).state
order_settled s n received t true e h = rw e (order_set s _ n (record { received = received; connection = t.connection }) refl refl h)
order_settled s n received t false e h = rw e (order_without s _ n refl refl h)

next_settled : {S : Type 0} (s : ShareState S) (n : ℕ) (received : List ℕ) (t : Step S) (b : Bool) → t.stays_open ≡ b → (settled s n received t).state.next ≡ s.next
next_settled s n received t true e = rw e refl
next_settled s n received t false e = rw e refl

module _ {S : Type 0} (m : Meaning S) where
  order_bytes : (s : ShareState S) (n moment : ℕ) (piece : List ℕ) (o : Option StreamState) → stream_of n s.streams ≡ o → StreamsInOrder s → StreamsInOrder (bytes_step m s n moment piece).state
  order_bytes s n moment piece None e h = rw (bytes_step-none m s n moment piece e) h
  order_bytes s n moment piece (Some stream) e h = rw (bytes_step-some m s n moment piece stream e) (order_settled s n (stream.received ++ piece) (piece_step m (arrived n moment) s.server stream piece) _ refl h)

  next_at : (s : ShareState S) (n moment : ℕ) (piece : List ℕ) (o : Option StreamState) → stream_of n s.streams ≡ o → (bytes_step m s n moment piece).state.next ≡ s.next
  next_at s n moment piece None e = rw (bytes_step-none m s n moment piece e) refl
  next_at s n moment piece (Some stream) e = rw (bytes_step-some m s n moment piece stream e) (next_settled s n (stream.received ++ piece) (piece_step m (arrived n moment) s.server stream piece) _ refl)

  pub bytes_step-next : (s : ShareState S) (n moment : ℕ) (piece : List ℕ) → (bytes_step m s n moment piece).state.next ≡ s.next
  bytes_step-next s n moment piece = next_at s n moment piece (stream_of n s.streams) refl

  pub order_step : (s : ShareState S) (event : EventText) → StreamsInOrder s → StreamsInOrder (event_step m s event).state
  order_step s (opens n) h = order_opened s h
  order_step s (brings n moment piece) h = order_bytes s n moment piece (stream_of n s.streams) refl h
  order_step s (ends n) h = order_without s (ended s n) n refl refl h

  run_at : (s : ShareState S) (d : EventStep S) (r : Ran S) (o : Option ServeFault) → StreamsInOrder s → StreamsInOrder r.state → StreamsInOrder (option_map_or (refused_at_once s) o (then_ran d r)).state
  run_at s d r None h k = k
  run_at s d r (Some why) h k = h

  pub run_in_order : (s : ShareState S) (events : List EventText) → StreamsInOrder s → StreamsInOrder (run m s events).state
  run_in_order s [] h = h
  run_in_order s (event ∷ events) h =
      let d = event_step m s event in
      run_at s d (run m d.state events) (event_refusal s event) h (run_in_order d.state events (order_step s event h))

-- what is done at one number is not seen at another
differs : (n k x : ℕ) → eqb n k ≡ false → is_at (nat_cmp n) x ≡ true → is_at (nat_cmp k) x ≡ false
differs n k x d t =
    let same : x ≡ n = eqb-true x n (sym (at_is n x) ∙ t) in
    at_is k x ∙ ap (λ (y : ℕ). eqb y k) same ∙ d

other_set_at : (n k : ℕ) (e : ℕ × StreamState) (es : List (ℕ × StreamState)) (new : StreamState) (b : Bool) → is_at (nat_cmp n) e.0 ≡ b → eqb n k ≡ false →
    stream_of k (set_value (is_at (nat_cmp n)) es new) ≡ stream_of k es → stream_of k (set_value (is_at (nat_cmp n)) (e ∷ es) new) ≡ stream_of k (e ∷ es)
other_set_at n k e es new true t d ih = rw t (rw (differs n k e.0 d t) refl)
other_set_at n k e es new false t d ih = rw (t, ih) refl

pub other_set : (n k : ℕ) (es : List (ℕ × StreamState)) (new : StreamState) → eqb n k ≡ false → stream_of k (set_value (is_at (nat_cmp n)) es new) ≡ stream_of k es
other_set n k [] new d = refl
other_set n k (e ∷ es) new d = other_set_at n k e es new (is_at (nat_cmp n) e.0) refl d (other_set n k es new d)

other_without_at : (n k : ℕ) (e : ℕ × StreamState) (es : List (ℕ × StreamState)) (b : Bool) → is_at (nat_cmp n) e.0 ≡ b → eqb n k ≡ false →
    stream_of k (remove_entry (is_at (nat_cmp n)) es) ≡ stream_of k es → stream_of k (remove_entry (is_at (nat_cmp n)) (e ∷ es)) ≡ stream_of k (e ∷ es)
other_without_at n k e es true t d ih = rw (t, differs n k e.0 d t) refl
other_without_at n k e es false t d ih = rw (t, ih) refl

pub other_without : (n k : ℕ) (es : List (ℕ × StreamState)) → eqb n k ≡ false → stream_of k (remove_entry (is_at (nat_cmp n)) es) ≡ stream_of k es
other_without n k [] d = refl
other_without n k (e ∷ es) d = other_without_at n k e es (is_at (nat_cmp n) e.0) refl d (other_without n k es d)

other_insert_at : (n k : ℕ) (e : ℕ × StreamState) (es : List (ℕ × StreamState)) (new : StreamState) (o : Ordering) → nat_cmp n e.0 ≡ o → eqb n k ≡ false →
    stream_of k (insert_entry nat_cmp es n new) ≡ stream_of k es → stream_of k (insert_entry nat_cmp (e ∷ es) n new) ≡ stream_of k (e ∷ es)
other_insert_at n k e es new Less t d ih = rw (t, differs n k n d (at_same n n refl)) refl
other_insert_at n k e es new Equal t d ih = rw (t, differs n k e.0 d (ap is_eq t)) refl
other_insert_at n k e es new Greater t d ih = rw (t, ih) refl

pub other_insert : (n k : ℕ) (es : List (ℕ × StreamState)) (new : StreamState) → eqb n k ≡ false → stream_of k (insert_entry nat_cmp es n new) ≡ stream_of k es
other_insert n k [] new d = rw (differs n k n d (at_same n n refl)) refl
other_insert n k (e ∷ es) new d = other_insert_at n k e es new (nat_cmp n e.0) refl d (other_insert n k es new d)

other_settled : {S : Type 0} (s : ShareState S) (n k : ℕ) (received : List ℕ) (t : Step S) (b : Bool) → t.stays_open ≡ b → eqb n k ≡ false → stream_of k (settled s n received t).state.streams ≡ stream_of k s.streams
other_settled s n k received t true e d = rw e (other_set n k s.streams (record { received = received; connection = t.connection }) d)
other_settled s n k received t false e d = rw e (other_without n k s.streams d)

module _ {S : Type 0} (m : Meaning S) where
  pub other_bytes : (s : ShareState S) (n k moment : ℕ) (piece : List ℕ) (o : Option StreamState) → stream_of n s.streams ≡ o → eqb n k ≡ false →
      stream_of k (bytes_step m s n moment piece).state.streams ≡ stream_of k s.streams
  other_bytes s n k moment piece None e d = rw (bytes_step-none m s n moment piece e) refl
  other_bytes s n k moment piece (Some stream) e d = rw (bytes_step-some m s n moment piece stream e) (other_settled s n k (stream.received ++ piece) (piece_step m (arrived n moment) s.server stream piece) _ refl d)

  opens_at : (s : ShareState S) (n : ℕ) (b : Bool) → eqb n s.next ≡ b → event_refusal s (opens n) ≡ None → n ≡ s.next
  opens_at s n true t h = eqb-true n s.next t
  opens_at s n false t h = cc

  pub other_left : (s : ShareState S) (event : EventText) (other : ℕ) → event_refusal s event ≡ None → eqb (connection_of event) other ≡ false →
      stream_of other (event_step m s event).state.streams ≡ stream_of other s.streams
  other_left s (opens n) k h d =
      let same : n ≡ s.next = opens_at s n (eqb n s.next) refl h in
      other_insert s.next k s.streams new_stream (rw (← same) d)
  other_left s (brings n moment piece) k h d = other_bytes s n k moment piece (stream_of n s.streams) refl d
  other_left s (ends n) k h d = other_without n k s.streams d

-- what a connection puts out goes to it
module _ {S : Type 0} (m : Meaning S) (n k : ℕ) (d : eqb n k ≡ false) where
  abbrev IsNotFor : Output → Type 0
  IsNotFor output = eqb (receiver output) k ≡ false

  reply_not_for : (replies : List ℕ) → AllByRecursion IsNotFor (reply_frame n replies)
  reply_not_for [] = tt
  reply_not_for (byte ∷ replies) = (d, tt)

  payload_not_for : (moment : ℕ) (server : ServerState S) (connection : Connection) (payload : List ℕ) → AllByRecursion IsNotFor (payload_step m (arrived n moment) server connection payload).outputs
  payload_not_for moment server connection payload =
      let framed = (payload_whole m (arrived n moment) server connection payload).framed in
      rw framed.1 (reply_not_for framed.0)

  steps_at : (p : Step S) (others : ServerState S → Connection → Step S) (b : Bool) → p.stays_open ≡ b → AllByRecursion IsNotFor p.outputs →
      AllByRecursion IsNotFor (others p.server p.connection).outputs → AllByRecursion IsNotFor (and_then others p).outputs
  steps_at p others true e h ih = rw e (all-append IsNotFor p.outputs (others p.server p.connection).outputs h ih)
  steps_at p others false e h ih = rw e h

  steps_not_for : (moment : ℕ) (server : ServerState S) (connection : Connection) (xs : List (List ℕ)) → AllByRecursion IsNotFor (payload_steps m (arrived n moment) server connection xs).outputs
  steps_not_for moment server connection [] = tt
  steps_not_for moment server connection (x ∷ xs) =
      let p = payload_step m (arrived n moment) server connection x in
      steps_at p (λ s c. payload_steps m (arrived n moment) s c xs) p.stays_open refl (payload_not_for moment server connection x) (steps_not_for moment p.server p.connection xs)

  closed_at : (received : List ℕ) (steps : Step S) (b : Bool) → (steps.stays_open && is_none (fault_of longest_payload (rest longest_payload received))) ≡ b →
      AllByRecursion IsNotFor steps.outputs → AllByRecursion IsNotFor (closed_by n received steps).outputs
  closed_at received steps true e h = rw e h
  closed_at received steps false e h = rw e (all-append IsNotFor steps.outputs (end_of n ∷ []) h (d, tt))

  piece_not_for : (moment : ℕ) (server : ServerState S) (stream : StreamState) (piece : List ℕ) → AllByRecursion IsNotFor (piece_step m (arrived n moment) server stream piece).outputs
  unfolding piece_step
  piece_not_for moment server stream piece = closed_at (stream.received ++ piece) (payload_steps m (arrived n moment) server stream.connection (added_payloads stream.received piece)) _ refl (steps_not_for moment server stream.connection (added_payloads stream.received piece))

  bytes_not_for : (s : ShareState S) (moment : ℕ) (piece : List ℕ) (o : Option StreamState) → stream_of n s.streams ≡ o → AllByRecursion IsNotFor (bytes_step m s n moment piece).outputs
  bytes_not_for s moment piece None e = rw (bytes_step-none m s n moment piece e) tt
  bytes_not_for s moment piece (Some stream) e =
      rw (bytes_step-some m s n moment piece stream e) (piece_not_for moment s.server stream piece)

module _ {S : Type 0} (m : Meaning S) where
  pub not_for : (s : ShareState S) (event : EventText) (k : ℕ) → eqb (connection_of event) k ≡ false → AllByRecursion (λ output. eqb (receiver output) k ≡ false) (event_step m s event).outputs
  not_for s (opens n) k d = tt
  not_for s (brings n moment piece) k d = bytes_not_for m n k d s moment piece _ refl
  not_for s (ends n) k d = tt

  -- a run is seen on the connections of its events alone
  abbrev IsLeft : ℕ → ShareState S → Ran S → Type 0
  IsLeft k s r = (stream_of k r.state.streams ≡ stream_of k s.streams) × AllByRecursion (λ output. eqb (receiver output) k ≡ false) r.outputs

  left_at : (k : ℕ) (s : ShareState S) (d : EventStep S) (r : Ran S) (o : Option ServeFault) →
      (o ≡ None → stream_of k d.state.streams ≡ stream_of k s.streams) → AllByRecursion (λ output. eqb (receiver output) k ≡ false) d.outputs → IsLeft k d.state r →
      IsLeft k s (option_map_or (refused_at_once s) o (then_ran d r))
  left_at k s d r None l h ih = (ih.0 ∙ l refl, all-append (λ output. eqb (receiver output) k ≡ false) d.outputs r.outputs h ih.1)
  left_at k s d r (Some why) l h ih = (refl, tt)

  pub others_left : (s : ShareState S) (events : List EventText) (k : ℕ) → AllByRecursion (λ event. eqb (connection_of event) k ≡ false) events → IsLeft k s (run m s events)
  others_left s [] k a = (refl, tt)
  others_left s (event ∷ events) k a =
      let d = event_step m s event in
      left_at k s d (run m d.state events) (event_refusal s event) (λ e. other_left m s event k e a.0) (not_for s event k a.0) (others_left d.state events k a.1)
