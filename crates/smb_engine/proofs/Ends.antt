-- A connection's end is the last that is put out to it.
use Rattle.std.proofs.Common.{◌≡◌, ℕ, ◌<◌, ◌&&◌, eqb, ltb, if◌then◌else◌, Bool, true, false, List, [], ◌∷◌, ◌++◌, Option, None, Some, is_none, refl, sym, ap, subst, ◌∙◌, arith}
use Rattle.std.specs.Option.{option_map_or}
use Rattle.std.specs.List.{AllByRecursion}
use Rattle.std.specs.Map.{remove_entry}
use Rattle.std.specs.BTreeMap.{is_at}
use Rattle.std.specs.Ordering.{nat_cmp}
use Rattle.std.proofs.lemmas.Bool.{eqb-true, ltb-true, ne_eqb, eq-eqb, true≢false}
use Rattle.smb_wire.specs.Limits.{longest_payload}
use Rattle.smb_session.proofs.Windows.{all-append}
use Rattle.smb_session.specs.Authenticator.{Meaning}
use Rattle.smb_frame.specs.Reading.{rest, fault_of}
use Rattle.smb_engine.specs.declared.connection.Connection.{Connection}
use Rattle.smb_engine.specs.declared.fault.ServeFault.{ServeFault}
use Rattle.smb_engine.specs.declared.fault.ServeFault.TheVariants.{BadEvent}
use Rattle.smb_request.specs.State.{ServerState}
use Rattle.smb_engine.specs.Laws.{StreamsInOrder, receiver}
use Rattle.smb_engine.specs.State.{StreamState, ShareState, stream_of}
use Rattle.smb_engine.specs.Output.{Output, frame_to, end_of, reply_frame}
use Rattle.smb_engine.specs.Parts.{added_payloads, and_then, closed_by, settled, then_ran, refused_at_once}
use Rattle.smb_engine.specs.Run.{Step, payload_step, payload_steps, piece_step, EventStep, bytes_step, event_step, event_refusal, Ran, run}
use Rattle.smb_peers.specs.Event.{EventText, opens, brings, ends, connection_of}
use Rattle.smb_engine.proofs.Chains.{payload_whole}
use Rattle.smb_engine.proofs.Streams.{arrived, bytes_step-none, bytes_step-some}
use Rattle.smb_engine.proofs.Order.{stream_of-without, bytes_step-next, order_step, other_left, not_for}

module _ (n : ℕ) where
  abbrev IsNotFor : Output → Type 0
  IsNotFor output = eqb (receiver output) n ≡ false

  -- no end of this connection
  abbrev IsNoEnd : Output → Type 0
  IsNoEnd output = output ≡ end_of n → ⊥

  not_for_no_end : (x : Output) → IsNotFor x → IsNoEnd x
  not_for_no_end x h e =
      let t : eqb n n ≡ false = sym (ap (λ o. eqb (receiver o) n) e) ∙ h in
      true≢false (sym (eq-eqb n n refl) ∙ t)

  no_ends : (xs : List Output) → AllByRecursion IsNotFor xs → AllByRecursion IsNoEnd xs
  no_ends [] h = tt
  no_ends (x ∷ xs) h = (not_for_no_end x h.0, no_ends xs h.1)

  -- behind the connection's end nothing goes to it
  abbrev IsLastEnd : List Output → Type 0
  IsLastEnd [] = Unit {0}
  IsLastEnd (output ∷ outputs) = (output ≡ end_of n → AllByRecursion IsNotFor outputs) × IsLastEnd outputs

  nothing_behind : (before after : List Output) → IsLastEnd (before ++ end_of n ∷ after) → AllByRecursion IsNotFor after
  nothing_behind [] after h = h.0 refl
  nothing_behind (output ∷ before) after h = nothing_behind before after h.1

  -- what has no end, and then what is good
  last_behind : (xs ys : List Output) → AllByRecursion IsNoEnd xs → IsLastEnd ys → IsLastEnd (xs ++ ys)
  last_behind [] ys h k = k
  last_behind (x ∷ xs) ys h k = (λ e. absurd (h.0 e), last_behind xs ys h.1 k)

  all_last : (xs : List Output) → AllByRecursion IsNotFor xs → IsLastEnd xs
  all_last [] h = tt
  all_last (x ∷ xs) h = (λ e. h.1, all_last xs h.1)

  frame_is_none : (bytes : List ℕ) → IsNoEnd (frame_to n bytes)
  frame_is_none bytes e = cc

-- a connection that was and is no more
record IsGone {S : Type 0} (n : ℕ) (s : ShareState S) : Type 0 where
  pub gone : stream_of n s.streams ≡ None
  pub before : n < s.next

without_at : (n : ℕ) (e : ℕ × StreamState) (es : List (ℕ × StreamState)) (b : Bool) → is_at (nat_cmp n) e.0 ≡ b → (stream_of n es ≡ None → stream_of n (remove_entry (is_at (nat_cmp n)) es) ≡ None) →
    stream_of n (e ∷ es) ≡ None → stream_of n (remove_entry (is_at (nat_cmp n)) (e ∷ es)) ≡ None
without_at n e es true t ih h = let h' = rw t at h in cc
without_at n e es false t ih h = rw (t, t) (ih (rw t at h))

without_none : (n : ℕ) (es : List (ℕ × StreamState)) → stream_of n es ≡ None → stream_of n (remove_entry (is_at (nat_cmp n)) es) ≡ None
without_none n [] h = refl
without_none n (e ∷ es) h = without_at n e es (is_at (nat_cmp n) e.0) refl (without_none n es) h

module _ {S : Type 0} (m : Meaning S) (n : ℕ) where
  next_above : (s : ShareState S) (event : EventText) → n < s.next → n < (event_step m s event).state.next
  next_above s (opens k) p = omega (arith, p)
  next_above s (brings k moment piece) p = rw (bytes_step-next m s k moment piece) p
  next_above s (ends k) p = p

  -- what an event does that is not refused, where the connection is gone
  record Quiet (s : ShareState S) (d : EventStep S) : Type 0 where
    pub stays : IsGone n d.state
    pub says : AllByRecursion (IsNotFor n) d.outputs

  quiet_on : (s : ShareState S) (event : EventText) → connection_of event ≡ n → IsGone n s → event_refusal s event ≡ None → Quiet s (event_step m s event)
  quiet_on s (opens k) e g r =
      let t : eqb k s.next ≡ false = ne_eqb k s.next (λ x. omega (arith, g.before, e, x)) in
      let r' = rw t at r in cc
  quiet_on s (brings k moment piece) e g r =
      let none : stream_of k s.streams ≡ None = rw e g.gone in
      rw (bytes_step-none m s k moment piece none) (record { stays = g; says = tt })
  quiet_on s (ends k) e g r = rw e (record { stays = record { gone = without_none n s.streams g.gone; before = g.before }; says = tt })

  quiet_at : (s : ShareState S) (event : EventText) (b : Bool) → eqb (connection_of event) n ≡ b → IsGone n s → event_refusal s event ≡ None → Quiet s (event_step m s event)
  quiet_at s event true t g r = quiet_on s event (eqb-true (connection_of event) n t) g r
  quiet_at s event false t g r = record {
    stays = record { gone = other_left m s event n r t ∙ g.gone; before = next_above s event g.before };
    says = not_for m s event n t;
  }

  quiet_run_at : (s : ShareState S) (d : EventStep S) (r : Ran S) (o : Option ServeFault) → (o ≡ None → AllByRecursion (IsNotFor n) d.outputs) → (o ≡ None → AllByRecursion (IsNotFor n) r.outputs) →
      AllByRecursion (IsNotFor n) (option_map_or (refused_at_once s) o (then_ran d r)).outputs
  quiet_run_at s d r None h k = all-append (IsNotFor n) d.outputs r.outputs (h refl) (k refl)
  quiet_run_at s d r (Some why) h k = tt

  quiet_run : (s : ShareState S) (events : List EventText) → IsGone n s → AllByRecursion (IsNotFor n) (run m s events).outputs
  quiet_run s [] g = tt
  quiet_run s (event ∷ events) g =
      let d = event_step m s event in
      let one = quiet_at s event _ refl g in
      quiet_run_at s d (run m d.state events) (event_refusal s event) (λ r. (one r).says) (λ r. quiet_run d.state events (one r).stays)

  -- a piece puts frames out, and then the end or none
  reply_no_end : (replies : List ℕ) → AllByRecursion (IsNoEnd n) (reply_frame n replies)
  reply_no_end [] = tt
  reply_no_end (byte ∷ replies) = (λ e. cc, tt)

  payload_no_end : (moment : ℕ) (server : ServerState S) (connection : Connection) (payload : List ℕ) → AllByRecursion (IsNoEnd n) (payload_step m (arrived n moment) server connection payload).outputs
  payload_no_end moment server connection payload =
      let framed = (payload_whole m (arrived n moment) server connection payload).framed in
      rw framed.1 (reply_no_end framed.0)

  steps_at : (p : Step S) (others : ServerState S → Connection → Step S) (b : Bool) → p.stays_open ≡ b → AllByRecursion (IsNoEnd n) p.outputs →
      AllByRecursion (IsNoEnd n) (others p.server p.connection).outputs → AllByRecursion (IsNoEnd n) (and_then others p).outputs
  steps_at p others true e h ih = rw e (all-append (IsNoEnd n) p.outputs (others p.server p.connection).outputs h ih)
  steps_at p others false e h ih = rw e h

  steps_no_end : (moment : ℕ) (server : ServerState S) (connection : Connection) (xs : List (List ℕ)) → AllByRecursion (IsNoEnd n) (payload_steps m (arrived n moment) server connection xs).outputs
  steps_no_end moment server connection [] = tt
  steps_no_end moment server connection (x ∷ xs) =
      let p = payload_step m (arrived n moment) server connection x in
      steps_at p (λ s c. payload_steps m (arrived n moment) s c xs) p.stays_open refl (payload_no_end moment server connection x) (steps_no_end moment p.server p.connection xs)

  -- whatever comes behind it, if nothing of it goes to a connection that is gone
  abbrev Ends : EventStep S → Type 0
  Ends d = (others : List Output) → IsLastEnd n others → (IsGone n d.state → AllByRecursion (IsNotFor n) others) → IsLastEnd n (d.outputs ++ others)

  end_last : (xs others : List Output) → AllByRecursion (IsNoEnd n) xs → AllByRecursion (IsNotFor n) others → IsLastEnd n ((xs ++ end_of n ∷ []) ++ others)
  end_last [] others h k = (λ e. k, all_last n others k)
  end_last (x ∷ xs) others h k = (λ e. absurd (h.0 e), end_last xs others h.1 k)

  closed_at : (s : ShareState S) (received : List ℕ) (steps : Step S) (b : Bool) → (steps.stays_open && is_none (fault_of longest_payload (rest longest_payload received))) ≡ b →
      StreamsInOrder s → n < s.next → AllByRecursion (IsNoEnd n) steps.outputs → Ends (settled s n received (closed_by n received steps))
  closed_at s received steps true e o p h others l q = rw e (last_behind n steps.outputs others h l)
  closed_at s received steps false e o p h others l q =
      let q' = rw e at q in
      rw e (end_last steps.outputs others h (q' (record { gone = stream_of-without n s.streams o.rising; before = p })))

  piece_ends : (s : ShareState S) (moment : ℕ) (stream : StreamState) (piece : List ℕ) → StreamsInOrder s → n < s.next → Ends (settled s n (stream.received ++ piece) (piece_step m (arrived n moment) s.server stream piece))
  unfolding piece_step
  piece_ends s moment stream piece o p = closed_at s (stream.received ++ piece) (payload_steps m (arrived n moment) s.server stream.connection (added_payloads stream.received piece)) _ refl o p (steps_no_end moment s.server stream.connection (added_payloads stream.received piece))

  bytes_at : (s : ShareState S) (moment : ℕ) (piece : List ℕ) (o : Option StreamState) → stream_of n s.streams ≡ o → StreamsInOrder s → n < s.next → Ends (bytes_step m s n moment piece)
  bytes_at s moment piece None e o p = rw (bytes_step-none m s n moment piece e) (λ others l q. l)
  bytes_at s moment piece (Some stream) e o p = rw (bytes_step-some m s n moment piece stream e) (piece_ends s moment stream piece o p)

  known_at : (a b : Bool) → option_map_or (λ (why : ServeFault). false) (if a && b then None else Some BadEvent) true ≡ true → b ≡ true
  known_at true true h = refl
  known_at true false h = cc
  known_at false b h = cc

  known : (s : ShareState S) (k moment : ℕ) (piece : List ℕ) → event_refusal s (brings k moment piece) ≡ None → k < s.next
  known s k moment piece r = ltb-true k s.next (known_at (ltb 0 k) (ltb k s.next) (ap (λ o. option_map_or (λ (why : ServeFault). false) o true) r))

  event_on : (s : ShareState S) (event : EventText) → connection_of event ≡ n → StreamsInOrder s → event_refusal s event ≡ None → Ends (event_step m s event)
  event_on s (opens k) e o r = λ others l q. l
  event_on s (brings k moment piece) e o r = let p = known s k moment piece r in rw e (bytes_at s moment piece _ refl o (rw e at p))
  event_on s (ends k) e o r = λ others l q. l

  event_at : (s : ShareState S) (event : EventText) (b : Bool) → eqb (connection_of event) n ≡ b → StreamsInOrder s → event_refusal s event ≡ None → Ends (event_step m s event)
  event_at s event true t o r = event_on s event (eqb-true (connection_of event) n t) o r
  event_at s event false t o r = λ others l q. last_behind n (event_step m s event).outputs others (no_ends n _ (not_for m s event n t)) l

  run_at : (s : ShareState S) (d : EventStep S) (r : Ran S) (o : Option ServeFault) → (o ≡ None → Ends d) → IsLastEnd n r.outputs → (IsGone n d.state → AllByRecursion (IsNotFor n) r.outputs) →
      IsLastEnd n (option_map_or (refused_at_once s) o (then_ran d r)).outputs
  run_at s d r None h l q = h refl r.outputs l q
  run_at s d r (Some why) h l q = tt

  run_is_last : (s : ShareState S) (events : List EventText) → StreamsInOrder s → IsLastEnd n (run m s events).outputs
  run_is_last s [] o = tt
  run_is_last s (event ∷ events) o =
      let d = event_step m s event in
      run_at s d (run m d.state events) (event_refusal s event) (event_at s event _ refl o) (run_is_last d.state events (order_step m s event o)) (quiet_run d.state events)

  pub an_end_is_the_last : (s : ShareState S) (events : List EventText) → StreamsInOrder s → (before after : List Output) → (run m s events).outputs ≡ before ++ end_of n ∷ after →
      AllByRecursion (IsNotFor n) after
  an_end_is_the_last s events o before after e = nothing_behind n before after (let P : List Output → Type 0 = λ outputs. IsLastEnd n outputs in subst P e (run_is_last s events o))
