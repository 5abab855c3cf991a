-- Runs in which memory may run out: what holds of runs of events holds of them.
use Rattle.std.proofs.Common.{◌≡◌, ℕ, ◌<◌, eqb, Bool, false, if◌then◌else◌, List, [], ◌∷◌, ◌++◌, length, map, Option, None, Some, is_some, refl, sym, ap, ◌∙◌, append_assoc}
use Rattle.std.specs.Option.{option_map, option_map_or}
use Rattle.std.specs.List.{AllByRecursion}
use Rattle.std.specs.BTreeMap.{is_at}
use Rattle.std.specs.Ordering.{nat_cmp}
use Rattle.smb_session.specs.Authenticator.{Meaning}
use Rattle.smb_session.proofs.Windows.{all-append}
use Rattle.smb_engine.specs.declared.fault.ServeFault.{ServeFault}
use Rattle.smb_engine.specs.State.{StreamState, ShareState, stream_of}
use Rattle.smb_engine.specs.Stream.{unread}
use Rattle.smb_engine.specs.Parts.{unread_stream, unread_entry, later, then_ran, refused_at_once}
use Rattle.smb_peers.specs.Event.{EventText, opens, brings, ends, connection_of}
use Rattle.smb_engine.specs.Run.{EventStep, Stop, Ran, run, event_refusal, event_step}
use Rattle.smb_serving.specs.Happenings.{Happening, performed, cut_short, event_of, happening_step, run_of}
use Rattle.smb_serving.specs.ServingParts.{is_piece_of, moment_of}
use Rattle.smb_engine.specs.Refusals.{run_behind}
use Rattle.smb_engine.specs.Laws.{StreamsInOrder, receiver, run_after}
use Rattle.smb_serving.specs.ServingLaws.{moments_of, WithMemoryItIsARun}
use Rattle.smb_engine.proofs.Streams.{stream_of-unread}
use Rattle.smb_engine.proofs.Kept.{numbers_of}
use Rattle.smb_engine.proofs.Order.{order_step, order_without, other_left, other_without, not_for}
use Rattle.smb_engine.proofs.Runs.{unread-unread, unread_step, event_step-unread, stopped-unread, refusal-unread}
use Rattle.smb_engine.proofs.Cuts.{goes_on_at, state_at, same_at, moved_none}

-- whether a happening is one of a connection; where memory runs out at its opening, there is no connection
abbrev pub concerns : ℕ → Happening → Bool
concerns connection (performed event) = eqb (connection_of event) connection
concerns connection (cut_short event done) = is_piece_of connection event

still_open : (o : Option StreamState) → is_some (option_map unread_stream o) ≡ is_some o
still_open None = refl
still_open (Some stream) = refl

module _ {S : Type 0} (m : Meaning S) where
  performed_run : (s : ShareState S) (events : List EventText) → run_of m s (map performed events) ≡ run m s events
  performed_run s [] = refl
  performed_run s (event ∷ events) =
      ap (λ r. option_map_or (refused_at_once s) (event_refusal s event) (then_ran (event_step m s event) r)) (performed_run (event_step m s event).state events)

  pub memory_run : WithMemoryItIsARun m
  memory_run = λ s events. performed_run s events

  -- the second of two runs goes on where the first stopped
  pub plays_on : (s : ShareState S) (happenings others : List Happening) → (run_of m s happenings).stop ≡ None →
      run_of m s (happenings ++ others) ≡ run_after (length happenings) (run_of m s happenings).outputs (run_of m (run_of m s happenings).state others)
  plays_on s [] others h = let r = run_of m s others in ap (λ t. record { state = r.state; outputs = r.outputs; stop = t }) (moved_none r.stop)
  plays_on s (x ∷ happenings) others h =
      let d = happening_step m s x in
      let r = run_of m d.state happenings in
      rw (state_at m s d r (event_refusal s (event_of x)) h)
      (goes_on_at m s d (length happenings) r (run_of m d.state (happenings ++ others)) (run_of m r.state others) (event_refusal s (event_of x)) (plays_on d.state happenings others) h)

  -- a step from what is unread
  pub step_unread : (s : ShareState S) (x : Happening) → unread_step (happening_step m (unread s) x) ≡ unread_step (happening_step m s x)
  step_unread s (performed event) = event_step-unread m s event
  step_unread s (cut_short event done) = ap (λ t. record { state = t; outputs = []; requests = [] }) (stopped-unread m s event done)

  alike : (s s' : ShareState S) (happenings : List Happening) → unread s ≡ unread s' → run_behind [] (run_of m s happenings) ≡ run_behind [] (run_of m s' happenings)
  alike s s' [] h = rw h refl
  alike s s' (x ∷ happenings) h =
      let d = happening_step m s x in
      let d' = happening_step m s' x in
      let e : unread_step d ≡ unread_step d' = sym (step_unread s x) ∙ ap (λ t. unread_step (happening_step m t x)) h ∙ step_unread s' x in
      let o : event_refusal s (event_of x) ≡ event_refusal s' (event_of x) = sym (refusal-unread m s (event_of x)) ∙ ap (λ t. event_refusal t (event_of x)) h ∙ refusal-unread m s' (event_of x) in
      rw o (same_at m s s' d d' (run_of m d.state happenings) (run_of m d'.state happenings) (event_refusal s' (event_of x)) h e (alike d.state d'.state happenings (ap (λ t. t.state) e)))

  -- a run from what is unread
  pub plays_unread : (s : ShareState S) (happenings : List Happening) → run_behind [] (run_of m (unread s) happenings) ≡ run_behind [] (run_of m s happenings)
  plays_unread s happenings = alike (unread s) s happenings (unread-unread s)

  -- the connections stay in order
  order_happening : (s : ShareState S) (x : Happening) → StreamsInOrder s → StreamsInOrder (happening_step m s x).state
  order_happening s (performed event) h = order_step m s event h
  order_happening s (cut_short (opens n) done) h = h
  order_happening s (cut_short (brings n moment piece) done) h = order_without s _ n refl refl h
  order_happening s (cut_short (ends n) done) h = h

  order_at : (s : ShareState S) (d : EventStep S) (r : Ran S) (o : Option ServeFault) → StreamsInOrder s → StreamsInOrder r.state → StreamsInOrder (option_map_or (refused_at_once s) o (then_ran d r)).state
  order_at s d r None h k = k
  order_at s d r (Some why) h k = h

  pub plays_in_order : (s : ShareState S) (happenings : List Happening) → StreamsInOrder s → StreamsInOrder (run_of m s happenings).state
  plays_in_order s [] h = h
  plays_in_order s (x ∷ happenings) h =
      let d = happening_step m s x in
      order_at s d (run_of m d.state happenings) (event_refusal s (event_of x)) h (plays_in_order d.state happenings (order_happening s x h))

  -- other connections are left
  other_kept : (s : ShareState S) (x : Happening) (k : ℕ) → event_refusal s (event_of x) ≡ None → concerns k x ≡ false → stream_of k (happening_step m s x).state.streams ≡ stream_of k s.streams
  other_kept s (performed event) k h d = other_left m s event k h d
  other_kept s (cut_short (opens n) done) k h d = refl
  other_kept s (cut_short (brings n moment piece) done) k h d = other_without n k s.streams d
  other_kept s (cut_short (ends n) done) k h d = refl

  none_for : (s : ShareState S) (x : Happening) (k : ℕ) → concerns k x ≡ false → AllByRecursion (λ output. eqb (receiver output) k ≡ false) (happening_step m s x).outputs
  none_for s (performed event) k d = not_for m s event k d
  none_for s (cut_short event done) k d = tt

  abbrev IsLeft : ℕ → ShareState S → Ran S → Type 0
  IsLeft k s r = (stream_of k r.state.streams ≡ stream_of k s.streams) × AllByRecursion (λ output. eqb (receiver output) k ≡ false) r.outputs

  left_at : (k : ℕ) (s : ShareState S) (d : EventStep S) (r : Ran S) (o : Option ServeFault) →
      (o ≡ None → stream_of k d.state.streams ≡ stream_of k s.streams) → AllByRecursion (λ output. eqb (receiver output) k ≡ false) d.outputs → IsLeft k d.state r →
      IsLeft k s (option_map_or (refused_at_once s) o (then_ran d r))
  left_at k s d r None l h ih = (ih.0 ∙ l refl, all-append (λ output. eqb (receiver output) k ≡ false) d.outputs r.outputs h ih.1)
  left_at k s d r (Some why) l h ih = (refl, tt)

  pub others_kept : (s : ShareState S) (happenings : List Happening) (k : ℕ) → AllByRecursion (λ x. concerns k x ≡ false) happenings → IsLeft k s (run_of m s happenings)
  others_kept s [] k a = (refl, tt)
  others_kept s (x ∷ happenings) k a =
      let d = happening_step m s x in
      left_at k s d (run_of m d.state happenings) (event_refusal s (event_of x)) (λ e. other_kept s x k e a.0) (none_for s x k a.0) (others_kept d.state happenings k a.1)

  -- the moments of two runs
  no_stop : (o : Option Stop) → option_map later o ≡ None → o ≡ None
  no_stop None h = refl
  no_stop (Some f) h = cc

  goes_on : (s : ShareState S) (d : EventStep S) (r : Ran S) (o : Option ServeFault) → (option_map_or (refused_at_once s) o (then_ran d r)).stop ≡ None →
      (r.stop ≡ None) × (r.state ≡ (option_map_or (refused_at_once s) o (then_ran d r)).state)
  goes_on s d r None h = (no_stop r.stop h, refl)
  goes_on s d r (Some why) h = cc

  pub moments_more : (s : ShareState S) (happenings others : List Happening) → (run_of m s happenings).stop ≡ None →
      moments_of m s (happenings ++ others) ≡ moments_of m s happenings ++ moments_of m (run_of m s happenings).state others
  moments_more s [] others h = refl
  moments_more s (x ∷ happenings) others h =
      let d = happening_step m s x in
      let p = goes_on s d (run_of m d.state happenings) (event_refusal s (event_of x)) h in
      ap (λ t. moment_of s (event_of x) ++ t) (moments_more d.state happenings others p.0 ∙ ap (λ t. moments_of m d.state happenings ++ moments_of m t others) p.1)
      ∙ sym (append_assoc (moment_of s (event_of x)) (moments_of m d.state happenings) _)

  moment_unread : (s : ShareState S) (x : EventText) → moment_of (unread s) x ≡ moment_of s x
  moment_unread s (opens n) = refl
  moment_unread s (brings n moment piece) =
      ap (λ b. if b then moment ∷ [] else []) (ap is_some (stream_of-unread (is_at (nat_cmp n)) s.streams) ∙ still_open (stream_of n s.streams))
  moment_unread s (ends n) = refl

  pub moments_same : (s s' : ShareState S) (happenings : List Happening) → unread s ≡ unread s' → moments_of m s happenings ≡ moments_of m s' happenings
  moments_same s s' [] h = refl
  moments_same s s' (x ∷ happenings) h =
      let d = happening_step m s x in
      let d' = happening_step m s' x in
      let e : unread_step d ≡ unread_step d' = sym (step_unread s x) ∙ ap (λ t. unread_step (happening_step m t x)) h ∙ step_unread s' x in
      let o : moment_of s (event_of x) ≡ moment_of s' (event_of x) = sym (moment_unread s (event_of x)) ∙ ap (λ t. moment_of t (event_of x)) h ∙ moment_unread s' (event_of x) in
      ap (λ t. t ++ moments_of m d.state happenings) o ∙ ap (λ t. moment_of s' (event_of x) ++ t) (moments_same d.state d'.state happenings (ap (λ t. t.state) e))

-- the order of the connections, of what is unread
numbers_unread : (streams : List (ℕ × StreamState)) → numbers_of (map unread_entry streams) ≡ numbers_of streams
numbers_unread [] = refl
numbers_unread (e ∷ streams) = ap (λ ns. e.0 ∷ ns) (numbers_unread streams)

given_unread : (next : ℕ) (streams : List (ℕ × StreamState)) → AllByRecursion (λ e. e.0 < next) streams → AllByRecursion (λ e. e.0 < next) (map unread_entry streams)
given_unread next [] h = tt
given_unread next (e ∷ streams) h = (h.0, given_unread next streams h.1)

pub order_unread : {S : Type 0} (s : ShareState S) → StreamsInOrder s → StreamsInOrder (unread s)
order_unread s h = record { rising = rw (numbers_unread s.streams) h.rising; given = given_unread s.next s.streams h.given }
