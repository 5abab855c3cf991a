-- Each connection that is open has a number that was given, whatever happened.
use Rattle.std.proofs.Common.{◌≡◌, ℕ, ◌<◌, Bool, true, false, List, [], ◌∷◌, ◌++◌, Option, None, Some, refl, arith}
use Rattle.std.specs.List.{AllByRecursion}
use Rattle.std.specs.Option.{option_map_or}
use Rattle.std.specs.BTreeMap.{is_at}
use Rattle.std.specs.Ordering.{nat_cmp}
use Rattle.smb_session.specs.Authenticator.{Meaning}
use Rattle.smb_engine.specs.declared.fault.ServeFault.{ServeFault}
use Rattle.smb_peers.specs.Event.{EventText, opens, brings, ends}
use Rattle.smb_engine.specs.Good.{GoodState}
use Rattle.smb_engine.specs.Rest.{ends_of}
use Rattle.smb_engine.specs.Run.{Step, EventStep, Ran, bytes_step, piece_step, event_step, event_refusal, run}
use Rattle.smb_engine.specs.Parts.{refused_at_once, then_ran, settled}
use Rattle.smb_engine.specs.State.{StreamState, ShareState, stream_of, new_stream}
use Rattle.smb_engine.proofs.Order.{good_in_order, run_in_order}
use Rattle.smb_engine.proofs.Streams.{arrived, all_set, all_remove, all_insert, bytes_step-none, bytes_step-some}
use Rattle.smb_restart_laws.specs.Ends.{all_ended}
use Rattle.smb_restart_laws.proofs.Runs.{EndsAll, ends_all}

-- the numbers are counted from 1
record AreFromOne {S : Type 0} (s : ShareState S) : Type 0 where
  next : 0 < s.next
  numbers : AllByRecursion (λ e. 0 < e.0) s.streams

first_half : (streams : List (ℕ × StreamState)) (next : ℕ) → AllByRecursion (λ e. (0 < e.0) × (e.0 < next)) streams → AllByRecursion (λ e. 0 < e.0) streams
first_half [] next h = tt
first_half (e ∷ streams) next h = (h.0.0, first_half streams next h.1)

both_halves : (streams : List (ℕ × StreamState)) (next : ℕ) → AllByRecursion (λ e. 0 < e.0) streams → AllByRecursion (λ e. e.0 < next) streams → AllByRecursion (λ e. (0 < e.0) × (e.0 < next)) streams
both_halves [] next h k = tt
both_halves (e ∷ streams) next h k = ((h.0, k.0), both_halves streams next h.1 k.1)

module _ {S : Type 0} (m : Meaning S) where
  settled_at : (s : ShareState S) (n : ℕ) (received : List ℕ) (step : Step S) (b : Bool) → step.stays_open ≡ b → AreFromOne s → AreFromOne (settled s n received step).state
  settled_at s n received step true t h =
      rw t (record { next = h.next; numbers = all_set (λ e. 0 < e.0) (is_at (nat_cmp n)) s.streams (record { received = received; connection = step.connection }) (λ e h. h) h.numbers })
  settled_at s n received step false t h = rw t (record { next = h.next; numbers = all_remove (λ e. 0 < e.0) (is_at (nat_cmp n)) s.streams h.numbers })

  bytes_at : (s : ShareState S) (n moment : ℕ) (piece : List ℕ) (o : Option StreamState) → stream_of n s.streams ≡ o → AreFromOne s → AreFromOne (bytes_step m s n moment piece).state
  bytes_at s n moment piece None e h = rw (bytes_step-none m s n moment piece e) h
  bytes_at s n moment piece (Some stream) e h =
      rw (bytes_step-some m s n moment piece stream e) (settled_at s n (stream.received ++ piece) (piece_step m (arrived n moment) s.server stream piece) _ refl h)

  from_one_step : (s : ShareState S) (event : EventText) → AreFromOne s → AreFromOne (event_step m s event).state
  from_one_step s (opens n) h =
      record { next = omega (arith, h.next); numbers = all_insert (λ e. 0 < e.0) s.next new_stream s.streams h.next (λ e h. h) h.numbers }
  from_one_step s (brings n moment piece) h = bytes_at s n moment piece (stream_of n s.streams) refl h
  from_one_step s (ends n) h = record { next = h.next; numbers = all_remove (λ e. 0 < e.0) (is_at (nat_cmp n)) s.streams h.numbers }

  run_at : (s : ShareState S) (step : EventStep S) (ran : Ran S) (o : Option ServeFault) → AreFromOne s → AreFromOne ran.state → AreFromOne (option_map_or (refused_at_once s) o (then_ran step ran)).state
  run_at s step ran None h rest = rest
  run_at s step ran (Some why) h rest = h

  run_from_one : (s : ShareState S) (events : List EventText) → AreFromOne s → AreFromOne (run m s events).state
  run_from_one s [] h = h
  run_from_one s (event ∷ events) h =
      let step = event_step m s event in
      run_at s step (run m step.state events) (event_refusal s event) h (run_from_one step.state events (from_one_step s event h))

  pub next_given : (s : ShareState S) (events : List EventText) → GoodState s → 0 < (run m (run m s events).state (ends_of (run m s events).state.streams)).state.next
  next_given s events good =
      let left = (run m s events).state in
      (run_from_one left (ends_of left.streams) (run_from_one s events (record { next = good.next; numbers = first_half s.streams s.next good.given }))).next

  pub connections_end : (s : ShareState S) (events : List EventText) → GoodState s → EndsAll (all_ended m (run m s events).state)
  connections_end s events good =
      let left = (run m s events).state in
      let order = run_in_order m s events (good_in_order s good) in
      let from_one = run_from_one s events (record { next = good.next; numbers = first_half s.streams s.next good.given }) in
      ends_all m left.streams left refl (both_halves left.streams left.next from_one.numbers order.given)
