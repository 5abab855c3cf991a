-- A run in which memory may run out is its actions.
use Rattle.std.proofs.Common.{◌≡◌, ℕ, zero, suc, List, [], ◌∷◌, ◌++◌, map, take, Option, None, Some, refl}
use Rattle.std.specs.List.{fold}
use Rattle.std.specs.Option.{option_map_or}
use Rattle.smb_session.specs.Authenticator.{Meaning}
use Rattle.smb_opens.specs.State.{StoreState}
use Rattle.smb_request.specs.State.{ServerState, connection_ended}
use Rattle.smb_engine.specs.declared.fault.ServeFault.{ServeFault}
use Rattle.smb_peers.specs.Event.{opens, brings, ends}
use Rattle.smb_serving.specs.Happenings.{Happening, performed, cut_short, event_of, happening_step, run_of}
use Rattle.smb_engine.specs.Parts.{refused_at_once, then_ran}
use Rattle.smb_engine.specs.Run.{PerformedRequest, Step, piece_step, bytes_step, event_refusal}
use Rattle.smb_engine.specs.State.{StreamState, ShareState, stream_of}
use Rattle.smb_engine.proofs.Streams.{arrived, bytes_step-none, bytes_step-some}
use Rattle.smb_opens.specs.Good.{GoodStore}
use Rattle.smb_engine.specs.Run.{run}
use Rattle.smb_run_laws.specs.Actions.{Action, serves, disconnects, Lead, actions_of_run}
use Rattle.smb_run_laws.specs.MemoryRuns.{actions_of_happening, actions_of_happenings, AServedRunIsItsActions, HoldsOfRuns}
use Rattle.smb_run_laws.proofs.Leading.{leads_then, piece_leads, event_leads, end_as_defined, run_leads}

module _ {S : Type 0} (m : Meaning S) where
  -- the requests of a piece
  record Some_lead (s : ShareState S) (n moment : ℕ) (requests : List (PerformedRequest S)) : Type 0 where
    left : StoreState
    leads : Lead m s.server.store (map (serves n moment) requests) left

  bytes_at : (s : ShareState S) (n moment : ℕ) (piece : List ℕ) (o : Option StreamState) → stream_of n s.streams ≡ o → Some_lead s n moment (bytes_step m s n moment piece).requests
  bytes_at s n moment piece None e = rw (bytes_step-none m s n moment piece e) (record { left = s.server.store; leads = refl })
  bytes_at s n moment piece (Some stream) e =
      let step : Step S = piece_step m (arrived n moment) s.server stream piece in
      rw (bytes_step-some m s n moment piece stream e) (record { left = step.server.store; leads = piece_leads m n moment s.server stream piece })

  -- the first so many of them
  abbrev behind : ServerState S → PerformedRequest S → ServerState S
  behind before request = request.after

  first_lead : (n moment done : ℕ) (requests : List (PerformedRequest S)) (server : ServerState S) (left : StoreState) → Lead m server.store (map (serves n moment) requests) left →
      Lead m server.store (map (serves n moment) (take done requests)) (fold behind server (take done requests)).store
  first_lead n moment zero requests server left h = refl
  first_lead n moment (suc done) [] server left h = refl
  first_lead n moment (suc done) (served ∷ requests) server left h = (h.0, h.1, first_lead n moment done requests served.after left h.2)

  happening_leads : (s : ShareState S) (happening : Happening) → Lead m s.server.store (actions_of_happening m s happening) (happening_step m s happening).state.server.store
  happening_leads s (performed event) = event_leads m s event
  happening_leads s (cut_short (opens n) done) = refl
  happening_leads s (cut_short (brings n moment piece) done) =
      let all = bytes_at s n moment piece (stream_of n s.streams) refl in
      let requests = take done (bytes_step m s n moment piece).requests in
      let server : ServerState S = fold behind s.server requests in
      leads_then m s.server.store server.store (connection_ended server n).store (map (serves n moment) requests) (disconnects server n ∷ [])
      (first_lead n moment done (bytes_step m s n moment piece).requests s.server all.left all.leads) (refl, end_as_defined m server n, refl)
  happening_leads s (cut_short (ends n) done) = refl

  run_at : (s : ShareState S) (happening : Happening) (happenings : List Happening) (o : Option ServeFault) →
      Lead m (happening_step m s happening).state.server.store (actions_of_happenings m (happening_step m s happening).state happenings) (run_of m (happening_step m s happening).state happenings).state.server.store →
      Lead m s.server.store (option_map_or (λ fault. []) o (actions_of_happening m s happening ++ actions_of_happenings m (happening_step m s happening).state happenings))
      (option_map_or (refused_at_once s) o (then_ran (happening_step m s happening) (run_of m (happening_step m s happening).state happenings))).state.server.store
  run_at s happening happenings None rest =
      let next = (happening_step m s happening).state in
      leads_then m s.server.store next.server.store (run_of m next happenings).state.server.store (actions_of_happening m s happening) (actions_of_happenings m next happenings) (happening_leads s happening) rest
  run_at s happening happenings (Some why) rest = refl

  pub served_leads : AServedRunIsItsActions m
  served_leads s [] = refl
  served_leads s (happening ∷ happenings) = run_at s happening happenings (event_refusal s (event_of happening)) (served_leads (happening_step m s happening).state happenings)

-- what holds of all actions that lead from a good store holds of runs
pub of_runs : {S : Type 0} (m : Meaning S) (Holds : List (Action S) → Type 0) → ((start final : StoreState) (actions : List (Action S)) → GoodStore start → Lead m start actions final → Holds actions) → HoldsOfRuns m Holds
of_runs m Holds all s good = (
  λ events. all s.server.store (run m s events).state.server.store (actions_of_run m s events) good.store (run_leads m s events),
  λ happenings. all s.server.store (run_of m s happenings).state.server.store (actions_of_happenings m s happenings) good.store (served_leads m s happenings),
)
