-- The actions of a run in which memory may run out.
use Rattle.std.specs.Prelude.{List, [], ◌∷◌, ◌++◌, map, take}
use Rattle.std.specs.List.{fold}
use Rattle.std.specs.Option.{option_map_or}
use Rattle.smb_session.specs.Authenticator.{Meaning}
use Rattle.smb_request.specs.State.{ServerState}
use Rattle.smb_peers.specs.Event.{EventText, opens, brings, ends}
use Rattle.smb_engine.specs.Good.{GoodState}
use Rattle.smb_serving.specs.Happenings.{Happening, performed, cut_short, event_of, happening_step, run_of}
use Rattle.smb_engine.specs.Run.{PerformedRequest, bytes_step, event_refusal}
use Rattle.smb_engine.specs.State.{ShareState}
use Rattle.smb_run_laws.specs.Actions.{Action, serves, disconnects, Lead, actions_of_event, actions_of_run}

module _ {S : Type 0} (authenticator : Meaning S) where
  -- the actions of a happening: where memory runs out in a piece its first `done` requests, and the end of its
  -- connection
  abbrev pub actions_of_happening : ShareState S → Happening → List (Action S)
  actions_of_happening s (performed event) = actions_of_event authenticator s event
  actions_of_happening s (cut_short (opens connection) done) = []
  actions_of_happening s (cut_short (brings connection moment piece) done) =
      let requests = take done (bytes_step authenticator s connection moment piece).requests in
      let behind : ServerState S → PerformedRequest S → ServerState S = λ before request. request.after in
      map (serves connection moment) requests ++ disconnects (fold behind s.server requests) connection ∷ []
  actions_of_happening s (cut_short (ends connection) done) = []

  -- those of a run of happenings
  abbrev pub actions_of_happenings : ShareState S → List Happening → List (Action S)
  actions_of_happenings s [] = []
  actions_of_happenings s (happening ∷ happenings) = option_map_or
      (λ fault. [])
      (event_refusal s (event_of happening))
      (actions_of_happening s happening ++ actions_of_happenings (happening_step authenticator s happening).state happenings)

  -- such a run is its actions too
  abbrev pub AServedRunIsItsActions : Type 0
  AServedRunIsItsActions =
      (s : ShareState S) (happenings : List Happening) →
      Lead authenticator s.server.store (actions_of_happenings s happenings)
      (run_of authenticator s happenings).state.server.store

-- this holds of the actions of every run from a good share, and where memory runs out in it too
abbrev pub HoldsOfRuns : {S : Type 0} → Meaning S → (List (Action S) → Type 0) → Type 0
HoldsOfRuns {S} authenticator Holds =
    (s : ShareState S) → GoodState s →
    ((events : List EventText) → Holds (actions_of_run authenticator s events))
    × ((happenings : List Happening) → Holds (actions_of_happenings authenticator s happenings))
