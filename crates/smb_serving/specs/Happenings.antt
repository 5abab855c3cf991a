-- A run in which memory may run out, as it may for a share that goes on then.
use Rattle.std.specs.Prelude.{ℕ, Bool, true, false, ◌==◌, List, [], ◌∷◌, None, count_by, suc, ◌++◌, Some}
use Rattle.std.specs.Option.{option_map_or, option_map}
use Rattle.std.specs.List.{list_any}
use Rattle.smb_session.specs.Authenticator.{Meaning}
use Rattle.smb_engine.specs.State.{ShareState}
use Rattle.smb_peers.specs.Event.{EventText, brings}
use Rattle.smb_engine.specs.Refusals.{stopped}
use Rattle.smb_engine.specs.Run.{EventStep, event_step, event_refusal, Ran, Stop}

-- an event that is performed whole, or one in which memory runs out after so many of its requests
pub data Happening : Type 0 where
  performed : EventText → Happening
  cut_short : EventText → ℕ → Happening

-- its event
abbrev pub event_of : Happening → EventText
event_of (performed event) = event
event_of (cut_short event done) = event

-- how often memory ran out
abbrev pub times_out_of_memory : List Happening → ℕ
times_out_of_memory happenings = count_by
    (λ happening. elim happening as (λ h. Bool) [ performed event ↦ false | cut_short event done ↦ true ])
    happenings

-- whether memory ran out in a piece of a connection, which ends with it
abbrev pub runs_out_of_memory : ℕ → List Happening → Bool
runs_out_of_memory connection happenings = list_any
    (λ happening. elim happening as (λ h. Bool) [
      | cut_short (brings other moment piece) done ↦ other == connection
      | _ ↦ false
    ])
    happenings

module _ {S : Type 0} (authenticator : Meaning S) where
  -- what a happening leaves and puts out. Where memory runs out, nothing is put out
  abbrev pub happening_step : ShareState S → Happening → EventStep S
  happening_step s (performed event) = event_step authenticator s event
  happening_step s (cut_short event done) = record { state = stopped authenticator s event done; outputs = []; requests = [] }

  -- happenings in order, as `run` has events
  abbrev pub run_of : ShareState S → List Happening → Ran S
  run_of s [] = record { state = s; outputs = []; stop = None }
  run_of s (happening ∷ happenings) =
      let step = happening_step s happening in
      let others = run_of step.state happenings in
      option_map_or
      (λ fault. record { state = s; outputs = []; stop = Some (record { place = 0; fault = fault }) })
      (event_refusal s (event_of happening))
      (record {
        state = others.state;
        outputs = step.outputs ++ others.outputs;
        stop = option_map (λ (stop : Stop). record stop { place = suc stop.place }) others.stop;
      })
