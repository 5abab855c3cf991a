-- The ends of connections, one after the other.
use Rattle.std.proofs.Common.{◌≡◌, ℕ, ◌<◌, List, [], ◌∷◌, Option, None, Some, refl, ap, rules, ◌∙◌}
use Rattle.std.specs.List.{AllByRecursion}
use Rattle.std.specs.Option.{option_map, option_map_or}
use Rattle.smb_session.specs.Authenticator.{Meaning}
use Rattle.smb_engine.specs.declared.fault.ServeFault.{ServeFault}
use Rattle.smb_peers.specs.Event.{ends}
use Rattle.smb_engine.specs.Rest.{ends_of}
use Rattle.smb_engine.specs.Run.{Ran, Stop, run, event_step}
use Rattle.smb_engine.specs.Parts.{later, refused_at_once, then_ran, unknown_refusal, without_stream}
use Rattle.smb_engine.specs.State.{StreamState, ShareState, ended}

-- these ends are performed, put nothing out, and leave no connection open
pub record EndsAll {S : Type 0} (ran : Ran S) : Type 0 where
  pub performed : ran.stop ≡ None
  pub outputs : ran.outputs ≡ []
  pub streams : ran.state.streams ≡ []

module _ {S : Type 0} (m : Meaning S) where
  -- what an end keeps, all ends keep
  module _ (Q : ShareState S → Type 0) (keeps : (s : ShareState S) (n : ℕ) → Q s → Q (ended s n)) where
    keep_at : (s : ShareState S) (n : ℕ) (r : Ran S) (o : Option ServeFault) → Q s → Q r.state → Q (option_map_or (refused_at_once s) o (then_ran (event_step m s (ends n)) r)).state
    keep_at s n r None h rest = rest
    keep_at s n r (Some why) h rest = h

    pub ends_keep : (streams : List (ℕ × StreamState)) (s : ShareState S) → Q s → Q (run m s (ends_of streams)).state
    ends_keep [] s h = h
    ends_keep (e ∷ streams) s h = keep_at s e.0 (run m (ended s e.0) (ends_of streams)) (unknown_refusal s e.0) h (ends_keep streams (ended s e.0) (keeps s e.0 h))

  without_first : (entry : ℕ × StreamState) (streams : List (ℕ × StreamState)) → without_stream entry.0 (entry ∷ streams) ≡ streams
  without_first entry streams = search rules

  known : (s : ShareState S) (n : ℕ) → 0 < n → n < s.next → unknown_refusal s n ≡ None
  known s n above below = search rules

  later_none : (o : Option Stop) → o ≡ None → option_map later o ≡ None
  later_none o e = rw e refl

  end_at : (s : ShareState S) (n : ℕ) (r : Ran S) (o : Option ServeFault) → o ≡ None → EndsAll r → EndsAll (option_map_or (refused_at_once s) o (then_ran (event_step m s (ends n)) r))
  end_at s n r None e h = record { performed = later_none r.stop h.performed; outputs = h.outputs; streams = h.streams }
  end_at s n r (Some why) e h = cc

  -- where each was given, none is refused, and none is left
  pub ends_all : (streams : List (ℕ × StreamState)) (s : ShareState S) → s.streams ≡ streams → AllByRecursion (λ e. (0 < e.0) × (e.0 < s.next)) streams → EndsAll (run m s (ends_of streams))
  ends_all [] s e given = record { performed = refl; outputs = refl; streams = e }
  ends_all (x ∷ streams) s e given =
      let rest : (ended s x.0).streams ≡ streams = ap (without_stream x.0) e ∙ without_first x streams in
      end_at s x.0 (run m (ended s x.0) (ends_of streams)) (unknown_refusal s x.0) (known s x.0 given.0.0 given.0.1) (ends_all streams (ended s x.0) rest given.1)
