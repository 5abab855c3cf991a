-- Actions that leave the bytes of a file.
use Rattle.std.proofs.Common.{◌≡◌, ◌⊎◌, inl, inr, ℕ, true, false, List, [], ◌∷◌, refl}
use Rattle.std.specs.List.{AllByRecursion}
use Rattle.smb_session.specs.Authenticator.{Meaning}
use Rattle.smb_opens.specs.State.{StoreState}
use Rattle.smb_opens.specs.Steps.{StoreStep, unlocks, sets_scan, stepped, stepped_all, is_change_of, NoneChanges}
use Rattle.smb_engine.specs.Run.{PerformedRequest}
use Rattle.smb_run_laws.specs.Actions.{Action, serves, AsksFor, IsAnsweredBySuccess, is_done_though_refused, Lead}
use Rattle.smb_run_laws.specs.Written.{LeavesBytes}
use Rattle.smb_run_laws.proofs.Between.{Each, actions_with}

-- what may be done though it is refused changes no bytes
pub refused_quiet : (entry : ℕ) (store : StoreState) (step : StoreStep) → is_done_though_refused step ≡ true → is_change_of entry store step ≡ false
refused_quiet entry store (unlocks number asks) h = refl
refused_quiet entry store (sets_scan number scan) h = refl
refused_quiet entry store step h = absurd (cc)

abbrev IsQuiet : ℕ → StoreState → StoreStep → Type 0
IsQuiet entry state step = is_change_of entry state step ≡ false

-- steps that leave the bytes of an entry
pub record QuietSteps (entry : ℕ) (one two : StoreState) : Type 0 where
  pub steps : List StoreStep
  pub quiet : NoneChanges entry one steps
  pub leads : stepped_all one steps ≡ two

none_changes : (entry : ℕ) (state : StoreState) (steps : List StoreStep) → Each (IsQuiet entry) state steps → NoneChanges entry state steps
none_changes entry state [] h = tt
none_changes entry state (step ∷ steps) h = (h.0, none_changes entry (stepped state step) steps h.1)

module _ {S : Type 0} (m : Meaning S) (entry : ℕ) where
  asked_quiet : (n moment : ℕ) (served : PerformedRequest S) → LeavesBytes entry (serves n moment served) → (step : StoreStep) → AsksFor n moment served step → IsAnsweredBySuccess served ⊎ (is_done_though_refused step ≡ true) → is_change_of entry served.before.store step ≡ false
  asked_quiet n moment served leaves step asks (inl told) = leaves told step asks
  asked_quiet n moment served leaves step asks (inr though) = refused_quiet entry served.before.store step though

  pub actions_quiet : (one : StoreState) (actions : List (Action S)) (two : StoreState) → Lead m one actions two → AllByRecursion (LeavesBytes entry) actions → QuietSteps entry one two
  actions_quiet one actions two h leaves =
      let it = actions_with (IsQuiet entry) m (LeavesBytes entry) asked_quiet (λ state session. refl) one actions two h leaves in
      record { steps = it.all.steps; quiet = none_changes entry one it.all.steps it.each; leads = it.all.leads }
