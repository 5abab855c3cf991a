-- What lies between two actions of a run: steps of which each has a property that its action gives it.
use Rattle.std.proofs.Common.{◌≡◌, ◌⊎◌, inl, inr, ℕ, true, List, [], ◌∷◌, ◌++◌, map, Option, None, Some, refl, sym, ap, subst}
use Rattle.std.specs.List.{AllByRecursion}
use Rattle.std.specs.Prelude.{MatchOption}
use Rattle.smb_wire.specs.Limits.{most_in_any_dialect}
use Rattle.smb_wire.specs.declared.dialect.Dialect.{Dialect}
use Rattle.smb_session.specs.Authenticator.{Meaning}
use Rattle.smb_session.specs.Table.{numbers_on}
use Rattle.smb_access.specs.declared.open_row.Owner.TheVariants.{Session}
use Rattle.smb_opens.specs.Close.{closed_all}
use Rattle.smb_opens.specs.Good.{GoodStore}
use Rattle.smb_opens.specs.State.{StoreState}
use Rattle.smb_opens.specs.Steps.{StoreStep, closes_all, stepped, stepped_all}
use Rattle.smb_request.specs.declared.context.Context.{Context}
use Rattle.smb_request.specs.Response.{ResponseState}
use Rattle.smb_request.specs.State.{ServerState}
use Rattle.smb_engine.specs.Run.{PerformedRequest}
use Rattle.smb_content_laws.proofs.GoodSteps.{steps_good}
use Rattle.smb_run_laws.specs.Actions.{Action, serves, disconnects, before, after, AsksFor, IsAnsweredBySuccess, IsLeftBy, is_done_though_refused, IsAsDefined, Lead}
use Rattle.smb_run_laws.proofs.Leading.{Steps, no_steps, steps_then, done_steps, lead_steps}

-- what is said of some value holds of the value that there is
pub at_some : {X : Type 0} (A : Type 0) (P : X → Type 0) (o : Option X) (x : X) → o ≡ Some x → MatchOption o A P → P x
at_some A P None x e h = cc
at_some A P (Some y) x e h = let same : y ≡ x = cc in subst P same h

-- actions in two parts
pub record Parted {S : Type 0} (m : Meaning S) (one : StoreState) (first second : List (Action S)) (two : StoreState) : Type 0 where
  pub middle : StoreState
  pub front : Lead m one first middle
  pub back : Lead m middle second two

pub parted : {S : Type 0} (m : Meaning S) (one : StoreState) (first second : List (Action S)) (two : StoreState) → Lead m one (first ++ second) two → Parted m one first second two
parted m one [] second two h = record { middle = one; front = refl; back = h }
parted m one (action ∷ first) second two h =
    let rest = parted m (after action).store first second two h.2 in
    record { middle = rest.middle; front = (h.0, h.1, rest.front); back = rest.back }

-- a good store stays good over them
pub stays_good : {S : Type 0} (m : Meaning S) (one : StoreState) (actions : List (Action S)) (two : StoreState) → Lead m one actions two → GoodStore one → GoodStore two
stays_good m one actions two h good =
    let it = lead_steps m one actions two h in
    subst GoodStore it.leads (steps_good most_in_any_dialect one it.steps good it.succeed)

-- two of these actions, and what is between them
pub record Two {S : Type 0} (m : Meaning S) (first : Action S) (actions : List (Action S)) (second : Action S) : Type 0 where
  pub good : GoodStore (before first).store
  pub done : IsAsDefined m first
  pub between : Lead m (after first).store actions (before second).store
  pub good_second : GoodStore (before second).store
  pub done_second : IsAsDefined m second

pub two_of : {S : Type 0} (m : Meaning S) (start final : StoreState) (actions front between back : List (Action S)) (first second : Action S) → GoodStore start → Lead m start actions final →
    actions ≡ front ++ first ∷ (between ++ second ∷ back) → Two m first between second
two_of {S} m start final actions front between back first second good lead is =
    let lead' : Lead m start (front ++ first ∷ (between ++ second ∷ back)) final = subst (λ (ds : List (Action S)). Lead m start ds final) is lead in
    let one = parted m start front (first ∷ (between ++ second ∷ back)) final lead' in
    let two = parted m (after first).store between (second ∷ back) final one.back.2 in
    let good_first : GoodStore (before first).store = subst GoodStore (sym one.back.0) (stays_good m start front one.middle one.front good) in
    let good_middle : GoodStore two.middle = stays_good m (before first).store (first ∷ between) two.middle (refl, one.back.1, two.front) good_first in
    record {
      good = good_first;
      done = one.back.1;
      between = subst (λ (store : StoreState). Lead m (after first).store between store) (sym two.back.0) two.front;
      good_second = subst GoodStore (sym two.back.0) good_middle;
      done_second = two.back.1;
    }

module _ (P : StoreState → StoreStep → Type 0) where
  -- each step has it, where the one before left the store
  abbrev pub Each : StoreState → List StoreStep → Type 0
  Each state [] = Unit {0}
  Each state (step ∷ steps) = P state step × Each (stepped state step) steps

  pub record With (one two : StoreState) : Type 0 where
    pub all : Steps one two
    pub each : Each one all.steps

  each_both : (state : StoreState) (first second : List StoreStep) → Each state first → Each (stepped_all state first) second → Each state (first ++ second)
  each_both state [] second a b = b
  each_both state (step ∷ first) second a b = (a.0, each_both (stepped state step) first second a.1 b)

  with_then : (one two three : StoreState) → With one two → With two three → With one three
  with_then one two three a b = record {
    all = steps_then one two three a.all b.all;
    each = each_both one a.all.steps b.all.steps a.each (subst (λ (state : StoreState). Each state b.all.steps) (sym a.all.leads) b.each);
  }

  with_none : (one two : StoreState) → one ≡ two → With one two
  with_none one two e = record { all = no_steps one two e; each = tt }

  module _ {S : Type 0} (m : Meaning S) (D : Action S → Type 0)
      (of_asked : (n moment : ℕ) (served : PerformedRequest S) → D (serves n moment served) → (step : StoreStep) → AsksFor n moment served step → IsAnsweredBySuccess served ⊎ (is_done_though_refused step ≡ true) → P served.before.store step)
      (of_ended : (state : StoreState) (session : ℕ) → P state (closes_all (Session session))) where
    left_with : (n moment : ℕ) (served : PerformedRequest S) → D (serves n moment served) → IsLeftBy (AsksFor n moment served) (IsAnsweredBySuccess served) served.before.store served.after.store → With served.before.store served.after.store
    left_with n moment served d (inl same) = with_none served.before.store served.after.store (sym same)
    left_with n moment served d (inr locking) = record { all = record { steps = locking.0 ∷ []; succeed = (locking.2, tt); leads = sym locking.3 }; each = (of_asked n moment served d locking.0 locking.1 locking.4, tt) }

    request_with : (n moment : ℕ) (before after : ServerState S) (dialect : Option Dialect) (context : Context) (response : Option ResponseState) (credits : ℕ) (request : Option (List ℕ)) →
        (let served : PerformedRequest S = record { before = before; dialect = dialect; context = context; request = request; after = after; response = response; credits = credits } in
        IsAsDefined m (serves n moment served) → D (serves n moment served) → With before.store after.store)
    request_with n moment before after dialect context response credits None done d = with_none before.store after.store (ap (λ s. s.store) (sym done))
    request_with n moment before after dialect context response credits (Some request) done d =
        left_with n moment (record { before = before; dialect = dialect; context = context; request = Some request; after = after; response = response; credits = credits }) d done.3

    ends_with : (state : StoreState) (sessions : List ℕ) → Each state (map (λ session. closes_all (Session session)) sessions)
    ends_with state [] = tt
    ends_with state (session ∷ sessions) = (of_ended state session, ends_with (closed_all state (Session session)) sessions)

    action_with : (action : Action S) → IsAsDefined m action → D action → With (before action).store (after action).store
    action_with (serves n moment served) done d = request_with n moment served.before served.after served.dialect served.context served.response served.credits served.request done d
    action_with (disconnects server n) done d = record { all = done_steps m (disconnects server n) done; each = ends_with server.store (numbers_on server.sessions.table.sessions n) }

    pub actions_with : (one : StoreState) (actions : List (Action S)) (two : StoreState) → Lead m one actions two → AllByRecursion D actions → With one two
    actions_with one [] two h d = with_none one two h
    actions_with one (action ∷ actions) two h d =
        with_then one (after action).store two
        (with_then one (before action).store (after action).store (with_none one (before action).store (sym h.0)) (action_with action h.1 d.0))
        (actions_with (after action).store actions two h.2 d.1)
