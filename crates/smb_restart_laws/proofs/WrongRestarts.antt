-- Wrong definitions of a start, which the laws refuse: with each the law is false.
use Rattle.std.proofs.Common.{◌≡◌, ℕ, zero, suc, List, [], ◌∷◌, ◌++◌, None, refl, ap}
use Rattle.smb_session.specs.Authenticator.{Meaning}
use Rattle.smb_request.specs.State.{connection_ended}
use Rattle.smb_peers.specs.Event.{EventText, opens, ends}
use Rattle.smb_engine.specs.Good.{GoodState}
use Rattle.smb_engine.specs.Rest.{ends_of}
use Rattle.smb_engine.specs.Run.{Ran, run}
use Rattle.smb_engine.specs.State.{ShareState, new_share}
use Rattle.smb_restart_laws.specs.Ends.{all_ended}
use Rattle.smb_restart_laws.proofs.Ended.{new_good}
use Rattle.smb_restart_laws.proofs.WrongEnds.{settings, lawful}

some_none : (n : ℕ) (ns : List ℕ) → n ∷ ns ≡ [] → ⊥
some_none n ns e = cc

module _ {S : Type 0} (m : Meaning S) (accounts : S) where
  abbrev one_open : List EventText
  one_open = opens 1 ∷ []

  -- the ends come first: no number was given yet, and the run stops at the first of them
  abbrev ends_first : ShareState S → List EventText → List EventText
  ends_first s events = ends_of (run m s events).state.streams ++ events

  pub ends_before : ((s : ShareState S) (events : List EventText) → GoodState s → (run m s events).stop ≡ None → (run m s (ends_first s events)).stop ≡ None) → ⊥
  unfolding settings
  ends_before law = let none = law (new_share settings accounts) one_open (new_good settings accounts lawful) refl in cc

  -- each number that was given ends, whether its connection is open or not: a second start ends it again
  abbrev each_given : ℕ → List EventText
  each_given zero = []
  each_given (suc zero) = []
  each_given (suc (suc n)) = each_given (suc n) ++ ends (suc n) ∷ []

  abbrev all_given_end : ShareState S → List EventText → List EventText
  all_given_end s events = events ++ each_given (run m s events).state.next

  pub ends_again : ((s : ShareState S) (events : List EventText) → GoodState s → (run m s events).stop ≡ None → all_given_end s (all_given_end s events) ≡ all_given_end s events) → ⊥
  unfolding settings
  ends_again law = let same = law (new_share settings accounts) one_open (new_good settings accounts lawful) refl in cc

  -- the streams are dropped, and nothing ends: the connection that was open is known still
  abbrev dropped : ShareState S → ShareState S
  dropped s = record s { streams = [] }

  pub streams_dropped : ((s : ShareState S) (events : List EventText) → GoodState s → all_ended m (dropped (run m s events).state) ≡ all_ended m (run m s events).state) → ⊥
  unfolding connection_ended settings
  streams_dropped law =
      let same = law (new_share settings accounts) one_open (new_good settings accounts lawful) in
      some_none 1 [] (ap (λ (r : Ran S). r.state.server.sessions.table.connections) same)
