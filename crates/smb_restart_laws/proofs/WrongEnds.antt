-- Wrong definitions of ends, which the laws refuse: with each the law is false.
use Rattle.std.proofs.Common.{◌≡◌, true, None, List, [], ◌∷◌, take, refl, arith}
use Rattle.smb_wire.specs.Limits.{default_limits}
use Rattle.smb_session.specs.Authenticator.{Meaning}
use Rattle.smb_request.specs.Settings.{Settings, is_lawful}
use Rattle.smb_peers.specs.Event.{EventText, opens}
use Rattle.smb_engine.specs.Good.{GoodState}
use Rattle.smb_engine.specs.Rest.{ends_of, IsAtRest}
use Rattle.smb_engine.specs.Run.{Ran, run}
use Rattle.smb_engine.specs.State.{ShareState, new_share}
use Rattle.smb_restart_laws.proofs.Ended.{new_good}

-- a configuration that keeps the rules: a share named A
unfoldable pub settings : Settings
settings = record { share = 65 ∷ []; label = []; guid = 0 ∷ 0 ∷ 0 ∷ 0 ∷ 0 ∷ 0 ∷ 0 ∷ 0 ∷ 0 ∷ 0 ∷ 0 ∷ 0 ∷ 0 ∷ 0 ∷ 0 ∷ 0 ∷ []; capacity = 65536; created = 0; limits = default_limits }

pub lawful : is_lawful settings ≡ true
unfolding settings
lawful = refl

-- a new share whose first connection has number 0: it is not good, since no connection has this number
pub first_is_zero : {S : Type 0} (accounts : S) → ((settings : Settings) → is_lawful settings ≡ true → GoodState (record (new_share settings accounts) { next = 0 })) → ⊥
first_is_zero accounts law = let good = law settings lawful in omega (arith, good.next)

module _ {S : Type 0} (m : Meaning S) (accounts : S) where
  -- the connection of the least number alone ends: of two that are open one is left
  abbrev first_ended : ShareState S → Ran S
  first_ended s = run m s (take 1 (ends_of s.streams))

  pub first_alone : ((s : ShareState S) (events : List EventText) → GoodState s →
      let ended = first_ended (run m s events).state in
      (ended.stop ≡ None) × (ended.outputs ≡ []) × IsAtRest ended.state × GoodState ended.state) → ⊥
  unfolding settings
  first_alone law =
      let left = (law (new_share settings accounts) (opens 1 ∷ opens 2 ∷ []) (new_good settings accounts lawful)).2.streams in
      cc
