-- What an observer of a share hears.
use Rattle.std.specs.Prelude.{ℕ, List}
use Rattle.smb_peers.specs.declared.observer.Acting.{Acting}
use Rattle.smb_peers.specs.declared.observer.Responded.{Responded}
use Rattle.smb_peers.specs.declared.ending.Ending.{Ending}

-- that a request was performed: its connection, its bytes, and what it acted on; how a request of a connection was responded
-- to; and by which rule a connection was ended
pub data Observed : Type 0 where
  performed : ℕ → List ℕ → Acting → Observed
  responded : ℕ → Responded → Observed
  ended : ℕ → Ending → Observed
