-- A share at rest: all connections have ended.
use Rattle.std.specs.Prelude.{◌≡◌, ℕ, false, List, [], map}
use Rattle.smb_locks.specs.Table.{locks_on}
use Rattle.smb_access.specs.Close.{has_mark}
use Rattle.smb_peers.specs.Event.{EventText, ends}
use Rattle.smb_engine.specs.State.{StreamState, ShareState}

-- the end of each of some connections, in their order
abbrev pub ends_of : List (ℕ × StreamState) → List EventText
ends_of streams = map (λ entry. ends entry.0) streams

-- no connection is open, and nothing is left of one: no session, no open, no lock, and no entry that is marked to go
pub record IsAtRest {S : Type 0} (s : ShareState S) : Type 0 where
  pub streams : s.streams ≡ []
  pub sessions : s.server.sessions.table.sessions ≡ []
  pub opens : s.server.store.opens ≡ []
  pub locks : (file : ℕ) → locks_on s.server.store.locks file ≡ []
  pub marks : (number : ℕ) → has_mark s.server.store.tree.rows number ≡ false
