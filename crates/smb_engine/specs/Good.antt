-- A good share: what holds of it between any two calls, and what the laws about later calls take as their premise.
use Rattle.std.specs.Prelude.{◌≡◌, ◌+◌, ◌≤◌, ◌<◌, true, false, length, map}
use Rattle.std.specs.List.{AllByRecursion}
use Rattle.smb_wire.specs.Limits.{longest_payload}
use Rattle.smb_session.specs.Window.{GoodWindow}
use Rattle.smb_session.specs.Good.{GoodTable}
use Rattle.smb_opens.specs.Good.{GoodStore}
use Rattle.smb_request.specs.Settings.{is_lawful}
use Rattle.smb_request.specs.Owners.{AreOwned}
use Rattle.smb_engine.specs.State.{StreamState, ShareState, new_stream}

-- a connection between calls: at most 1,048,579 bytes are unread, and its window is good; and while no payload came it
-- is as it was opened, without a dialect and with the window {0}
pub record IsGoodStream (stream : StreamState) : Type 0 where
  pub unread : length stream.received ≤ longest_payload + 3
  pub window : GoodWindow stream.connection.window
  pub fresh : stream.connection.payload_came ≡ false → stream.connection ≡ new_stream.connection

-- the configuration keeps its rules, and the share has its name, its capacity and its limits; no more connections are open
-- than may be, each has a number that was given, from 1 on, and each is good; the sessions are good, and each of their connections is open;
-- the files and their opens are good, and each open belongs to a session and a tree connect that exist
pub record GoodState {S : Type 0} (s : ShareState S) : Type 0 where
  pub lawful : is_lawful s.server.settings ≡ true
  pub named : s.server.sessions.share ≡ s.server.settings.share
  pub room : s.server.store.tree.capacity ≡ s.server.settings.capacity
  pub limits : s.server.store.tree.limits ≡ s.server.settings.limits
  pub few : length s.streams ≤ s.most_connections
  pub given : AllByRecursion (λ entry. (0 < entry.0) × (entry.0 < s.next)) s.streams
  pub next : 0 < s.next
  pub good : AllByRecursion (λ entry. IsGoodStream entry.1) s.streams
  pub sessions : GoodTable s.server.sessions.table
  pub known : s.server.sessions.table.connections ≡ map (λ entry. entry.0) s.streams
  pub store : GoodStore s.server.store
  pub owned : AreOwned s.server.sessions.table s.server.store.opens
