-- What holds of the sessions between calls.
use Rattle.std.specs.Prelude.{◌≡◌, ℕ, ◌<◌, ◌≤◌, ◌^◌, true, [], length, map, None, IfSome}
use Rattle.std.specs.List.{AllByRecursion}
use Rattle.smb_wire.specs.Limits.{most_tree_connects, longest_user_name, most_sessions}
use Rattle.smb_session.specs.Numbers.{contains, IsRising}
use Rattle.smb_session.specs.Session.{SessionState}
use Rattle.smb_session.specs.Table.{TableState, numbers_on}

-- a session: at most 16 trees, in rising order, each with a number that was given, from 1 on; a user has at most 256 bytes;
-- while it is unfinished it has no tree
pub record GoodSession (session : SessionState) : Type 0 where
  pub few : length session.trees ≤ most_tree_connects
  pub rising : IsRising session.trees
  pub given : AllByRecursion (λ tree. (0 < tree) × (tree < session.next_tree)) session.trees
  pub next : (0 < session.next_tree) × (session.next_tree < 2 ^ 32)
  pub user : IfSome session.user (λ user. length user ≤ longest_user_name)
  pub unfinished : session.user ≡ None → session.trees ≡ []

-- the table: connections and sessions in rising order, each session with a number that was given, from 1 on, on a connection
-- that is known, and good; at most 16 on one connection
pub record GoodTable (table : TableState) : Type 0 where
  pub connections : IsRising table.connections
  pub sessions : IsRising (map (λ e. e.0) table.sessions)
  pub given : AllByRecursion (λ e. (0 < e.0) × (e.0 < table.next)) table.sessions
  pub next : (0 < table.next) × (table.next < 2 ^ 64)
  pub known : AllByRecursion (λ e. contains table.connections e.1.connection ≡ true) table.sessions
  pub good : AllByRecursion (λ e. GoodSession e.1) table.sessions
  pub few : (connection : ℕ) → length (numbers_on table.sessions connection) ≤ most_sessions
