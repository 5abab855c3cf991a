-- The state of a share ([MS-SMB2] 3.3.1).
use Rattle.std.specs.Prelude.{ℕ, ◌==◌, not, [], filter}
use Rattle.std.specs.List.{fold}
use Rattle.smb_session.specs.Table.{connected, numbers_on}
use Rattle.smb_session.specs.Sessions.{SessionsState, new_sessions}
use Rattle.smb_tree.specs.Content.{Content, new_content_within}
use Rattle.smb_access.specs.declared.open_row.Owner.TheVariants.{Session}
use Rattle.smb_opens.specs.Close.{closed_all}
use Rattle.smb_opens.specs.State.{StoreState}
use Rattle.smb_request.specs.Settings.{Settings}

-- what all connections share: the configuration, the sessions with their authenticator, and the files with their
-- opens and locks (3.3.1.5)
pub record ServerState (S : Type 0) : Type 0 where
  pub settings : Settings
  pub sessions : SessionsState S
  pub store : StoreState

-- a server over the files of a tree: no session; the first open will be 1
abbrev pub server_over : {S : Type 0} → Settings → S → Content → ServerState S
server_over settings authenticator tree = record {
  settings = settings;
  sessions = new_sessions authenticator settings.share;
  store = record { tree = tree; opens = []; locks = []; next = 1 };
}

-- a new server: of files the root alone
abbrev pub new_server : {S : Type 0} → Settings → S → ServerState S
new_server settings authenticator =
    server_over settings authenticator (new_content_within settings.limits settings.created settings.capacity)

-- a connection may begin sessions from now on
abbrev pub connection_added : {S : Type 0} → ServerState S → ℕ → ServerState S
connection_added server connection =
    record server { sessions = record server.sessions { table = connected server.sessions.table connection } }

-- a connection is gone, and its sessions with their trees (3.3.7.1), and with them their opens, session by session in
-- rising number
unfoldable pub connection_ended : {S : Type 0} → ServerState S → ℕ → ServerState S
connection_ended server connection =
    let table = server.sessions.table in
    let close : StoreState → ℕ → StoreState = λ store session. closed_all store (Session session) in
    record server {
      sessions = record server.sessions {
        table = record table {
          connections = filter (λ other. not (other == connection)) table.connections;
          sessions = filter (λ e. not (e.1.connection == connection)) table.sessions;
        };
      };
      store = fold close server.store (numbers_on table.sessions connection);
    }
