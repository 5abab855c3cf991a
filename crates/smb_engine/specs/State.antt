-- The state of a share ([MS-SMB2] 3.3.1), and what opens and ends a connection.
use Rattle.std.specs.Prelude.{ℕ, ◌+◌, Bool, false, List, [], ◌∷◌, None, Option, is_some, if◌then◌else◌}
use Rattle.std.specs.Map.{lookup, remove_entry}
use Rattle.std.specs.BTreeMap.{is_at, insert_entry}
use Rattle.std.specs.Ordering.{nat_cmp}
use Rattle.smb_session.specs.Numbers.{contains, with_number}
use Rattle.smb_session.specs.Table.{TableState}
use Rattle.smb_request.specs.Settings.{Settings}
use Rattle.smb_tree.specs.Content.{Content, new_content_within}
use Rattle.smb_request.specs.State.{ServerState, server_over, connection_ended}
use Rattle.smb_engine.specs.declared.connection.Connection.{Connection}

-- a connection with its stream: in the definition all bytes that were received, in the code those that are unread
-- (3.3.1.7)
pub record StreamState : Type 0 where
  pub received : List ℕ
  pub connection : Connection

-- the whole share: the server, the streams of the open connections in rising number, the next connection's number, and
-- how many connections may be open, which never changes
pub record ShareState (S : Type 0) : Type 0 where
  pub server : ServerState S
  pub streams : List (ℕ × StreamState)
  pub next : ℕ
  pub most_connections : ℕ

-- a share over the files of a tree: no connection, and the first will be 1
abbrev pub share_over : {S : Type 0} → Settings → S → Content → ShareState S
share_over settings authenticator tree = record {
  server = server_over settings authenticator tree;
  streams = [];
  next = 1;
  most_connections = settings.limits.connections;
}

-- a new share: of files the root alone
abbrev pub new_share : {S : Type 0} → Settings → S → ShareState S
new_share settings authenticator =
    share_over settings authenticator (new_content_within settings.limits settings.created settings.capacity)

-- the stream of a connection's number
abbrev pub stream_of : ℕ → List (ℕ × StreamState) → Option StreamState
stream_of connection streams = lookup (is_at (nat_cmp connection)) streams

-- whether a connection is open
abbrev pub is_open : {S : Type 0} → ShareState S → ℕ → Bool
is_open s connection = is_some (stream_of connection s.streams)

-- the stream of a new connection: nothing was received, no dialect is negotiated, the window is {0}, and no session
-- has a key (3.3.5.1)
abbrev pub new_stream : StreamState
new_stream = record {
  received = [];
  connection = record { payload_came = false; dialect = None; window = record { usable = 0 ∷ []; next = 1 }; keys = [] };
}

-- the share with one connection more, which may begin sessions from now on (3.3.5.1)
abbrev pub opened : {S : Type 0} → ShareState S → ShareState S
opened s =
    let table : TableState = s.server.sessions.table in
    record s {
      server = record s.server {
        sessions = record s.server.sessions {
          table = if contains table.connections s.next then table
              else record table { connections = with_number table.connections s.next };
        };
      };
      streams = insert_entry nat_cmp s.streams s.next new_stream;
      next = s.next + 1;
    }

-- the share without a connection: its sessions end with it (3.3.7.1)
abbrev pub ended : {S : Type 0} → ShareState S → ℕ → ShareState S
ended s connection = record s {
  server = connection_ended s.server connection;
  streams = remove_entry (is_at (nat_cmp connection)) s.streams;
}
