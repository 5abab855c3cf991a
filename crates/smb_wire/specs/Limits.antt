-- The limits of the server, each once. Those of sizes are its own choice ([MS-SMB2] 3.3.1, 3.3.5.4).
use Rattle.std.specs.Prelude.{ℕ, ◌+◌, Option, None, Some}
use Rattle.std.proofs.Common.{lit≤}
use Rattle.smb_wire.specs.declared.limits.share.Limits.{Limits}
use Rattle.smb_wire.specs.declared.dialect.Dialect.{Dialect}
use Rattle.smb_wire.specs.declared.dialect.Dialect.TheVariants.{Smb202, Smb210}

-- how many bytes one READ, WRITE, QUERY_INFO or QUERY_DIRECTORY may ask for, by the dialect of its connection: what a
-- NEGOTIATE response says as MaxReadSize, MaxWriteSize and MaxTransactSize ([MS-SMB2] 2.2.4)
abbrev pub most_at_once : Option Dialect → ℕ
most_at_once None = 65536
most_at_once (Some Smb202) = 65536
most_at_once (Some Smb210) = 524288

-- the greatest of these
abbrev pub most_in_any_dialect : ℕ
most_in_any_dialect = 524288

-- the most bytes of a response's body: the longest fixed part in front of data, and the data
abbrev pub longest_body : ℕ
longest_body = most_in_any_dialect + 16

-- the most bytes of a response: its header, and its body
abbrev pub longest_response : ℕ
longest_response = 64 + longest_body

-- the most bytes of a frame's payload, from a client
abbrev pub longest_payload : ℕ
longest_payload = 1048576

-- the most requests of a chain
abbrev pub most_requests : ℕ
most_requests = 16

-- the most MessageIds that a window holds ([MS-SMB2] 3.3.1.1)
abbrev pub most_credits : ℕ
most_credits = 256

-- the most sessions of a connection, finished or not
abbrev pub most_sessions : ℕ
most_sessions = 16

-- the most tree connects of a session
abbrev pub most_tree_connects : ℕ
most_tree_connects = 16

-- the most components of a path
abbrev pub most_components : ℕ
most_components = 32

-- the most bytes of a token of an authenticator
abbrev pub longest_token : ℕ
longest_token = 4096

-- the most bytes of a user's name
abbrev pub longest_user_name : ℕ
longest_user_name = 256

-- the limits of a share where its configuration says nothing else
abbrev pub default_limits : Limits
default_limits = record {
  connections = 64;
  opens = 1024;
  locks = 256;
  entries = 4096;
  file_bytes = 16777216;
  capacity = 67108864;
  few_connections = lit≤ tt;
  few_opens = lit≤ tt;
  few_locks = lit≤ tt;
  few_entries = lit≤ tt;
  few_bytes = lit≤ tt;
  small = lit≤ tt;
}
