-- The keys of a connection's sessions, which stay behind the sessions' ends ([MS-SMB2] 3.3.4.1.1).
use Rattle.std.specs.Prelude.{ℕ, ◌==◌, nat_le, List, [], ◌∷◌, ◌++◌, length, drop, Option, if◌then◌else◌}
use Rattle.std.specs.Option.{option_map}
use Rattle.std.specs.List.{find}
use Rattle.smb_wire.specs.Limits.{most_sessions}
use Rattle.smb_signing.specs.declared.key.Key.{Key}
use Rattle.smb_engine.specs.declared.session_keys.SessionKey.{SessionKey}

-- the key of a session among those that are kept
abbrev pub kept_key : List SessionKey → ℕ → Option Key
kept_key keys session = option_map (λ (kept : SessionKey). kept.key) (find (λ (kept : SessionKey). kept.session_id == session) keys)

-- the keys with that of a session that is let in; where there are 16 the oldest goes
abbrev pub with_key : List SessionKey → ℕ → Key → List SessionKey
with_key keys session key = (if nat_le most_sessions (length keys) then drop 1 keys else keys) ++ record { session_id = session; key = key } ∷ []
