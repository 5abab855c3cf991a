-- SESSION_SETUP ([MS-SMB2] 3.3.5.5).
use Rattle.std.specs.Prelude.{ℕ, Bool, false, ◌||◌, ◌==◌, not, nat_le, bit_and, List, [], length, Option, None, Some, is_some, if◌then◌else◌}
use Rattle.std.specs.Option.{option_map, option_map_or, option_eq}
use Rattle.std.specs.Str.{bytes_eq}
use Rattle.smb_wire.specs.Limits.{most_sessions}
use Rattle.smb_wire.specs.Counters.{is_spent}
use Rattle.smb_refusals.specs.declared.session.SetupRefusal.{SetupRefusal}
use Rattle.smb_refusals.specs.declared.session.SetupRefusal.TheVariants.{BindingAsked, NoSessionLeft, UnknownSession, SessionFinished}
use Rattle.smb_session.specs.declared.setup.SetupStatus.{SetupStatus}
use Rattle.smb_session.specs.declared.setup.SetupStatus.TheVariants.{Success, MoreProcessingRequired, LogonFailure}
use Rattle.smb_session.specs.Numbers.{contains}
use Rattle.smb_session.specs.Session.{SessionState}
use Rattle.smb_session.specs.declared.signing.Signing.{Signing}
use Rattle.smb_session.specs.Table.{TableState, session_at, numbers_on, session_ended, session_changed}
use Rattle.smb_session.specs.Authenticator.{Answered, continues, accepts, denies}

-- why a SESSION_SETUP is refused, so that the authenticator is not asked: the first row that holds
abbrev pub setup_refusal : TableState → ℕ → ℕ → ℕ → Option SetupRefusal
setup_refusal table connection session flags =
    -- SS1. BINDING (0x01) is set
    if not (bit_and flags 1 == 0) then Some BindingAsked else
    -- SS2. SessionId 0 asks for a new session, and the connection is not known, has 16 (unfinished ones count), or the
    -- numbers are spent
    if session == 0 then
    (if not (contains table.connections connection)
    || nat_le most_sessions (length (numbers_on table.sessions connection))
    || is_spent 64 table.next
    then Some NoSessionLeft else None) else
    -- SS3, SS4. SessionId names none of this connection, or a finished one
    option_map_or
    (λ (state : SessionState).
    if not (state.connection == connection) then Some UnknownSession else
    if is_some state.user then Some SessionFinished else None)
    (session_at table session)
    (Some UnknownSession)

-- the session that an accepted one ends: that of PreviousSessionId, where it is finished and of the same user, on
-- whatever connection. It is another one, since the one that is accepted was not finished before (3.3.5.5.3)
abbrev pub previous_ended : TableState → List ℕ → ℕ → Option ℕ
previous_ended table user previous =
    if option_map_or (λ (state : SessionState). option_eq bytes_eq state.user (Some user)) (session_at table previous) false
    then Some previous else None

-- an answer about a session whose client may ask that each of its requests is signed (3.3.5.5.3)
abbrev pub signing_asked : Bool → Answered → Answered
signing_asked required (continues token) = continues token
signing_asked required (accepts user flags read_only signing token) =
    accepts user flags read_only (option_map (λ (signing : Signing). record signing { required = signing.required || required }) signing) token
signing_asked required denies = denies

-- the table after an answer about a session: one that is accepted is finished, by a user who may only read or who may
-- write too, and the previous one ends
abbrev pub table_answered : TableState → ℕ → ℕ → Answered → TableState
table_answered table session previous (continues token) = table
table_answered table session previous (accepts user flags read_only signing token) =
    session_changed
    (λ state. record state { user = Some user; read_only = read_only; signing = signing })
    (option_map_or (session_ended table) (previous_ended table user previous) table)
    session
table_answered table session previous denies = session_ended table session

-- what is reported of an answer: the session's number, the status, session flags, a token, and the session that ended
pub record SetupResult : Type 0 where
  pub session : ℕ
  pub status : SetupStatus
  pub flags : ℕ
  pub token : List ℕ
  pub ended : Option ℕ

-- and by each answer
abbrev pub setup_result : TableState → ℕ → ℕ → Answered → SetupResult
setup_result table session previous (continues token) =
    record { session = session; status = MoreProcessingRequired; flags = 0; token = token; ended = None }
setup_result table session previous (accepts user flags read_only signing token) =
    record { session = session; status = Success; flags = flags; token = token; ended = previous_ended table user previous }
setup_result table session previous denies =
    record { session = session; status = LogonFailure; flags = 0; token = []; ended = None }
