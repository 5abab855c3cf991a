-- Who is let in: whose session is finished ([MS-SMB2] 3.3.5.5).
use Rattle.std.specs.Prelude.{◌≡◌, ◌≢◌, ◌==◌, ◌||◌, ◌⊎◌, ℕ, Bool, true, false, List, map, Option, None, Some, is_some, IfSome}
use Rattle.std.specs.Option.{option_map}
use Rattle.smb_wire.specs.declared.command.Command.TheVariants.{SessionSetup}
use Rattle.smb_wire.specs.declared.nt_status.NtStatus.TheVariants.{Success}
use Rattle.smb_body.specs.Requests.{asks_session_setup}
use Rattle.smb_body.specs.SessionSetup.{SessionSetupAsked}
use Rattle.smb_session.specs.Authenticator.{Answered, Meaning, continues, accepts, denies}
use Rattle.smb_session.specs.Laws.{setup_number}
use Rattle.smb_session.specs.Numbers.{IsRising}
use Rattle.smb_session.specs.Session.{SessionState}
use Rattle.smb_session.specs.Setup.{table_answered}
use Rattle.smb_session.specs.Table.{TableState, session_at}
use Rattle.smb_session.specs.declared.signing.Signing.{Signing}
use Rattle.smb_request.specs.Call.{body_of}
use Rattle.smb_request.specs.Laws.{IsInOrder, request_ids}
use Rattle.smb_request.specs.Session.{asks_to_sign}
use Rattle.smb_request_laws.specs.Acting.{command_in}
use Rattle.smb_request_laws.specs.Doing.{Sent, Succeeds, answered}

-- what an answer of the authenticator leaves of the sessions: whoever is to go on is not let in yet; whoever is accepted
-- is let in: the session is finished, by exactly this user, may only read where the answer says it, and is signed as the
-- answer says; whoever is denied is out: the session is gone; and no answer changes another session, but that the
-- previous one may be gone
abbrev pub AnAnswerDecidesWhoIsIn : Type 0
AnAnswerDecidesWhoIsIn =
    (table : TableState) (session previous : ℕ) →
    ((number : ℕ) (token : List ℕ) →
    session_at (table_answered table session previous (continues token)) number ≡ session_at table number)
    × ((user : List ℕ) (flags : ℕ) (read_only : Bool) (signing : Option Signing) (token : List ℕ)
    (state : SessionState) →
    session_at table session ≡ Some state → state.user ≡ None →
    session_at (table_answered table session previous (accepts user flags read_only signing token)) session
    ≡ Some (record state { user = Some user; read_only = read_only; signing = signing }))
    × (IsRising (map (λ e. e.0) table.sessions) → session_at (table_answered table session previous denies) session ≡ None)
    × ((number : ℕ) (answer : Answered) (state : SessionState) → IsRising (map (λ e. e.0) table.sessions) →
    number == session ≡ false → session_at (table_answered table session previous answer) number ≡ Some state →
    session_at table number ≡ Some state)

-- a session was there before, on the same connection, of the same user, with the same leave to write, and was signed the
-- same: by the same key, or by none
pub record WasIn (table : TableState) (number : ℕ) (after : SessionState) : Type 0 where
  pub before : SessionState
  pub at : session_at table number ≡ Some before
  pub connection : before.connection ≡ after.connection
  pub user : before.user ≡ after.user
  pub read_only : before.read_only ≡ after.read_only
  pub signing : before.signing ≡ after.signing

-- a request lets a session in: it is a SESSION_SETUP of this session, and the authenticator accepts its token, as that
-- of this user, who may only read where the session may only read. The session is signed as the answer says, by its key
-- alone, and each of its requests is to be signed where the answer says so or the client asks for it (3.3.5.5.3)
pub record IsLetIn {S : Type 0} (authenticator : Meaning S) (it : Sent S) (number : ℕ) (after : SessionState) : Type 0
  where
    pub asked : SessionSetupAsked
    pub user : List ℕ
    pub flags : ℕ
    pub signing : Option Signing
    pub token : List ℕ
    pub says : body_of (command_in it.request) it.request ≡ Some (asks_session_setup asked)
    pub own : setup_number it.server.sessions.table (request_ids it.context it.request).session_id ≡ number
    pub accepted :
        authenticator.answer it.server.sessions.authenticator number asked.security_buffer
        ≡ accepts user flags after.read_only signing token
    pub user_is : after.user ≡ Some user
    pub signing_is :
        after.signing
        ≡ option_map (λ (s : Signing). record s { required = s.required || asks_to_sign asked }) signing
    pub connection : after.connection ≡ it.connection

module _ {S : Type 0} (authenticator : Meaning S) where
  -- whatever a client sends, a session that is finished afterwards was so before, or is let in by it
  abbrev pub NobodyGetsInUnasked : Type 0
  NobodyGetsInUnasked =
      (it : Sent S) (number : ℕ) (after : SessionState) → IsInOrder it.server →
      session_at (answered authenticator it).server.sessions.table number ≡ Some after → is_some after.user ≡ true →
      WasIn it.server.sessions.table number after ⊎ IsLetIn authenticator it number after

  -- a SESSION_SETUP that does not succeed closes no open, and changes no file
  abbrev pub WhoIsNotInClosesNothing : Type 0
  WhoIsNotInClosesNothing =
      (it : Sent S) → command_in it.request ≡ Some SessionSetup →
      IfSome (answered authenticator it).response (λ response. response.status ≢ Success) →
      (answered authenticator it).server.store ≡ it.server.store

  -- a SESSION_SETUP that succeeds lets its session in
  abbrev pub ASetUpThatSucceedsLetsIn : Type 0
  ASetUpThatSucceedsLetsIn =
      (it : Sent S) (asked : SessionSetupAsked) → IsInOrder it.server →
      Succeeds it (answered authenticator it) (asks_session_setup asked) →
      let number = setup_number it.server.sessions.table (request_ids it.context it.request).session_id in
      (after : SessionState)
      × (session_at (answered authenticator it).server.sessions.table number ≡ Some after)
      × IsLetIn authenticator it number after
