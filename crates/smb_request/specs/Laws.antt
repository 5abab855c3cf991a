-- What follows from the definitions.
use Rattle.std.specs.Prelude.{◌≡◌, ◌⊎◌, ℕ, ◌<◌, ◌==◌, Bool, false, ◌≢◌, List, [], filter, map, Option, None, Some, if◌then◌else◌}
use Rattle.std.specs.List.{AllByRecursion}
use Rattle.smb_wire.specs.Commands.{known_command}
use Rattle.smb_head.specs.Headers.{header_of}
use Rattle.smb_body.specs.Requests.{asks_session_setup}
use Rattle.smb_body.specs.SessionSetup.{SessionSetupAsked}
use Rattle.smb_session.specs.Authenticator.{Meaning, accepts}
use Rattle.smb_session.specs.declared.signing.Signing.{Signing}
use Rattle.smb_session.specs.Good.{GoodTable}
use Rattle.smb_session.specs.Numbers.{IsRising}
use Rattle.smb_session.specs.Session.{SessionState}
use Rattle.smb_session.specs.Laws.{setup_number}
use Rattle.smb_session.specs.Table.{TableState, session_at, read_only_of}
use Rattle.smb_access.specs.declared.open_row.Owner.TheVariants.{Session}
use Rattle.smb_opens.specs.Good.{GoodStore}
use Rattle.smb_opens.specs.Readers.{LeavesFiles}
use Rattle.smb_access.specs.Numbers.{AreRising}
use Rattle.smb_access.specs.Opens.{is_held_by, open_numbers, AreAllBelow}
use Rattle.smb_opens.specs.State.{StoreState}
use Rattle.smb_wire.specs.declared.dialect.Dialect.{Dialect}
use Rattle.smb_request.specs.declared.context.Context.{Context}
use Rattle.smb_request.specs.Call.{body_of}
pub use Rattle.smb_request.specs.Call.{request_ids}
use Rattle.smb_request.specs.Owners.{AreOwned}
use Rattle.smb_request.specs.Request.{performed}
use Rattle.smb_request.specs.State.{ServerState, connection_added, connection_ended}

-- the sessions and the opens stand in rising number, and each number was given
pub record NumbersInOrder (table : TableState) (store : StoreState) : Type 0 where
  pub sessions : IsRising (map (λ e. e.0) table.sessions)
  pub sessions_given : AllByRecursion (λ e. e.0 < table.next) table.sessions
  pub opens : AreRising (open_numbers store.opens)
  pub opens_given : AreAllBelow store.next store.opens

-- so do those of a server
abbrev pub IsInOrder : {S : Type 0} → ServerState S → Type 0
IsInOrder server = NumbersInOrder server.sessions.table server.store

-- a session is as it was, with its trees and its opens
abbrev pub IsAsItWas : {S : Type 0} → ServerState S → ServerState S → ℕ → Type 0
IsAsItWas before after number =
    (session_at after.sessions.table number ≡ session_at before.sessions.table number)
    × (filter (is_held_by (Session number)) after.store.opens ≡ filter (is_held_by (Session number)) before.store.opens)

-- a session is gone, with its opens
abbrev pub IsOver : {S : Type 0} → ServerState S → ℕ → Type 0
IsOver after number = (session_at after.sessions.table number ≡ None) × (filter (is_held_by (Session number)) after.store.opens ≡ [])

-- what is good is in order, and that is kept by a connection that opens or ends, and by a request
abbrev pub OrderIsKept : {S : Type 0} → Meaning S → Type 0
OrderIsKept {S} authenticator =
    ((server : ServerState S) → GoodTable server.sessions.table → GoodStore server.store → IsInOrder server)
    × ((server : ServerState S) (connection : ℕ) → IsInOrder server → IsInOrder (connection_added server connection))
    × ((server : ServerState S) (connection : ℕ) → IsInOrder server → IsInOrder (connection_ended server connection))
    × ((connection moment : ℕ) (server : ServerState S) (dialect : Option Dialect) (context : Context) (request : List ℕ) →
    IsInOrder server → IsInOrder (performed authenticator connection moment server dialect context request).server)

-- the end of a connection leaves each session of another one as it is, with its trees and its opens
abbrev pub AnEndIsAlone : {S : Type 0} → Meaning S → Type 0
AnEndIsAlone {S} authenticator =
    (server : ServerState S) (connection number : ℕ) (session : SessionState) → IsInOrder server →
    session_at server.sessions.table number ≡ Some session → session.connection == connection ≡ false →
    IsAsItWas server (connection_ended server connection) number

-- a request is a SESSION_SETUP that lets a session's user in, and names this session as the previous one (3.3.5.5.3)
pub record ReplacesSession {S : Type 0} (authenticator : Meaning S) (server : ServerState S) (context : Context) (request : List ℕ) (number : ℕ) (session : SessionState) : Type 0 where
  pub asked : SessionSetupAsked
  pub user : List ℕ
  pub flags : ℕ
  pub read_only : Bool
  pub signing : Option Signing
  pub token : List ℕ
  pub says : body_of (known_command (header_of request).command.0) request ≡ Some (asks_session_setup asked)
  pub accepted :
      authenticator.answer server.sessions.authenticator (setup_number server.sessions.table (request_ids context request).session_id) asked.security_buffer
      ≡ accepts user flags read_only signing token
  pub same_user : session.user ≡ Some user
  pub previous : asked.previous_session_id ≡ number

-- a request on a connection leaves each session of another one as it is; or it replaces that session, which then is
-- over
abbrev pub ARequestIsAlone : {S : Type 0} → Meaning S → Type 0
ARequestIsAlone {S} authenticator =
    (connection moment : ℕ) (server : ServerState S) (dialect : Option Dialect) (context : Context) (request : List ℕ) (number : ℕ) (session : SessionState) →
    IsInOrder server → session_at server.sessions.table number ≡ Some session → session.connection == connection ≡ false →
    IsAsItWas server (performed authenticator connection moment server dialect context request).server number
    ⊎ (IsOver (performed authenticator connection moment server dialect context request).server number × ReplacesSession authenticator server context request number session)

-- WHOEVER MAY ONLY READ CHANGES NO FILE

-- no finished session of a connection may write
abbrev pub AllMayOnlyRead : TableState → ℕ → Type 0
AllMayOnlyRead table connection = (session : ℕ) → read_only_of table connection session ≢ Some false

-- no file is changed, but for what goes with its last open; and each open is owned
pub record ChangesNoFile {S : Type 0} (before after : ServerState S) : Type 0 where
  pub files : LeavesFiles before.store after.store
  pub owned : AreOwned after.sessions.table after.store.opens

-- a request on a connection changes no file where no session of it may write
abbrev pub ARequestToReadChangesNoFile : {S : Type 0} → Meaning S → Type 0
ARequestToReadChangesNoFile {S} authenticator =
    (connection moment : ℕ) (server : ServerState S) (dialect : Option Dialect) (context : Context) (request : List ℕ) →
    IsInOrder server → AreOwned server.sessions.table server.store.opens → AllMayOnlyRead server.sessions.table connection →
    ChangesNoFile server (performed authenticator connection moment server dialect context request).server

-- nor does the end of any connection
abbrev pub AnEndChangesNoFile : {S : Type 0} → Meaning S → Type 0
AnEndChangesNoFile {S} authenticator =
    (server : ServerState S) (connection : ℕ) → IsInOrder server → AreOwned server.sessions.table server.store.opens →
    ChangesNoFile server (connection_ended server connection)
