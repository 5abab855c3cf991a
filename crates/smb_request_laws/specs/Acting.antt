-- Under whose session, tree connect and open a request acts ([MS-SMB2] 3.3.5.2.9 to 3.3.5.2.11).
use Rattle.std.specs.Prelude.{◌≡◌, ◌≢◌, ℕ, Bool, true, false, List, Option, Some, IfSome}
use Rattle.std.specs.Option.{option_map_or}
use Rattle.smb_wire.specs.Commands.{known_command}
use Rattle.smb_wire.specs.declared.command.Command.{Command}
use Rattle.smb_wire.specs.declared.command.Command.TheVariants.{Negotiate, SessionSetup, Logoff, TreeConnect, TreeDisconnect, Create, Echo}
use Rattle.smb_wire.specs.declared.dialect.Dialect.{Dialect}
use Rattle.smb_wire.specs.declared.nt_status.NtStatus.TheVariants.{Success}
use Rattle.smb_head.specs.Headers.{header_of}
use Rattle.smb_body.specs.Replies.{reply_spelling, answers_error}
use Rattle.smb_session.specs.Authenticator.{Meaning}
use Rattle.smb_session.specs.Table.{knows_session, knows_tree}
use Rattle.smb_access.specs.declared.open_row.Owner.TheVariants.{Tree}
use Rattle.smb_access.specs.Opens.{open_of, is_held_by}
use Rattle.smb_request.specs.declared.context.Context.{Context}
use Rattle.smb_request.specs.declared.context.ContextOpen.TheVariants.{Refused}
use Rattle.smb_request.specs.Call.{call_of}
use Rattle.smb_request.specs.Context.{first_context}
use Rattle.smb_request.specs.Laws.{request_ids}
use Rattle.smb_request.specs.Request.{performed}
use Rattle.smb_request.specs.Response.{Performed}
use Rattle.smb_request.specs.State.{ServerState}

-- the command of a request; None where the standard has none of its code
abbrev pub command_in : List ℕ → Option Command
command_in request = known_command (header_of request).command.0

-- a request of anyone: NEGOTIATE, SESSION_SETUP or ECHO
abbrev pub is_of_anyone : List ℕ → Bool
is_of_anyone request = option_map_or
    (λ command. elim command [ Negotiate ↦ true | SessionSetup ↦ true | Echo ↦ true | _ ↦ false ])
    (command_in request)
    false

-- a request of whoever has a session: one of these, LOGOFF or TREE_CONNECT
abbrev pub is_of_a_session : List ℕ → Bool
is_of_a_session request = option_map_or
    (λ command. elim command [
      | Negotiate ↦ true
      | SessionSetup ↦ true
      | Echo ↦ true
      | Logoff ↦ true
      | TreeConnect ↦ true
      | _ ↦ false
    ])
    (command_in request)
    false

-- a request of whoever has a tree connect: one of these, TREE_DISCONNECT or CREATE. All others are of an open
abbrev pub is_of_a_tree : List ℕ → Bool
is_of_a_tree request = option_map_or
    (λ command. elim command [
      | Negotiate ↦ true
      | SessionSetup ↦ true
      | Echo ↦ true
      | Logoff ↦ true
      | TreeConnect ↦ true
      | TreeDisconnect ↦ true
      | Create ↦ true
      | _ ↦ false
    ])
    (command_in request)
    false

-- a request is refused: it changes nothing, and its response, if it has one, has a status that is not SUCCESS, and the
-- error body (2.2.2)
pub record IsTurnedAway {S : Type 0} (server : ServerState S) (ran : Performed S) : Type 0 where
  pub unchanged : ran.server ≡ server
  pub response :
      IfSome ran.response
      (λ response. (response.status ≢ Success) × (response.body ≡ reply_spelling answers_error))

-- the CREATE before a request in its chain, where it was refused, was refused by another status than SUCCESS
abbrev pub IsNotRefusedBySuccess : Context → Type 0
IsNotRefusedBySuccess context = context.last_open ≢ Refused Success

module _ {S : Type 0} (authenticator : Meaning S) where
  -- a request that is not of anyone acts under a finished session of its own connection, or is refused (3.3.5.2.9)
  abbrev pub NothingIsDoneWithoutASession : Type 0
  NothingIsDoneWithoutASession =
      (connection moment : ℕ) (server : ServerState S) (dialect : Option Dialect) (context : Context)
      (request : List ℕ) → is_of_anyone request ≡ false →
      knows_session server.sessions.table connection (request_ids context request).session_id ≡ false →
      IsTurnedAway server (performed authenticator connection moment server dialect context request)

  -- so a connection on which no session is finished changes nothing, but by a SESSION_SETUP: no file, open or lock
  abbrev pub NobodyChangesNothing : Type 0
  NobodyChangesNothing =
      (connection moment : ℕ) (server : ServerState S) (dialect : Option Dialect) (context : Context)
      (request : List ℕ) → ((session : ℕ) → knows_session server.sessions.table connection session ≡ false) →
      command_in request ≢ Some SessionSetup →
      (performed authenticator connection moment server dialect context request).server ≡ server

  -- a request that is not of anyone or of whoever has a session acts under a tree connect of its session, or is refused
  -- (3.3.5.2.11)
  abbrev pub NothingIsDoneWithoutATree : Type 0
  NothingIsDoneWithoutATree =
      (connection moment : ℕ) (server : ServerState S) (dialect : Option Dialect) (context : Context)
      (request : List ℕ) → is_of_a_session request ≡ false →
      knows_tree
      server.sessions.table
      (request_ids context request).session_id
      (request_ids context request).tree_id
      ≡ false →
      IsTurnedAway server (performed authenticator connection moment server dialect context request)

  -- a request that is of an open acts on one of its session and tree connect, or is refused (3.3.5.10)
  abbrev pub NothingIsDoneWithoutAnOpen : Type 0
  NothingIsDoneWithoutAnOpen =
      (connection moment : ℕ) (server : ServerState S) (dialect : Option Dialect) (context : Context)
      (request : List ℕ) → IsNotRefusedBySuccess context → is_of_a_tree request ≡ false →
      option_map_or
      (is_held_by (Tree (request_ids context request).session_id (request_ids context request).tree_id))
      (open_of server.store.opens (call_of connection moment dialect context request).open_number)
      false
      ≡ false →
      IsTurnedAway server (performed authenticator connection moment server dialect context request)

  -- neither a chain begins behind a CREATE that was refused by SUCCESS, nor does a request hand on one (3.3.5.2.7.2)
  abbrev pub NoCreateIsRefusedBySuccess : Type 0
  NoCreateIsRefusedBySuccess =
      IsNotRefusedBySuccess first_context
      × ((connection moment : ℕ) (server : ServerState S) (dialect : Option Dialect) (context : Context)
      (request : List ℕ) → IsNotRefusedBySuccess context →
      IsNotRefusedBySuccess (performed authenticator connection moment server dialect context request).context)
