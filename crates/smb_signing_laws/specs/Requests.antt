-- A request that has to be signed is signed, or refused ([MS-SMB2] 3.3.5.2.4).
use Rattle.std.specs.Prelude.{◌≡◌, ◌⊎◌, ℕ, ◌||◌, Bool, true, false, List, Option, Some, MatchOption}
use Rattle.std.specs.Option.{option_map_or}
use Rattle.smb_wire.specs.Commands.{known_command}
use Rattle.smb_wire.specs.declared.command.Command.TheVariants.{Cancel}
use Rattle.smb_wire.specs.declared.dialect.Dialect.{Dialect}
use Rattle.smb_wire.specs.declared.nt_status.NtStatus.TheVariants.{AccessDenied}
use Rattle.smb_signing.specs.Signature.{signature}
use Rattle.smb_signing.specs.declared.key.Key.{Key}
use Rattle.smb_head.specs.Headers.{header_of}
use Rattle.smb_head.specs.Chains.{is_signed}
use Rattle.smb_body.specs.Replies.{reply_spelling, answers_error}
use Rattle.smb_session.specs.Authenticator.{Meaning}
use Rattle.smb_session.specs.Table.{signing_of}
use Rattle.smb_session.specs.declared.signing.Signing.{Signing}
use Rattle.smb_request.specs.declared.context.Context.{Context}
use Rattle.smb_request.specs.Laws.{request_ids}
use Rattle.smb_request.specs.Request.{performed}
use Rattle.smb_request.specs.Response.{Performed}
use Rattle.smb_request.specs.State.{ServerState}

-- how the messages of the session are signed that a request on a connection acts under, if they are
abbrev pub signing_under : {S : Type 0} → ServerState S → ℕ → Context → List ℕ → Option Signing
signing_under server connection context request =
    signing_of server.sessions.table connection (request_ids context request).session_id

-- a request must be signed so: it acts under a session that signs, and says that it is signed, or has to be
pub record MustBeSigned {S : Type 0} (server : ServerState S) (connection : ℕ) (context : Context) (request : List ℕ)
    (signing : Signing) : Type 0 where
  pub under : signing_under server connection context request ≡ Some signing
  pub due : (is_signed request || signing.required) ≡ true

-- a request has the flag SIGNED, and its signature is that of its very bytes by this key
pub record IsSignedBy (key : Key) (request : List ℕ) : Type 0 where
  pub flag : is_signed request ≡ true
  pub right : (header_of request).signature ≡ signature key.bytes request

-- a request is a CANCEL, which has no response (3.3.5.16)
abbrev pub is_cancel : List ℕ → Bool
is_cancel request = option_map_or
    (λ command. elim command [ Cancel ↦ true | _ ↦ false ])
    (known_command (header_of request).command.0)
    false

-- a request is denied: it changes neither the server nor the dialect, and its response, which a CANCEL alone has not,
-- is ACCESS_DENIED with the error body
pub record IsDenied {S : Type 0} (server : ServerState S) (dialect : Option Dialect) (request : List ℕ)
    (ran : Performed S) : Type 0 where
  pub server_stays : ran.server ≡ server
  pub dialect_stays : ran.dialect ≡ dialect
  pub response : MatchOption ran.response (is_cancel request ≡ true) (λ response.
      (is_cancel request ≡ false)
      × (response.status ≡ AccessDenied)
      × (response.body ≡ reply_spelling answers_error))

module _ {S : Type 0} (authenticator : Meaning S) where
  -- a request that must be signed is signed by its session's key, or denied
  abbrev pub ARequestIsSignedOrDenied : Type 0
  ARequestIsSignedOrDenied =
      (connection moment : ℕ) (server : ServerState S) (dialect : Option Dialect) (context : Context)
      (request : List ℕ) (signing : Signing) → MustBeSigned server connection context request signing →
      IsSignedBy signing.key request
      ⊎ IsDenied server dialect request (performed authenticator connection moment server dialect context request)
