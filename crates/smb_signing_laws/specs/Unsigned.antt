-- Without keys all is as if there were no signing.
use Rattle.std.specs.Prelude.{◌≡◌, ℕ, List, [], Option, None}
use Rattle.std.specs.List.{AllByRecursion, fold}
use Rattle.smb_wire.specs.declared.dialect.Dialect.{Dialect}
use Rattle.smb_head.specs.Replies.{HasNoKey}
use Rattle.smb_session.specs.Authenticator.{Answered, continues, accepts, denies, Meaning}
use Rattle.smb_session.specs.declared.signing.Signing.{Signing}
use Rattle.smb_request.specs.declared.context.Context.{Context}
use Rattle.smb_request.specs.Request.{performed, verified}
use Rattle.smb_request.specs.State.{ServerState}
use Rattle.smb_peers.specs.Event.{EventText}
use Rattle.smb_engine.specs.declared.arrival.Arrival.{Arrival}
use Rattle.smb_engine.specs.Run.{ChainState, one_performed, run}
use Rattle.smb_engine.specs.State.{ShareState}
use Rattle.smb_signing_laws.specs.Runs.{EachRequest}

-- no session has a key
abbrev pub HasNoKeys : {S : Type 0} → ServerState S → Type 0
HasNoKeys server = AllByRecursion (λ e. e.1.signing ≡ None) server.sessions.table.sessions

-- how an answer has the messages of its session signed, if they are
abbrev pub signing_given : Answered → Option Signing
signing_given (continues token) = None
signing_given (accepts user flags read_only signing token) = signing
signing_given denies = None

-- an authenticator gives no session a key
abbrev pub GivesNoKeys : {S : Type 0} → Meaning S → Type 0
GivesNoKeys {S} authenticator =
    (state : S) (session : ℕ) (token : List ℕ) → signing_given (authenticator.answer state session token) ≡ None

module _ {S : Type 0} (authenticator : Meaning S) where
  -- where there are no keys no signature refuses a request, and there are none behind it
  abbrev pub WithoutKeysARequestIsVerified : Type 0
  WithoutKeysARequestIsVerified =
      (connection moment : ℕ) (server : ServerState S) (dialect : Option Dialect) (context : Context)
      (request : List ℕ) → HasNoKeys server →
      let ran = performed authenticator connection moment server dialect context request in
      (ran ≡ verified authenticator connection moment server dialect context request)
      × (GivesNoKeys authenticator → HasNoKeys ran.server)

  -- each request of a run comes to a server without keys, and there are none behind the run
  abbrev pub ARunWithoutKeysHasNone : Type 0
  ARunWithoutKeysHasNone =
      (s : ShareState S) (events : List EventText) → GivesNoKeys authenticator → HasNoKeys s.server →
      EachRequest authenticator (λ connection came. HasNoKeys came.before) s events
      × HasNoKeys (run authenticator s events).state.server

  -- no reply of a chain has a key, by which it would be signed, and its connection keeps none
  abbrev pub WithoutKeysNoReplyIsSigned : Type 0
  WithoutKeysNoReplyIsSigned =
      (arrival : Arrival) (chain : ChainState S) (requests : List (List ℕ)) → GivesNoKeys authenticator →
      HasNoKeys chain.server → chain.connection.keys ≡ [] → AllByRecursion HasNoKey chain.replies →
      let done = fold (one_performed authenticator arrival) chain requests in
      AllByRecursion HasNoKey done.replies × (done.connection.keys ≡ [])
