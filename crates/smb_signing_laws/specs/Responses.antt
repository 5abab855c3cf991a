-- The responses of a session that signs are signed ([MS-SMB2] 3.3.4.1.1).
use Rattle.std.specs.Prelude.{◌≡◌, ◌⊎◌, ℕ, true, false, List, [], ◌∷◌, None, Some, MatchOption}
use Rattle.std.specs.List.{concat}
use Rattle.smb_signing.specs.declared.key.Key.{Key}
use Rattle.smb_head.specs.Headers.{header_of}
use Rattle.smb_head.specs.Chains.{is_signed}
use Rattle.smb_session.specs.Authenticator.{Meaning}
use Rattle.smb_session.specs.Table.{signing_of}
use Rattle.smb_session.specs.declared.signing.Signing.{Signing}
use Rattle.smb_request.specs.Request.{is_set_up}
use Rattle.smb_request.specs.State.{ServerState}
use Rattle.smb_engine.specs.declared.arrival.Arrival.{Arrival}
use Rattle.smb_engine.specs.declared.connection.Connection.{Connection}
use Rattle.smb_engine.specs.Output.{reply_frame}
use Rattle.smb_engine.specs.Run.{PerformedRequest, chain_step}
use Rattle.smb_signing_laws.specs.Requests.{signing_under, is_cancel, IsSignedBy}

-- the response to a request is to be signed by a key: the request is signed, and this is the key of its session
abbrev pub IsKeyOfItsSession : {S : Type 0} → ℕ → PerformedRequest S → List ℕ → Key → Type 0
IsKeyOfItsSession connection came request key =
    (is_signed request ≡ true)
    × ((signing : Signing)
    × (signing_under came.before connection came.context request ≡ Some signing)
    × (signing.key ≡ key))

-- or the request is a SESSION_SETUP that lets a session in, under none that signs yet, and this is that session's key
abbrev pub IsKeyOfNewSession : {S : Type 0} → ℕ → PerformedRequest S → List ℕ → Key → Type 0
IsKeyOfNewSession connection came request key =
    (signing_under came.before connection came.context request ≡ None)
    × MatchOption came.response ⊥ (λ response.
    (is_set_up (header_of request).command.0 response.status ≡ true)
    × ((signing : Signing)
    × (signing_of came.after.sessions.table connection response.ids.session_id ≡ Some signing)
    × (signing.key ≡ key)))

-- messages answer some requests on a connection: a CANCEL has none, each other request has one, in order, and there are
-- no others; and each message that is to be signed by a key is, with its padding
abbrev pub AreAnsweredSigned : {S : Type 0} → ℕ → List (PerformedRequest S) → List (List ℕ) → Type 0
AreAnsweredSigned connection [] messages = messages ≡ []
AreAnsweredSigned connection (came ∷ requests) messages = MatchOption came.request ⊥ (λ request.
    ((is_cancel request ≡ true) × AreAnsweredSigned connection requests messages)
    ⊎ ((is_cancel request ≡ false)
    × ((message : List ℕ) × (others : List (List ℕ)) × (messages ≡ message ∷ others)
    × ((key : Key) → IsKeyOfItsSession connection came request key ⊎ IsKeyOfNewSession connection came request key →
    IsSignedBy key message)
    × AreAnsweredSigned connection requests others)))

module _ {S : Type 0} (authenticator : Meaning S) where
  -- a chain that is performed is answered by one frame of messages, one behind the other, which answer its requests so
  abbrev pub AChainIsAnsweredSigned : Type 0
  AChainIsAnsweredSigned =
      (arrival : Arrival) (server : ServerState S) (connection : Connection) (payload : List ℕ) →
      let step = chain_step authenticator arrival server connection payload in
      (messages : List (List ℕ)) × (step.outputs ≡ reply_frame arrival.connection_id (concat messages))
      × AreAnsweredSigned arrival.connection_id step.requests messages
