-- Whatever comes: what is not signed as it must be changes nothing ([MS-SMB2] 3.3.5.2.4).
use Rattle.std.specs.Prelude.{◌≡◌, ◌≢◌, ◌⊎◌, ℕ, false, List, [], ◌∷◌, None, Some, MatchOption}
use Rattle.std.specs.List.{AllByRecursion}
use Rattle.smb_session.specs.Authenticator.{Meaning}
use Rattle.smb_session.specs.Table.{read_only_of}
use Rattle.smb_session.specs.declared.signing.Signing.{Signing}
use Rattle.smb_opens.specs.Readers.{LeavesFiles}
use Rattle.smb_request.specs.Laws.{request_ids}
use Rattle.smb_peers.specs.Event.{EventText, connection_of}
use Rattle.smb_engine.specs.Good.{GoodState}
use Rattle.smb_engine.specs.Run.{PerformedRequest, event_step, event_refusal, run}
use Rattle.smb_engine.specs.State.{ShareState}
use Rattle.smb_signing_laws.specs.Requests.{MustBeSigned, IsSignedBy}

-- a request on a connection that must be signed as it comes is signed by its session's key, or changes nothing; and an
-- SMB_COM_NEGOTIATE, which has no bytes here, changes nothing
abbrev pub IsSignedOrChangesNothing : {S : Type 0} → ℕ → PerformedRequest S → Type 0
IsSignedOrChangesNothing connection came = MatchOption came.request (came.after ≡ came.before) (λ request.
    (signing : Signing) → MustBeSigned came.before connection came.context request signing →
    IsSignedBy signing.key request ⊎ (came.after ≡ came.before))

-- a request on a connection is of nobody who may write and signs: as it comes, its session is no finished one of the
-- connection that may write; or it must be signed, and is not signed by its session's key
abbrev pub IsNotSigned : {S : Type 0} → ℕ → PerformedRequest S → Type 0
IsNotSigned connection came = MatchOption came.request (Unit {0}) (λ request.
    (read_only_of came.before.sessions.table connection (request_ids came.context request).session_id ≢ Some false)
    ⊎ ((signing : Signing) × MustBeSigned came.before connection came.context request signing
    × (IsSignedBy signing.key request → ⊥)))

module _ {S : Type 0} (authenticator : Meaning S) where
  -- each request that is performed in a run, up to an event that is refused, is so on its connection
  abbrev pub EachRequest : (ℕ → PerformedRequest S → Type 0) → ShareState S → List EventText → Type 0
  EachRequest IsSo s [] = Unit {0}
  EachRequest IsSo s (event ∷ events) = event_refusal s event ≡ None →
      AllByRecursion (IsSo (connection_of event)) (event_step authenticator s event).requests
      × EachRequest IsSo (event_step authenticator s event).state events

  -- each request of a run that must be signed is signed, or changes nothing
  abbrev pub EachRequestIsSignedOrChangesNothing : Type 0
  EachRequestIsSignedOrChangesNothing =
      (s : ShareState S) (events : List EventText) → EachRequest IsSignedOrChangesNothing s events

  -- whatever bytes come, from whomever, cut and mixed in any way: if no request of them is of somebody who may write,
  -- and signed where it must be, no file changes, no entry, byte, attribute, time or name, but for what goes with its
  -- last open
  abbrev pub WhatIsNotSignedChangesNoFile : Type 0
  WhatIsNotSignedChangesNoFile =
      (s : ShareState S) (events : List EventText) → GoodState s → EachRequest IsNotSigned s events →
      LeavesFiles s.server.store (run authenticator s events).state.server.store
