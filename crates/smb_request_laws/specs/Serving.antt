-- Whoever may is served.
use Rattle.std.specs.Prelude.{◌≡◌, ◌-◌, ◌/◌, ◌+◌, ◌≤◌, ℕ, Bool, true, false, List, Option, None, Some}
use Rattle.std.specs.Option.{option_map, option_map_or}
use Rattle.smb_wire.specs.Limits.{most_at_once}
use Rattle.smb_wire.specs.declared.file_id.FileId.{FileId}
use Rattle.smb_wire.specs.declared.nt_status.NtStatus.{NtStatus}
use Rattle.smb_wire.specs.declared.nt_status.NtStatus.TheVariants.{Success}
use Rattle.smb_head.specs.Chains.{is_related}
use Rattle.smb_head.specs.Headers.{header_of}
use Rattle.smb_body.specs.Requests.{RequestValue, payload_of, asks_session_setup, asks_read, asks_write, asks_echo}
use Rattle.smb_body.specs.SessionSetup.{SessionSetupAsked}
use Rattle.smb_body.specs.Write.{WriteAsked}
use Rattle.smb_body.specs.declared.read.ReadRequest.{ReadRequest}
use Rattle.smb_body.specs.declared.reserved.ReservedRequest.{ReservedRequest}
use Rattle.smb_session.specs.Authenticator.{Meaning, accepts}
use Rattle.smb_session.specs.Laws.{setup_number}
use Rattle.smb_session.specs.Setup.{setup_refusal}
use Rattle.smb_session.specs.Table.{knows_session, knows_tree, signing_of}
use Rattle.smb_session.specs.declared.signing.Signing.{Signing}
use Rattle.smb_access.specs.declared.open_row.Owner.TheVariants.{Tree}
use Rattle.smb_access.specs.Opens.{open_of, is_held_by}
use Rattle.smb_opens.specs.Bytes.{read_status, write_status}
use Rattle.smb_request.specs.Call.{body_of}
use Rattle.smb_request.specs.Charge.{charge_of}
use Rattle.smb_request.specs.Laws.{request_ids}
use Rattle.smb_request.specs.Request.{signature_refusal}
use Rattle.smb_request.specs.Response.{Performed}
use Rattle.smb_request_laws.specs.Acting.{command_in}
use Rattle.smb_request_laws.specs.Doing.{Sent, answered}

-- the status of a response; None where there is no response
abbrev pub response_status : {S : Type 0} → Performed S → Option NtStatus
response_status ran = option_map (λ response. response.status) ran.response

-- a request asks this, takes as many MessageIds as it has to (3.3.5.2.5), and its signature does not refuse it
-- (3.3.5.2.4)
pub record Asks {S : Type 0} (it : Sent S) (asked : RequestValue) : Type 0 where
  pub says : body_of (command_in it.request) it.request ≡ Some asked
  pub charged :
      (payload_of asked - 1) / 65536 + 1 ≤ charge_of it.dialect (header_of it.request).credit_charge
  pub passes :
      signature_refusal
      (signing_of it.server.sessions.table it.connection (request_ids it.context it.request).session_id)
      it.request
      ≡ None

-- it is of an open of its own: it is not related to another request, and the open is one of its tree connect, which is
-- one of its session, which is a finished one of its connection
pub record IsOfItsOwn {S : Type 0} (it : Sent S) (file_id : FileId) : Type 0 where
  pub alone : is_related it.request ≡ false
  pub session :
      knows_session it.server.sessions.table it.connection (request_ids it.context it.request).session_id ≡ true
  pub tree :
      knows_tree
      it.server.sessions.table
      (request_ids it.context it.request).session_id
      (request_ids it.context it.request).tree_id
      ≡ true
  pub halves : file_id.persistent ≡ file_id.volatile
  pub held :
      option_map_or
      (is_held_by (Tree (request_ids it.context it.request).session_id (request_ids it.context it.request).tree_id))
      (open_of it.server.store.opens file_id.persistent)
      false
      ≡ true

module _ {S : Type 0} (authenticator : Meaning S) where
  -- an ECHO is answered by SUCCESS, whoever sends it (3.3.5.17)
  abbrev pub AnEchoIsAnswered : Type 0
  AnEchoIsAnswered =
      (it : Sent S) (asked : ReservedRequest) → Asks it (asks_echo asked) →
      response_status (answered authenticator it) ≡ Some Success

  -- a SESSION_SETUP whose token the authenticator accepts is answered by SUCCESS (3.3.5.5.3)
  abbrev pub WhoIsAcceptedIsAnswered : Type 0
  WhoIsAcceptedIsAnswered =
      (it : Sent S) (asked : SessionSetupAsked) (user : List ℕ) (flags : ℕ) (read_only : Bool)
      (signing : Option Signing) (token : List ℕ) →
      Asks it (asks_session_setup asked) →
      setup_refusal
      it.server.sessions.table
      it.connection
      (request_ids it.context it.request).session_id
      asked.flags.0
      ≡ None →
      authenticator.answer
      it.server.sessions.authenticator
      (setup_number it.server.sessions.table (request_ids it.context it.request).session_id)
      asked.security_buffer
      ≡ accepts user flags read_only signing token →
      response_status (answered authenticator it) ≡ Some Success

  -- a READ and a WRITE through an open of its own succeed, where the store refuses them for no reason (3.3.5.12,
  -- 3.3.5.13)
  abbrev pub WhatIsOfItsOwnSucceeds : Type 0
  WhatIsOfItsOwnSucceeds =
      (it : Sent S) →
      ((asked : ReadRequest) → Asks it (asks_read asked) → IsOfItsOwn it asked.file_id →
      read_status it.server.store (most_at_once it.dialect) asked.file_id.persistent asked.offset asked.length
      asked.minimum_count ≡ Success →
      response_status (answered authenticator it) ≡ Some Success)
      × ((asked : WriteAsked) → Asks it (asks_write asked) → IsOfItsOwn it asked.file_id →
      write_status it.server.store (most_at_once it.dialect) asked.file_id.persistent asked.offset asked.buffer
      ≡ Success →
      response_status (answered authenticator it) ≡ Some Success)
