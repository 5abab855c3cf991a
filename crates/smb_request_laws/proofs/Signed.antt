-- A request is refused by its signature, by no row whose status is SUCCESS; or it is verified.
use Rattle.std.proofs.Common.{◌≢◌, ℕ, Bool, true, false, not, if◌then◌else◌, List, Option, None, Some, IfSome}
use Rattle.std.specs.Option.{option_map_or}
use Rattle.std.specs.Str.{bytes_eq}
use Rattle.smb_wire.specs.declared.dialect.Dialect.{Dialect}
use Rattle.smb_wire.specs.declared.nt_status.NtStatus.TheVariants.{Success}
use Rattle.smb_refusals.specs.declared.refusal.Refusal.{Refusal}
use Rattle.smb_refusals.specs.declared.request.RequestRefusal.{RequestRefusal}
use Rattle.smb_refusals.specs.declared.request.RequestRefusal.TheVariants.{NotSigned, SignatureWrong}
use Rattle.smb_refusals.specs.Refusals.{refusal_status}
use Rattle.smb_signing.specs.Signature.{signature}
use Rattle.smb_head.specs.Chains.{is_signed}
use Rattle.smb_head.specs.Headers.{header_of}
use Rattle.smb_session.specs.Authenticator.{Meaning}
use Rattle.smb_session.specs.Table.{signing_of}
use Rattle.smb_session.specs.declared.signing.Signing.{Signing}
use Rattle.smb_request.specs.declared.context.Context.{Context}
use Rattle.smb_request.specs.Call.{call_of}
use Rattle.smb_request.specs.Parts.{is_cancel_command}
use Rattle.smb_request.specs.Request.{signature_refusal, refused_by_signature, verified, performed}
use Rattle.smb_request.specs.Response.{Performed}
use Rattle.smb_request.specs.State.{ServerState}

-- a row of a request, if there is one, whose status is not SUCCESS
abbrev pub IsNoSuccess : Option RequestRefusal → Type 0
IsNoSuccess refusal = IfSome refusal (λ row. refusal_status (Refusal.Request row) ≢ Success)

signature_by : (unsigned required right : Bool) →
    IsNoSuccess (if unsigned then (if required then Some NotSigned else None) else if right then None else Some SignatureWrong)
signature_by true true right = λ e. cc
signature_by true false right = tt
signature_by false required true = tt
signature_by false required false = λ e. cc

pub signature_fails : (signing : Option Signing) (request : List ℕ) → IsNoSuccess (signature_refusal signing request)
signature_fails None request = tt
signature_fails (Some signing) request =
    signature_by (not (is_signed request)) signing.required (bytes_eq (header_of request).signature (signature signing.key.bytes request))

cancel_fails : (is_cancel : Bool) (refusal : Option RequestRefusal) → IsNoSuccess refusal → IsNoSuccess (if is_cancel then None else refusal)
cancel_fails true refusal fails = tt
cancel_fails false refusal fails = fails

module _ {S : Type 0} (m : Meaning S) (connection moment : ℕ) (server : ServerState S) (dialect : Option Dialect) (context : Context) (request : List ℕ) where
  either : (P : Performed S → Type 0) →
      ((refusal : RequestRefusal) → refusal_status (Refusal.Request refusal) ≢ Success → P (refused_by_signature server (call_of connection moment dialect context request) dialect refusal)) →
      P (verified m connection moment server dialect context request) → (refusal : Option RequestRefusal) → IsNoSuccess refusal →
      P (option_map_or (refused_by_signature server (call_of connection moment dialect context request) dialect) refusal (verified m connection moment server dialect context request))
  either P denied done None fails = done
  either P denied done (Some refusal) fails = denied refusal fails

  -- what holds of a request that is refused by its signature, and of a verified one, holds of a request
  pub by_refusal : (P : Performed S → Type 0) →
      ((refusal : RequestRefusal) → refusal_status (Refusal.Request refusal) ≢ Success → P (refused_by_signature server (call_of connection moment dialect context request) dialect refusal)) →
      P (verified m connection moment server dialect context request) → P (performed m connection moment server dialect context request)
  unfolding performed
  by_refusal P denied done =
      let call = call_of connection moment dialect context request in
      let refusal = signature_refusal (signing_of server.sessions.table connection call.ids.session_id) request in
      either P denied done _ (cancel_fails (is_cancel_command call.command) refusal (signature_fails (signing_of server.sessions.table connection call.ids.session_id) request))
