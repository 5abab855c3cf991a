-- A request by its parts.
use Rattle.std.proofs.Common.{◌≡◌, ℕ, Bool, true, false, if◌then◌else◌, List, Option, None, Some, refl, sym, ap, ◌∙◌}
use Rattle.std.specs.Option.{option_map_or}
use Rattle.smb_wire.specs.declared.dialect.Dialect.{Dialect}
use Rattle.smb_session.specs.Authenticator.{Meaning}
use Rattle.smb_request.specs.declared.context.Context.{Context}
use Rattle.smb_request.specs.Call.{body_of, call_of}
use Rattle.smb_request.specs.Context.{named_on, open_for_next_related}
use Rattle.smb_request.specs.Parts.{dialect_after, performed_by}
use Rattle.smb_request.specs.Request.{signature_refusal, refused_by_signature, verified, performed}
use Rattle.smb_request.specs.Response.{ResponseState, Performed}
use Rattle.smb_request.specs.State.{ServerState}
use Rattle.smb_request.proofs.Verified.{by_signature}
use Rattle.smb_signing_laws.specs.Requests.{signing_under, is_cancel}

module _ {S : Type 0} (m : Meaning S) (connection moment : ℕ) (server : ServerState S) (dialect : Option Dialect) (context : Context) (request : List ℕ) where
  -- a request that is a CANCEL, or none, is refused by its signature, or verified
  abbrev pub by_refusal : Bool → Performed S
  by_refusal cancel =
      let call = call_of connection moment dialect context request in
      option_map_or
      (refused_by_signature server call dialect)
      (if cancel then None else signature_refusal (signing_under server connection context request) request)
      (verified m connection moment server dialect context request)

  pub performed_is : performed m connection moment server dialect context request ≡ by_refusal (is_cancel request)
  unfolding performed
  performed_is = refl

  -- a request that is verified: a CANCEL is passed over, another one is performed and answered
  abbrev passed_over : Performed S
  passed_over =
      let call = call_of connection moment dialect context request in
      record { server = server; dialect = dialect; context = record { ids = call.ids; last_open = named_on call.inherited call.file_id }; response = None }

  abbrev answered : Performed S
  answered =
      let call = call_of connection moment dialect context request in
      let step = performed_by m server call (body_of call.command request) in
      record {
        server = step.server;
        dialect = option_map_or (dialect_after dialect) (body_of call.command request) dialect;
        context = record {
          ids = step.response.ids;
          last_open = open_for_next_related call.inherited server.store.next call.command call.file_id step.response.status;
        };
        response = Some step.response;
      }

  verified_at : (P : Performed S → Type 0) → (is_cancel request ≡ true → P passed_over) → (is_cancel request ≡ false → P answered) →
      (cancel : Bool) → is_cancel request ≡ cancel → P (if cancel then passed_over else answered)
  verified_at P over other true e = over e
  verified_at P over other false e = other e

  pub verified_by : (P : Performed S → Type 0) → (is_cancel request ≡ true → P passed_over) → (is_cancel request ≡ false → P answered) →
      P (verified m connection moment server dialect context request)
  unfolding verified
  verified_by P over other = verified_at P over other (is_cancel request) refl

  -- a CANCEL has no response, and each other request has one
  pub cancel_unanswered : is_cancel request ≡ true → (performed m connection moment server dialect context request).response ≡ None
  cancel_unanswered e =
      ap (λ (ran : Performed S). ran.response) (performed_is ∙ ap by_refusal e)
      ∙ verified_by (λ (ran : Performed S). ran.response ≡ None) (λ cancel. refl) (λ other. let both = sym e ∙ other in cc)

  pub record IsAnswered (ran : Performed S) : Type 0 where
    pub response : ResponseState
    pub is : ran.response ≡ Some response

  pub answered_once : is_cancel request ≡ false → IsAnswered (performed m connection moment server dialect context request)
  answered_once e =
      by_signature m connection moment server dialect context request (λ ran. IsAnswered ran)
      (λ refusal. record { response = _; is = refl })
      (verified_by (λ ran. IsAnswered ran) (λ cancel. let both = sym e ∙ cancel in cc) (λ other. record { response = _; is = refl }))
