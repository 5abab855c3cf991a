-- A request by its parts: refused by its signature, or verified.
use Rattle.std.proofs.Common.{◌≡◌, ℕ, false, List, Option, None, Some, refl, sym, ap, ◌∙◌}
use Rattle.std.specs.Option.{option_map, option_map_or}
use Rattle.smb_wire.specs.declared.dialect.Dialect.{Dialect}
use Rattle.smb_refusals.specs.declared.request.RequestRefusal.{RequestRefusal}
use Rattle.smb_session.specs.declared.signing.Signing.{Signing}
use Rattle.smb_session.specs.Authenticator.{Meaning}
use Rattle.smb_session.specs.Table.{signing_of}
use Rattle.smb_request.specs.declared.context.Context.{Context}
use Rattle.smb_request.specs.Call.{call_of, request_ids}
use Rattle.smb_request.specs.InPlace.{AnswerHeld, PerformedHeld, answer_behind, performed_behind}
use Rattle.smb_request.specs.Parts.{is_cancel_command}
use Rattle.smb_request.specs.Request.{verified, signature_refusal, refused_by_signature, performed}
use Rattle.smb_request.specs.Response.{Performed}
use Rattle.smb_request.specs.State.{ServerState}

module _ {S : Type 0} (m : Meaning S) (connection moment : ℕ) (server : ServerState S) (dialect : Option Dialect) (context : Context) (request : List ℕ) where
  either : (P : Performed S → Type 0) → ((refusal : RequestRefusal) → P (refused_by_signature server (call_of connection moment dialect context request) dialect refusal)) →
      P (verified m connection moment server dialect context request) → (refusal : Option RequestRefusal) →
      P (option_map_or (refused_by_signature server (call_of connection moment dialect context request) dialect) refusal (verified m connection moment server dialect context request))
  either P denied done None = done
  either P denied done (Some refusal) = denied refusal

  -- what holds of a request that is refused by its signature, and of a verified one, holds of a request
  pub by_signature : (P : Performed S → Type 0) → ((refusal : RequestRefusal) → P (refused_by_signature server (call_of connection moment dialect context request) dialect refusal)) →
      P (verified m connection moment server dialect context request) → P (performed m connection moment server dialect context request)
  unfolding performed
  by_signature P denied done = either P denied done _

  -- a request that is refused by its signature, with the body of its response behind what was in the vector
  pub refused_put : (front : List ℕ) (signing : Option Signing) (refusal : RequestRefusal) (context' : Context) (held : AnswerHeld) →
      (let call = call_of connection moment dialect context request in is_cancel_command call.command ≡ false) → signing ≡ signing_of server.sessions.table connection (request_ids context request).session_id →
      Some refusal ≡ signature_refusal signing request →
      (let call = call_of connection moment dialect context request in context' ≡ (refused_by_signature server call dialect refusal).context) →
      (let call = call_of connection moment dialect context request in Some held ≡ option_map (answer_behind front) (refused_by_signature server call dialect refusal).response) →
      (let x : PerformedHeld S = record { server = server; dialect = dialect; context = context'; response = Some held } in x)
      ≡ performed_behind front (performed m connection moment server dialect context request)
  unfolding performed
  refused_put front signing refusal context' held other is refused c h =
      let by : signature_refusal (signing_of server.sessions.table connection (request_ids context request).session_id) request ≡ Some refusal =
      ap (λ s. signature_refusal s request) (sym is) ∙ sym refused in
      rw (other, by, c, h) refl
