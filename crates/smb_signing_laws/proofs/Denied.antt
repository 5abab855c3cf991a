-- A request that is not signed as it has to be is denied.
use Rattle.std.proofs.Common.{◌≡◌, ◌⊎◌, inl, inr, ◌||◌, ℕ, Bool, true, false, not, if◌then◌else◌, List, Option, None, Some, refl, sym, subst}
use Rattle.std.specs.Str.{bytes_eq}
use Rattle.std.proofs.lemmas.Slice.Eq.{bytes_eq-Decides}
use Rattle.smb_wire.specs.declared.dialect.Dialect.{Dialect}
use Rattle.smb_wire.specs.declared.nt_status.NtStatus.TheVariants.{AccessDenied}
use Rattle.smb_refusals.specs.Refusals.{refusal_status}
use Rattle.smb_refusals.specs.declared.refusal.Refusal.{Refusal}
use Rattle.smb_refusals.specs.declared.request.RequestRefusal.{RequestRefusal}
use Rattle.smb_refusals.specs.declared.request.RequestRefusal.TheVariants.{NotSigned, SignatureWrong}
use Rattle.smb_signing.specs.Signature.{signature}
use Rattle.smb_head.specs.Headers.{header_of}
use Rattle.smb_head.specs.Chains.{is_signed}
use Rattle.smb_session.specs.Authenticator.{Meaning}
use Rattle.smb_session.specs.declared.signing.Signing.{Signing}
use Rattle.smb_request.specs.declared.context.Context.{Context}
use Rattle.smb_request.specs.Call.{call_of}
use Rattle.smb_request.specs.Request.{signature_refusal, performed}
use Rattle.smb_request.specs.State.{ServerState}
use Rattle.smb_request.proofs.Performed.{cancelled}
use Rattle.smb_signing_laws.specs.Requests.{signing_under, MustBeSigned, IsSignedBy, is_cancel, IsDenied}
use Rattle.smb_signing_laws.proofs.Parts.{by_refusal, performed_is}

-- a signature refuses a request, by ACCESS_DENIED
record Refuses (o : Option RequestRefusal) : Type 0 where
  refusal : RequestRefusal
  is : o ≡ Some refusal
  status : refusal_status (Refusal.Request refusal) ≡ AccessDenied

-- a signature is right, or it refuses
checked : (flag right required : Bool) → (flag || required) ≡ true →
    ((flag ≡ true) × (right ≡ true)) ⊎ Refuses (if not flag then (if required then Some NotSigned else None) else if right then None else Some SignatureWrong)
checked true true required e = inl (refl, refl)
checked true false required e = inr (record { refusal = SignatureWrong; is = refl; status = refl })
checked false right true e = inr (record { refusal = NotSigned; is = refl; status = refl })
checked false right false e = cc

module _ {S : Type 0} (m : Meaning S) (connection moment : ℕ) (server : ServerState S) (dialect : Option Dialect) (context : Context) (request : List ℕ) where
  denied_at : (cancel : Bool) → is_cancel request ≡ cancel → Refuses (signature_refusal (signing_under server connection context request) request) →
      IsDenied server dialect request (by_refusal m connection moment server dialect context request cancel)
  denied_at true e bad =
      let call = call_of connection moment dialect context request in
      let left : IsDenied server dialect request (record { server = server; dialect = dialect; context = _; response = None }) =
      record { server_stays = refl; dialect_stays = refl; response = e } in
      subst (λ ran. IsDenied server dialect request ran) (sym (cancelled m connection moment server dialect context request call refl e)) left
  denied_at false e bad = rw (bad.is) (record { server_stays = refl; dialect_stays = refl; response = (e, bad.status, refl) })

  pub signed_or_denied : (signing : Signing) → MustBeSigned server connection context request signing →
      IsSignedBy signing.key request ⊎ IsDenied server dialect request (performed m connection moment server dialect context request)
  signed_or_denied signing must =
      elim (checked (is_signed request) (bytes_eq (header_of request).signature (signature signing.key.bytes request)) signing.required must.due) [
        | inl both ↦ inl (record { flag = both.0; right = (bytes_eq-Decides (header_of request).signature (signature signing.key.bytes request)).0 both.1 })
        | inr bad ↦ inr (
            let refuses : Refuses (signature_refusal (signing_under server connection context request) request) = rw (must.under) bad in
            subst (λ ran. IsDenied server dialect request ran) (sym (performed_is m connection moment server dialect context request)) (denied_at (is_cancel request) refl refuses))
      ]
