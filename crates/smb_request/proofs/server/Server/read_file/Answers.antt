use Rattle.std.proofs.Common.{ℕ, sym, ap, ◌∙◌}
use Rattle.std.specs.Option.{option_map}
use Rattle.smb_wire.specs.Limits.{most_at_once}
use Rattle.smb_refusals.specs.declared.refusal.Refusal.{Refusal}
use Rattle.smb_opens.specs.Bytes.{read_refusal}
use Rattle.smb_request.specs.Bytes.{file_read}
use Rattle.smb_request.specs.Response.{through_open}
use Rattle.smb_request.proofs.Refused.{failed, through_row}
use Rattle.smb_request.proofs.server.Server.read_file.Goals as goal

-- a refusal of the store
pub returns-in_err-part-clause-ok : goal.returns-in_err-part-clause-ok
unfolding file_read
returns-in_err-part-clause-ok g c =
    let asked = c.args.request.now in
    let store = c.self.inside.store in
    let k = c.args.call.open_number in
    let refusal = λ (most : ℕ). read_refusal store most k asked.offset asked.length asked.minimum_count in
    rw (← c.self.view_is)
    (failed g.A.Authenticator.meaning _ c.args.call _ (through_open store k (option_map (λ refusal. Refusal.Read refusal) (refusal (most_at_once c.args.call.dialect)))) _ c.from_residual.result c.from_residual.ensures.1
    (through_row (λ refusal. Refusal.Read refusal) store k (refusal (most_at_once c.args.call.dialect)) c.in_err-part.field-0.0 c.find_bytes_by_row.ensures.shown (sym (ap refusal c.most_at_once-most.ensures.value) ∙ c.in_err-part.ensures.why)))
