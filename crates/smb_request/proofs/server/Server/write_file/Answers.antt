use Rattle.std.proofs.Common.{ℕ, subst}
use Rattle.std.specs.Option.{option_map}
use Rattle.smb_wire.specs.Limits.{most_at_once}
use Rattle.smb_refusals.specs.Refused.{IsRefusedBy}
use Rattle.smb_refusals.specs.declared.refusal.Refusal.{Refusal}
use Rattle.smb_opens.specs.Bytes.{write_refusal}
use Rattle.smb_request.specs.Bytes.{file_written}
use Rattle.smb_request.specs.Response.{through_open}
use Rattle.smb_request.proofs.Refused.{failed, through_refused}
use Rattle.smb_request.proofs.server.Server.write_file.Goals as goal

-- a refusal of the store
pub returns-in_err-write_by_row-clause-ok : goal.returns-in_err-write_by_row-clause-ok
unfolding file_written
returns-in_err-write_by_row-clause-ok g c =
    let asked = c.args.request.now in
    let store = c.self.inside.store in
    let k = c.args.call.open_number in
    let refused = c.in_err-write_by_row.field-0.0 in
    let refusal = λ (most : ℕ). write_refusal store most k asked.offset asked.buffer.now in
    let why = subst (λ (most : ℕ). IsRefusedBy (refusal most) refused) c.most_at_once.ensures.value c.in_err-write_by_row.ensures.why in
    rw (c.in_err-write_by_row.ensures.err, ← c.self.view_is)
    (failed g.A.Authenticator.meaning _ c.args.call _ (through_open store k (option_map (λ refusal. Refusal.Write refusal) (refusal (most_at_once c.args.call.dialect)))) _ c.from_residual.result c.from_residual.ensures.1
    (through_refused (λ refusal. Refusal.Write refusal) store k (refusal (most_at_once c.args.call.dialect)) refused c.write_by_row.ensures.shown why))
