use Rattle.smb_info.specs.SetAsks.{set_asked}
use Rattle.smb_request.specs.Parts.{set_refusal}
use Rattle.smb_request.specs.Response.{through_open}
use Rattle.smb_request.proofs.Refused.{failed, through_any}
use Rattle.smb_request.proofs.server.Server.set_as_asked.Goals as goal

-- a refusal of the store
pub returns-in_err-set_through-clause-ok : goal.returns-in_err-set_through-clause-ok
returns-in_err-set_through-clause-ok g c =
    let store = c.self.inside.store in
    let k = c.args.call.open_number in
    let refusal = set_refusal store k (set_asked c.args.ask.now) in
    rw (c.in_err-set_through.ensures.err, ← c.self.view_is)
    (failed g.A.Authenticator.meaning _ c.args.call _ (through_open store k refusal) _ c.from_residual.result c.from_residual.ensures.1
    (through_any store k refusal c.in_err-set_through.field-0.0 c.set_through.ensures.shown c.in_err-set_through.ensures.why))
