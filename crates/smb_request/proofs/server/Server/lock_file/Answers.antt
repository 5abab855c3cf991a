use Rattle.std.specs.Option.{option_map}
use Rattle.smb_refusals.specs.declared.refusal.Refusal.{Refusal}
use Rattle.smb_opens.specs.Locks.{lock_refusal}
use Rattle.smb_request.specs.Response.{through_open}
use Rattle.smb_request.proofs.Refused.{failed, through_refused}
use Rattle.smb_request.proofs.server.Server.lock_file.Goals as goal

-- a refusal of the store
pub returns-in_err-lock_by_row-clause-ok : goal.returns-in_err-lock_by_row-clause-ok
returns-in_err-lock_by_row-clause-ok g c =
    let store = c.self.inside.store in
    let k = c.args.call.open_number in
    let refusal = lock_refusal store k c.args.asks.now in
    rw (c.in_err-lock_by_row.ensures.err, ← c.self.view_is)
    (failed g.A.Authenticator.meaning _ c.args.call _ (through_open store k (option_map (λ refusal. Refusal.Lock refusal) refusal)) _ c.from_residual.result c.from_residual.ensures.1
    (through_refused (λ refusal. Refusal.Lock refusal) store k refusal c.in_err-lock_by_row.field-0.0 c.in_err-lock_by_row.ensures.shown c.in_err-lock_by_row.ensures.why))
