use Rattle.std.proofs.Common.{ap, sym, ◌∙◌}
use Rattle.smb_refusals.specs.declared.refusal.Refusal.{Refusal}
use Rattle.smb_refusals.specs.Refused.{refused_as}
use Rattle.smb_request.specs.Parts.{information_asked, request_refusal}
use Rattle.smb_request.proofs.Listings.{query_failed, told_short}
use Rattle.smb_request.proofs.server.Server.query_info.Goals as goal

pub returns-in-Err-clause-ok : goal.returns-in-Err-clause-ok
returns-in-Err-clause-ok g c =
    query_failed g.A.Authenticator.meaning c.args.self.now c.args.call c.args.request.now c.in-Err.fault c.from.result (ap (λ most. request_refusal most c.args.request.now) (sym c.most_at_once.ensures.value) ∙ c.in_ok-check_request.ensures.ok) c.in-Err.ensures.why
    (c.from.ensures ∙ ap (refused_as (λ refusal. Refusal.QueryInfo refusal)) c.query_info_refused.ensures)

pub returns-clause-put : goal.returns-clause-put
returns-clause-put g c =
    (told_short c.most_at_once.result (information_asked c.args.self.now c.args.call.open_number c.args.request.now) c.args.request.now c.in-Ok.information.bytes.items c.most_at_once.ensures.most c.in_ok-check_request.ensures.ok c.in-Ok.ensures.ok.bytes, tt)
