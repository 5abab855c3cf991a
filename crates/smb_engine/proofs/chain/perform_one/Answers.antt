use Rattle.std.proofs.Common.{◌∙◌, None, Some, ap}
use Rattle.smb_head.specs.declared.header.Header.{Header}
use Rattle.smb_session.specs.Window.{credits_granted}
use Rattle.smb_engine.specs.Parts.{key_or_kept}
use Rattle.smb_engine.proofs.Written.{one_put}
use Rattle.smb_engine.proofs.Observed.{report_grew, same_report, same_cancelled}
use Rattle.smb_engine.proofs.chain.perform_one.Goals as goal

-- a response is put behind the others
pub returns-clause-ok : goal.returns-clause-ok
returns-clause-ok g c front before w o =
    let request = c.args.request.now in
    let place = c.in-Ok.ensures.place front before w o in
    one_put g.A.Authenticator.meaning c.args.arrival front before c.args.server.now c.args.connection.now c.args.progress.now.context request
    c.in-Some.answered c.open_reply.new.out.items c.perform.new.out.items c.close_reply.new.out.items c.perform.new.self c.perform.new.dialect c.perform.new.context c.grant-credits.new.self c.keep_of.new.self c.grant-credits.result c.own_or_kept-key.result c.reply_header-header.result c.close_reply.new.self
    (rw c.in-Some.is at c.in_ok-answered.ensures.ok) (c.in-Ok.ensures.opened front before w o)
    (c.grant-credits.ensures.count ∙ ap (λ (h : Header). credits_granted c.args.connection.now.window h.credits) c.requires.header) c.grant-credits.ensures.more
    (c.own_or_kept-key.ensures request c.requires.header ∙ ap (key_or_kept c.args.connection.now.keys request c.in-Some.answered.ids) (c.response_key-own.ensures c.args.server.now c.args.progress.now.context request c.requires.header (c.signing-signing.ensures request c.requires.header)))
    (c.keep_of.ensures request c.requires.header)
    (λ body. c.reply_header-header.ensures request body c.own_or_kept-key.result c.requires.header c.is_some.ensures)
    (λ body. c.close_reply.ensures.placed front before body w place) (λ body put. c.close_reply.ensures.closed front before body w place put)

pub returns-clause-observed : goal.returns-clause-observed
returns-clause-observed g c =
    let whole = rw c.in-Some.is at c.in_ok-answered.ensures.ok in
    let credits = c.grant-credits.ensures.count ∙ ap (λ (h : Header). credits_granted c.args.connection.now.window h.credits) c.requires.header in
    report_grew c.note_subject-acting.result _ _ _ _ _ _ _ c.args.arrival.connection_id c.args.request.now (Some (c.in-Some.answered, c.grant-credits.result)) _ (c.note_subject-acting.ensures.acting c.args.connection.now.dialect) c.note_subject-acting.ensures.deaf c.note_subject-acting.ensures.observed
    c.report-2.ensures.observed c.report-2.ensures.deaf (same_report c.args.arrival c.args.connection.now.dialect c.args.progress.now.context _ _ _ _ _ _ _ credits (ap (λ p. p.response) whole))

-- a CANCEL has no response
pub returns-in_default-answered-clause-observed : goal.returns-in_default-answered-clause-observed
returns-in_default-answered-clause-observed g c =
    let whole = rw c.in_default-answered.is at c.in_ok-answered.ensures.ok in
    report_grew c.note_subject-acting.result _ _ _ _ _ _ _ c.args.arrival.connection_id c.args.request.now None _ (c.note_subject-acting.ensures.acting c.args.connection.now.dialect) c.note_subject-acting.ensures.deaf c.note_subject-acting.ensures.observed
    c.report.ensures.observed c.report.ensures.deaf (same_cancelled c.args.arrival c.args.connection.now.dialect c.args.progress.now.context _ _ _ _ (ap (λ p. p.response) whole))
