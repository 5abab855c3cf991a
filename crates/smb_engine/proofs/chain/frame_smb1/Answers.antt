use Rattle.std.proofs.Common.{◌≡◌, ℕ, None, List, [], ◌∷◌, ◌++◌, sym, ap, ◌∙◌, append-nil, replicate}
use Rattle.smb_body.specs.Replies.{reply_spelling}
use Rattle.smb_head.specs.Replies.{joined_replies, unsigned_replies}
use Rattle.smb_head.specs.Placed.{replies_written}
use Rattle.smb_request.specs.Negotiate.{negotiate_answer}
use Rattle.smb_request.specs.Parts.{hello_of, requires_of}
use Rattle.smb_engine.proofs.chain.frame_smb1.Goals as goal

pub returns-clause-ok : goal.returns-clause-ok
unfolding joined_replies unsigned_replies
returns-clause-ok g c =
    let before : List ℕ = c.open_frame.new.out.items in
    let response = negotiate_answer (requires_of g.A.Authenticator.meaning c.args.server.now) c.args.server.now.settings.guid (hello_of g.A.Authenticator.meaning c.args.server.now) c.args.arrival.moment c.args.answer.dialect c.args.answer.dialect_revision in
    let none : before ≡ replies_written before [] = sym (append-nil before) in
    let opened = c.in-Ok-open_reply.ensures.opened before [] c.begin-writer.ensures.placed none in
    let place = c.in-Ok-open_reply.ensures.place before [] c.begin-writer.ensures.placed none in
    let body = c.in-Ok-put_smb1_body.ensures.ok in
    let closed = c.close_reply.ensures.closed before [] (reply_spelling response) c.begin-writer.ensures.placed place (body ∙ ap (λ bytes. bytes ++ reply_spelling response) opened) in
    let spelled = ap (λ (bytes : List ℕ). bytes ++ joined_replies (record { header = c.reply_header.result; body = reply_spelling response; key = None } ∷ [])) c.in-Ok.ensures.ok in
    let headed = ap (λ h. (c.args.out.now.items ++ replicate 4 0) ++ joined_replies (record { header = h; body = reply_spelling response; key = None } ∷ [])) (c.reply_header.ensures response) in
    c.end_frame.ensures.framed c.args.arrival.connection_id c.args.out.now.items _ c.in-Ok.ensures.start (closed ∙ spelled ∙ headed)
