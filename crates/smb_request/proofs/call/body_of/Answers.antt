use Rattle.std.proofs.Common.{sym, ◌∙◌}
use Rattle.smb_request.proofs.Codes.{body_read}
use Rattle.smb_request.proofs.call.body_of.Goals as goal

pub returns-in-Ok : goal.returns-in-Ok
returns-in-Ok c = sym (body_read c.args.code.0 c.args.request.now ∙ c.in-Ok.ensures.ok)

pub returns-in-Err : goal.returns-in-Err
returns-in-Err c = sym (body_read c.args.code.0 c.args.request.now ∙ c.in-Err.ensures.none)
