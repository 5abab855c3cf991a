use Rattle.std.proofs.Common.{ap, ◌∙◌}
use Rattle.smb_wire.specs.Pairs.{units_in}
use Rattle.smb_wire.proofs.Pairing.{units_read}
use Rattle.smb_session.specs.Negotiate.{best_of}
use Rattle.smb_request.proofs.Sessions.{best_ok, best_err}
use Rattle.smb_request.proofs.server.Server.best_dialect.Goals as goal

pub returns-in-Ok : goal.returns-in-Ok
returns-in-Ok g c = best_ok _ _ c.in-Ok.ensures ∙ ap best_of (ap units_in c.bytes.ensures.bytes ∙ units_read _ c.bytes.ensures.numbers)

pub returns-in-Err : goal.returns-in-Err
returns-in-Err g c = best_err _ _ c.in-Err.ensures ∙ ap best_of (ap units_in c.bytes.ensures.bytes ∙ units_read _ c.bytes.ensures.numbers)
