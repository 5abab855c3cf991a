use Rattle.std.proofs.Common.{ap, ◌∙◌}
use Rattle.smb_session.specs.Negotiate.{best_of}
use Rattle.smb_session.proofs.Units.{even_units}
use Rattle.smb_session.proofs.dialect.best_dialect.Goals as goal

pub returns : goal.returns
returns c = c.best.ensures ∙ ap best_of (c.in_ok-dialects.ensures.units ∙ even_units c.args.dialects.now)
