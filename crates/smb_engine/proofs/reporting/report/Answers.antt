use Rattle.std.proofs.Common.{[]}
use Rattle.smb_engine.proofs.Observed.{grew_twice}
use Rattle.smb_engine.proofs.reporting.report.Goals as goal

pub returns-in-Some-answered-clause-observed : goal.returns-in-Some-answered-clause-observed
returns-in-Some-answered-clause-observed g c =
    rw (c.in-Some.is, c.in-Some-answered.is) (grew_twice _ _ _ _ _ _ _ _ c.performed.ensures (c.report_response.ensures.observed c.args.request.now [] c.requires))
