use Rattle.smb_session.proofs.Runs.{in_run, below_run}
use Rattle.smb_session.proofs.window.is_in_run.Goals as goal

pub returns-then-run-number : goal.returns-then-run-number
returns-then-run-number c = rw c.from.ensures (in_run c.args.run c.args.number c.if-run-number.true)

pub returns-else-run-number : goal.returns-else-run-number
returns-else-run-number c = below_run c.args.run c.args.number c.if-run-number.false
