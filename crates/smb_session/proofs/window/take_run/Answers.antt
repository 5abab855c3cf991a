use Rattle.smb_session.proofs.Taken.{run_of_first}
use Rattle.smb_session.proofs.window.take_run.Goals as goal

pub take_from-requires : goal.take_from-requires
take_from-requires c = rw c.drop_front.ensures c.requires.rising

pub returns-then-is_at-clause-rest : goal.returns-then-is_at-clause-rest
returns-then-is_at-clause-rest c = run_of_first c.args.run c.args.numbers.now.items c.args.used c.if-run-eq1.true c.requires.rising c.if-is_at.ensures.is

pub returns-clause-rest : goal.returns-clause-rest
returns-clause-rest c = rw (← c.drop_front.ensures) c.take_from.ensures
