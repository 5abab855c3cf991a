use Rattle.smb_restart_laws.proofs.Restarted.{one_run, goes_on, two_starts, second_start, unread_enough}
use Rattle.smb_restart_laws.proofs.restarts.laws_of_restarts.Goals as goal

pub returns-clause-one : goal.returns-clause-one
returns-clause-one g c = one_run g.A.Authenticator.meaning

pub returns-clause-later : goal.returns-clause-later
returns-clause-later g c = λ s events others good. goes_on g.A.Authenticator.meaning s events good others

pub returns-clause-two : goal.returns-clause-two
returns-clause-two g c = λ s events good h. (two_starts g.A.Authenticator.meaning s events good h, second_start g.A.Authenticator.meaning s events good h)

pub returns-clause-unread : goal.returns-clause-unread
returns-clause-unread g c = unread_enough g.A.Authenticator.meaning
