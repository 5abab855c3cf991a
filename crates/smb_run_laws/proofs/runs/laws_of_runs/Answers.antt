use Rattle.smb_run_laws.proofs.InOrder.{chain_answered, chain_granted, run_answered}
use Rattle.smb_run_laws.proofs.Whole.{performed_whole}
use Rattle.smb_run_laws.proofs.Rules.{served_on}
use Rattle.smb_run_laws.proofs.Served.{served_leads}
use Rattle.smb_run_laws.proofs.Locks.{lock_bars}
use Rattle.smb_run_laws.proofs.OpenFiles.{file_kept, number_once}
use Rattle.smb_run_laws.proofs.Written.{written_read}
use Rattle.smb_run_laws.proofs.Leading.{run_leads, run_steps}
use Rattle.smb_run_laws.proofs.runs.laws_of_runs.Goals as goal

pub returns-clause-actions : goal.returns-clause-actions
returns-clause-actions g c = run_leads g.A.Authenticator.meaning

pub returns-clause-steps : goal.returns-clause-steps
returns-clause-steps g c = run_steps g.A.Authenticator.meaning

pub returns-clause-written : goal.returns-clause-written
returns-clause-written g c = written_read g.A.Authenticator.meaning

pub returns-clause-opened : goal.returns-clause-opened
returns-clause-opened g c = file_kept g.A.Authenticator.meaning

pub returns-clause-numbers : goal.returns-clause-numbers
returns-clause-numbers g c = number_once g.A.Authenticator.meaning

pub returns-clause-bars : goal.returns-clause-bars
returns-clause-bars g c = lock_bars g.A.Authenticator.meaning

pub returns-clause-served : goal.returns-clause-served
returns-clause-served g c = served_leads g.A.Authenticator.meaning

pub returns-clause-answers : goal.returns-clause-answers
returns-clause-answers g c = run_answered g.A.Authenticator.meaning

pub returns-clause-rules : goal.returns-clause-rules
returns-clause-rules g c = λ s connection happenings. served_on g.A.Authenticator.meaning connection s happenings

pub returns-clause-chains : goal.returns-clause-chains
returns-clause-chains g c = chain_answered g.A.Authenticator.meaning

pub returns-clause-whole : goal.returns-clause-whole
returns-clause-whole g c = performed_whole g.A.Authenticator.meaning

pub returns-clause-credits : goal.returns-clause-credits
returns-clause-credits g c = chain_granted g.A.Authenticator.meaning
