use Rattle.smb_engine.specs.Run.{run}
use Rattle.smb_restart_laws.proofs.Ended.{new_good, over_good, stays_good, no_file_lost, went, found_again, all_end}
use Rattle.smb_restart_laws.proofs.ends.laws_of_ends.Goals as goal

pub returns-clause-new : goal.returns-clause-new
returns-clause-new g c = new_good

pub returns-clause-over : goal.returns-clause-over
returns-clause-over g c = over_good

pub returns-clause-end : goal.returns-clause-end
returns-clause-end g c = all_end g.A.Authenticator.meaning

pub returns-clause-lost : goal.returns-clause-lost
returns-clause-lost g c = λ s events. no_file_lost g.A.Authenticator.meaning (run g.A.Authenticator.meaning s events).state

pub returns-clause-went : goal.returns-clause-went
returns-clause-went g c = went g.A.Authenticator.meaning

pub returns-clause-found : goal.returns-clause-found
returns-clause-found g c = found_again g.A.Authenticator.meaning

pub returns-clause-good : goal.returns-clause-good
returns-clause-good g c = stays_good g.A.Authenticator.meaning
