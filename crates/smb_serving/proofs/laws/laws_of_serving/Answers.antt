use Rattle.smb_serving.proofs.Happenings.{memory_run}
use Rattle.smb_serving.proofs.ServingLaw.{serving_is_a_run}
use Rattle.smb_serving.proofs.laws.laws_of_serving.Goals as goal

pub returns : goal.returns
returns g c = record { run = serving_is_a_run g.A.Authenticator.meaning; memory = memory_run g.A.Authenticator.meaning }
