use Rattle.std.proofs.Common.{rules}
use Rattle.smb_body.proofs.CreateLemmas.{action_fits}
use Rattle.smb_body.proofs.create.put_create_response.Goals as goal

pub returns-clause-fits : goal.returns-clause-fits
returns-clause-fits c = search (rules, action_fits)
