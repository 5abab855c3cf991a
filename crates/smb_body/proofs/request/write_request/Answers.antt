use Rattle.smb_body.specs.Requests.{request_value}
use Rattle.smb_body.proofs.RequestLemmas.{read_back}
use Rattle.smb_body.proofs.request.write_request.Goals as goal

pub returns-in-Ok-clause-read : goal.returns-in-Ok-clause-read
returns-in-Ok-clause-read c = read_back (request_value c.args.request.now) c.in-Ok.ensures.fits
