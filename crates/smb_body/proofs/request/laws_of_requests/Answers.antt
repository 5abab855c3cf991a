use Rattle.smb_body.proofs.LockBytes.{element_read}
use Rattle.smb_body.proofs.RequestLemmas.{request_said, request_told, laid_same}
use Rattle.smb_body.proofs.request.laws_of_requests.Goals as goal

pub returns-clause-told : goal.returns-clause-told
returns-clause-told c = λ command request v. (request_told command request v, request_said command request v)

pub returns-clause-laid : goal.returns-clause-laid
returns-clause-laid c = laid_same

pub returns-clause-element : goal.returns-clause-element
returns-clause-element c = element_read
