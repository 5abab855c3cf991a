use Rattle.smb_request_laws.proofs.Admitted.{nobody_unasked, success_lets_in, closes_nothing}
use Rattle.smb_request_laws.proofs.admission.laws_of_admission.Goals as goal

pub returns : goal.returns
returns g c = record {
  unasked = λ it number after order. nobody_unasked g.A.Authenticator.meaning it order number after;
  closes = closes_nothing g.A.Authenticator.meaning;
  succeeds = λ it asked order. success_lets_in g.A.Authenticator.meaning it order asked;
}
