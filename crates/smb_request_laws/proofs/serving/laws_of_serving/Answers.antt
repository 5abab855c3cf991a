use Rattle.smb_request_laws.proofs.Served.{echo_answered, set_up_told, read_succeeds, write_succeeds}
use Rattle.smb_request_laws.proofs.serving.laws_of_serving.Goals as goal

pub returns : goal.returns
returns g c = record {
  echo = echo_answered g.A.Authenticator.meaning;
  accepted = set_up_told g.A.Authenticator.meaning;
  own = λ it. (read_succeeds g.A.Authenticator.meaning it, write_succeeds g.A.Authenticator.meaning it);
}
