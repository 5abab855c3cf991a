use Rattle.smb_request_laws.proofs.LetIn.{goes_on, accepted_in, denied_out, nobody_else}
use Rattle.smb_request_laws.proofs.admission.laws_of_answers.Goals as goal

pub returns : goal.returns
returns c = record {
  decides = λ table session previous. (
    goes_on table session previous,
    accepted_in table session previous,
    denied_out table session previous,
    nobody_else table session previous,
  );
}
