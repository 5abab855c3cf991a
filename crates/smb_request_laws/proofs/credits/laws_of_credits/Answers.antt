use Rattle.smb_request_laws.proofs.Granted.{one_granted, most_granted, all_granted, room_kept}
use Rattle.smb_request_laws.proofs.credits.laws_of_credits.Goals as goal

pub returns : goal.returns
returns c = record {
  granted = λ window asked. (
    one_granted window asked,
    most_granted window asked,
    all_granted window asked,
    room_kept window asked,
  );
}
