use Rattle.smb_request_laws.proofs.ListedOnce.{listed_once}
use Rattle.smb_request_laws.proofs.scans.laws_of_scans.Goals as goal

pub returns : goal.returns
returns c = record { once = listed_once }
