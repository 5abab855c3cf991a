use Rattle.smb_name_laws.proofs.GivenOnce.{once}
use Rattle.smb_name_laws.proofs.numbers.laws_of_numbers.Goals as goal

pub returns : goal.returns
returns c = record { once = once }
