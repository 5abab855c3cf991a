use Rattle.smb_name_laws.proofs.MadeFound.{finds, renews}
use Rattle.smb_name_laws.proofs.NotMade.{not_made}
use Rattle.smb_name_laws.proofs.OthersLeft.{others}
use Rattle.smb_name_laws.proofs.Spelled.{made}
use Rattle.smb_name_laws.proofs.creates.laws_of_creates.Goals as goal

pub returns : goal.returns
returns c = record { finds = finds; renews = renews; made = made; others = others; refused = not_made }
