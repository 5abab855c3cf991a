use Rattle.smb_name_laws.proofs.OpenedAs.{asked_for, rights_granted, readers, ends}
use Rattle.smb_name_laws.proofs.LeftOut.{left_out}
use Rattle.smb_name_laws.proofs.opened.laws_of_opens.Goals as goal

pub returns : goal.returns
returns c = record { asked = asked_for; rights = rights_granted; left_out = left_out; readers = readers; ends = ends }
