use Rattle.smb_name_laws.proofs.Gone.{closes, nothing_else}
use Rattle.smb_name_laws.proofs.Marked.{marked_refused}
use Rattle.smb_name_laws.proofs.OwnerGone.{owner_gone}
use Rattle.smb_name_laws.proofs.StillThere.{step_leaves}
use Rattle.smb_name_laws.proofs.deletes.laws_of_deletes.Goals as goal

pub returns : goal.returns
returns c = record { closes = closes; nothing_else = nothing_else; owner = owner_gone; no_other = step_leaves; marked = marked_refused }
