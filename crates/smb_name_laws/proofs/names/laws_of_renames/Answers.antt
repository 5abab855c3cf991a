use Rattle.smb_name_laws.proofs.MovedFound.{moves_entry, replaced}
use Rattle.smb_name_laws.proofs.names.laws_of_renames.Goals as goal

pub returns : goal.returns
returns c = record { moves = moves_entry; replaced = replaced }
