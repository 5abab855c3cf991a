use Rattle.smb_name_laws.proofs.EitherCase.{either_case}
use Rattle.smb_name_laws.proofs.MadeNew.{succeeds, opens_free}
use Rattle.smb_name_laws.proofs.RenamedPlainly.{renames, respells}
use Rattle.smb_name_laws.proofs.new_names.laws_of_new_names.Goals as goal

pub returns : goal.returns
returns c = record { made = succeeds; opened = opens_free; renamed = renames; respelled = respells; letters = either_case }
