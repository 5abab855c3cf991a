use Rattle.std.proofs.Common.{Some, sym, ap, ◌∙◌}
use Rattle.smb_body.proofs.Smb1Lemmas.{smb1_told, smb1_said, smb1_one}
use Rattle.smb_body.proofs.smb1.laws_of_smb1.Goals as goal

pub returns-clause-told : goal.returns-clause-told
returns-clause-told c = λ payload dialects. (λ s. smb1_told payload s.0 s.1.0 ∙ ap Some (sym s.1.1), λ e. smb1_said payload dialects e)

pub returns-clause-one : goal.returns-clause-one
returns-clause-one c = smb1_one
