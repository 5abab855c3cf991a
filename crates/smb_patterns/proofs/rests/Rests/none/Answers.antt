use Rattle.smb_patterns.proofs.BitRows.{has-none}
use Rattle.smb_patterns.proofs.rests.Rests.none.Goals as goal

pub returns : goal.returns
returns c = λ n. has-none 4 n
