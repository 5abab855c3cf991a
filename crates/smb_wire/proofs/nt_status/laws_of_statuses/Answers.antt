use Rattle.smb_wire.proofs.Statuses.{read_again}
use Rattle.smb_wire.proofs.nt_status.laws_of_statuses.Goals as goal

pub returns : goal.returns
returns c = read_again
