use Rattle.std.proofs.Common.{refl}
use Rattle.smb_head.specs.Sealed.{sealed}
use Rattle.smb_engine.proofs.unsealed.Unsealed.new.Goals as goal

pub returns : goal.returns
unfolding sealed
returns c = rw c.new.ensures refl
