use Rattle.smb_engine.proofs.Knowing.{four_unknown}
use Rattle.smb_engine.proofs.ahead.Ahead.none.Goals as goal

pub returns : goal.returns
returns c = four_unknown
