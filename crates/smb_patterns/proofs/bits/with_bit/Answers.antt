use Rattle.smb_patterns.proofs.Words.{with_bit}
use Rattle.smb_patterns.proofs.bits.with_bit.Goals as goal

pub returns : goal.returns
returns c = with_bit c.args.word c.args.at c.requires
