use Rattle.std.proofs.Common.{◌<◌, arith}
use Rattle.smb_patterns.proofs.Words.{top_bit}
use Rattle.smb_patterns.proofs.step.top_bit.Goals as goal

pub returns : goal.returns
returns c = let f : c.args.word < 18446744073709551616 = omega arith in top_bit c.args.word f
