use Rattle.std.proofs.Common.{◌/◌, ◌%◌, ◌∙◌, arith, get_or}
use Rattle.smb_patterns.proofs.Words.{shifted_bit}
use Rattle.smb_patterns.proofs.BitRows.{has-word}
use Rattle.smb_patterns.proofs.rests.Rests.has.Goals as goal

pub returns : goal.returns
returns c =
    shifted_bit (get_or c.args.self.now.words (c.args.n / 64) 0) (c.args.n % 64)
    ∙ has-word c.args.self.now.words (c.args.n / 64) (c.args.n % 64) c.args.n (omega arith) (omega arith)
