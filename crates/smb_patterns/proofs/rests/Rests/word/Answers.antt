use Rattle.std.proofs.Common.{◌+◌, ◌*◌, refl}
use Rattle.smb_patterns.proofs.BitRows.{has-word}
use Rattle.smb_patterns.proofs.rests.Rests.word.Goals as goal

pub returns : goal.returns
returns c = λ i h. has-word c.args.self.now.words c.args.at i (64 * c.args.at + i) h refl
