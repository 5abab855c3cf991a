use Rattle.smb_patterns.proofs.BitRows.{has-more}
use Rattle.smb_patterns.proofs.bits.set_bit.Goals as goal

pub returns-clause-bits : goal.returns-clause-bits
returns-clause-bits c = λ m. has-more c.args.words.now c.args.n c.with_bit.result m c.requires c.with_bit.ensures
