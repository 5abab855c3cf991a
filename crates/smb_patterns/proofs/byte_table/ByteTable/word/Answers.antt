use Rattle.std.proofs.Common.{◌+◌, ◌*◌, arith}
use Rattle.smb_patterns.proofs.BitRows.{has-word}
use Rattle.smb_patterns.proofs.byte_table.ByteTable.word.Goals as goal

pub returns : goal.returns
returns c = λ i h. has-word c.args.self.now.words (4 * c.args.byte + c.args.at) i (256 * c.args.byte + (64 * c.args.at + i)) h (omega arith)
