use Rattle.std.proofs.Common.{◌-◌, arith}
use Rattle.smb_patterns.specs.Bits.{has}
use Rattle.smb_patterns.proofs.RowWords.{asterisk_set}
use Rattle.smb_patterns.proofs.rows.last_asterisk.Goals as goal

pub returns-then-word-ne0-clause-set : goal.returns-then-word-ne0-clause-set
returns-then-word-ne0-clause-set c =
    asterisk_set c.args.symbols.now (has c.args.row.now) (c.loop-at.at - 1) c.word.result c.word-in-loop-at.result (omega arith) c.if-word-ne0.true c.word.type_inv c.word.ensures c.word-in-loop-at.ensures
