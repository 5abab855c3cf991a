use Rattle.smb_patterns.specs.Bits.{has}
use Rattle.smb_patterns.proofs.RowWords.{Carrying}
use Rattle.smb_patterns.proofs.rows.carry.Given as goal

abbrev pub invariant-loop-at : goal.invariant-loop-at
invariant-loop-at l = Carrying l.symbols l.place (has l.fn.row) (has l.row) l.at l.old l.new l.left
