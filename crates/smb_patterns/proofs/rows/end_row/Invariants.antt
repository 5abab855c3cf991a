use Rattle.smb_patterns.specs.Bits.{has}
use Rattle.smb_patterns.proofs.RowSteps.{EndRow}
use Rattle.smb_patterns.proofs.rows.end_row.Given as goal

abbrev pub invariant-loop-n : goal.invariant-loop-n
invariant-loop-n l = EndRow l.pattern l.n (has l.row)
