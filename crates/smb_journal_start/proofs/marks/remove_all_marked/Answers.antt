use Rattle.smb_journal_start.proofs.Leaving.{left_same}
use Rattle.smb_journal_start.proofs.marks.remove_all_marked.Goals as goal

pub loop-number-init : goal.loop-number-init
loop-number-init g c = left_same _ c.requires

pub loop-number-preserved : goal.loop-number-preserved
loop-number-preserved g c = c.remove_marked.ensures _ c.loop-number.invariant
