use Rattle.smb_journal_start.specs.Left.{IsLeft}
use Rattle.smb_journal_start.proofs.marks.remove_all_marked.Given as goal

abbrev pub invariant-loop-number : goal.invariant-loop-number
invariant-loop-number g l = IsLeft (g.T.Tree.content l.fn.tree) (g.T.Tree.content l.tree)
