use Rattle.std.proofs.Common.{◌≡◌}
use Rattle.smb_access.proofs.Counts.{counted}
use Rattle.smb_access.proofs.look.count_entries.Given as goal

abbrev pub invariant-loop-number : goal.invariant-loop-number
invariant-loop-number g l = l.count ≡ counted (g.T.Tree.content l.tree).rows l.number
