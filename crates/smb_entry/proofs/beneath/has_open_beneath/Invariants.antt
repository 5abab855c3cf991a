use Rattle.smb_entry.specs.Parts.{is_beneath, path_numbered}
use Rattle.smb_entry.proofs.Looks.{IsLooked}
use Rattle.smb_access.proofs.Seen.{left_after}
use Rattle.smb_entry.proofs.beneath.has_open_beneath.Given as goal

abbrev pub invariant-loop-next : goal.invariant-loop-next
invariant-loop-next g l = IsLooked (λ row. is_beneath (path_numbered (g.T.Tree.content l.tree).rows l.above) (path_numbered (g.T.Tree.content l.tree).rows row.entry)) (g.O.Opens.content l.opens) l.next

abbrev pub decreases-loop-next : goal.decreases-loop-next
decreases-loop-next g l = left_after (g.O.Opens.content l.opens) l.next
