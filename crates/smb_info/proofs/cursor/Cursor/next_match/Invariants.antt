use Rattle.std.proofs.Common.{◌≡◌, length}
use Rattle.smb_info.specs.Cursors.{to_come, Stands, matched}
use Rattle.smb_info.proofs.cursor.Cursor.next_match.Given as goal

abbrev pub invariant-loop-view : goal.invariant-loop-view
invariant-loop-view g l = record {
  stands : Stands (g.T.Tree.content l.tree).rows l.folder l.self;
  same : matched l.pattern (to_come (g.T.Tree.content l.tree).rows l.folder l.fn.self) ≡ matched l.pattern (to_come (g.T.Tree.content l.tree).rows l.folder l.self);
}

abbrev pub decreases-loop-view : goal.decreases-loop-view
decreases-loop-view g l = length (to_come (g.T.Tree.content l.tree).rows l.folder l.self)
