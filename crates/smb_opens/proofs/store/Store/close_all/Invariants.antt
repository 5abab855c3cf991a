use Rattle.std.proofs.Common.{◌≡◌, length}
use Rattle.smb_opens.specs.Close.{closed_all}
use Rattle.smb_opens.specs.Good.{GoodStore}
use Rattle.smb_access.proofs.Rows.{others}
use Rattle.smb_opens.proofs.store.Store.close_all.Given as goal

abbrev pub invariant-loop-number : goal.invariant-loop-number
invariant-loop-number g l = record {
  good : GoodStore l.self;
  store : closed_all l.self l.owner ≡ closed_all l.initial.self l.owner;
  left : others l.owner l.self.opens ≡ others l.owner l.initial.self.opens;
}

abbrev pub decreases-loop-number : goal.decreases-loop-number
decreases-loop-number g l = length l.self.opens
