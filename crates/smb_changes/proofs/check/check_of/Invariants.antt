use Rattle.std.proofs.Common.{◌≡◌, drop}
use Rattle.std.specs.List.{fold}
use Rattle.smb_changes.specs.Batches.{stirred}
use Rattle.smb_changes.proofs.check.check_of.Given as goal

abbrev pub invariant-loop-piece : goal.invariant-loop-piece
invariant-loop-piece l = fold stirred l.sum (drop l.piece-index l.pieces) ≡ fold stirred l.fn.seed l.pieces
