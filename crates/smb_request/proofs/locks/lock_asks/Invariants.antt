use Rattle.std.proofs.Common.{◌≡◌, ◌++◌, drop}
use Rattle.smb_body.specs.LockLists.{locks_of}
use Rattle.smb_request.specs.Parts.{lock_asks}
use Rattle.smb_request.proofs.locks.lock_asks.Given as goal

abbrev pub invariant-loop-i : goal.invariant-loop-i
invariant-loop-i l = l.asks.items ++ lock_asks (drop l.i (locks_of l.elements)) ≡ lock_asks (locks_of l.elements)
