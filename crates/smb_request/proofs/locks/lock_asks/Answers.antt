use Rattle.std.proofs.Common.{sym, ◌∙◌}
use Rattle.smb_body.specs.LockLists.{locks_of}
use Rattle.smb_request.proofs.Asks.{asks_next}
use Rattle.smb_request.proofs.locks.lock_asks.Goals as goal

pub loop-i-preserved : goal.loop-i-preserved
loop-i-preserved c =
    asks_next (locks_of c.args.elements) c.loop-i.asks.items c.push.new.self.items c.lock_ask.result c.loop-i.i c.in-Some.element (sym c.in-Some.ensures) c.lock_ask.ensures c.in_ok-push.ensures.items
    ∙ c.loop-i.invariant
