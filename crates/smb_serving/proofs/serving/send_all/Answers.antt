use Rattle.std.proofs.Common.{arith}
use Rattle.smb_serving.proofs.Resting.{none_noted}
use Rattle.smb_serving.proofs.serving.send_all.Goals as goal

pub send_restless-requires-clause-kept : goal.send_restless-requires-clause-kept
send_restless-requires-clause-kept g c = c.requires.tracked.kept

pub send_restless-requires-clause-noted : goal.send_restless-requires-clause-noted
send_restless-requires-clause-noted g c = c.requires.tracked.noted c.if-not-served.true

pub send_from-requires : goal.send_from-requires
send_from-requires g c = record {
  kept = record { order = c.requires.tracked.kept.order; room = omega (arith, c.clear.ensures.capacity, c.requires.tracked.kept.room) };
  noted = λ none. none_noted c.args.share.now c.args.served.now.peers.items c.clear.new.self.items c.clear.ensures.items;
}

pub returns-clause-served : goal.returns-clause-served
returns-clause-served g c = c.send_from.ensures.served
