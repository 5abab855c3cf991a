use Rattle.std.proofs.Common.{sym}
use Rattle.smb_replay.proofs.Shows.{requests_more, requests_all}
use Rattle.smb_replay.proofs.show.put_chain.Goals as goal

pub loop-header-preserved : goal.loop-header-preserved
loop-header-preserved c = requests_more _ _ _ _ c.in-Some.request.now _ _ c.loop-header.invariant (sym c.in-Some.ensures.bytes) c.in_ok-put_request.ensures

pub returns : goal.returns
returns c = requests_all c.args.chain.now _ _ _ c.loop-header.place c.loop-header.invariant (sym c.in_default.ensures.bytes)
