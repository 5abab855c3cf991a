use Rattle.std.proofs.Common.{sym}
use Rattle.smb_tcp.proofs.Tries.{beside_one, beside_none}
use Rattle.smb_tcp.proofs.login_delay.LoginDelays.make_place.Goals as goal

pub returns-in-Some-clause-others : goal.returns-in-Some-clause-others
returns-in-Some-clause-others c = λ other differs. rw c.remove.ensures.items (beside_one c.args.key c.args.self.now.list.items c.in-Some.place c.remove.result (sym c.in-Some.ensures.place) other differs)

pub returns-in-None-clause-others : goal.returns-in-None-clause-others
returns-in-None-clause-others c = λ other differs. rw c.truncate.ensures.items (beside_none c.args.key c.args.self.now.list.items (sym c.in-None.ensures.place) other)
