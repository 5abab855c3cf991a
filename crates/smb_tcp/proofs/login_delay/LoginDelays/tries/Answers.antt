use Rattle.std.proofs.Common.{◌∙◌, sym, ap, Some}
use Rattle.smb_tcp.proofs.Tries.{tries_at, no_tries}
use Rattle.smb_tcp.proofs.login_delay.LoginDelays.tries.Goals as goal

pub returns-in-Some : goal.returns-in-Some
returns-in-Some c = ap Some c.index.ensures ∙ sym (tries_at c.args.key c.args.self.now.list.items c.in-Some.place c.index.result.now (sym c.in-Some.ensures.place))

pub returns-in-None : goal.returns-in-None
returns-in-None c = sym (no_tries c.args.key c.args.self.now.list.items (sym c.in-None.ensures.place))
