use Rattle.std.proofs.Common.{◌<◌, ap, arith}
use Rattle.smb_session.proofs.Steps.{held_back, taken_is}
use Rattle.smb_session.proofs.table.Table.withdraw.Goals as goal

pub invariant_of-self : goal.invariant_of-self
invariant_of-self c =
    let n = ap (λ t. t.next) c.self.view_is in
    let more : 1 < c.self.inside.next = omega (arith, c.requires, n) in
    rw (c.take_session.ensures.index, c.take_session.ensures.sessions) (held_back c.self.inside.index.entries c.self.inside.sessions.entries c.self.inside.next more c.self.invariant)

pub returns : goal.returns
returns c = rw (← c.self.view_is, c.take_session.ensures.index, c.take_session.ensures.sessions) (taken_is c.self.inside.index.entries c.self.inside.sessions.entries c.self.inside.next _ _)
