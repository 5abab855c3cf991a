use Rattle.smb_session.proofs.Steps.{held_taken, taken_is}
use Rattle.smb_session.proofs.table.Table.end.Goals as goal

pub invariant_of-self : goal.invariant_of-self
invariant_of-self c = rw (c.take_session.ensures.index, c.take_session.ensures.sessions) (held_taken _ _ _ c.args.number c.self.invariant)

pub returns : goal.returns
returns c = rw (← c.self.view_is, c.take_session.ensures.index, c.take_session.ensures.sessions) (taken_is c.self.inside.index.entries c.self.inside.sessions.entries c.self.inside.next c.args.number c.self.inside.next)
