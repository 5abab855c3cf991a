use Rattle.std.proofs.Common.{sym}
use Rattle.smb_session.proofs.Steps.{on_unknown, on_known}
use Rattle.smb_session.proofs.table.Table.of_connection.Goals as goal

pub returns-in-None : goal.returns-in-None
returns-in-None c = rw (← c.self.view_is) (on_unknown _ c.self.inside.sessions.entries c.self.inside.next c.args.connection (sym c.in-None.ensures.value))

pub returns-in-Some : goal.returns-in-Some
returns-in-Some c = rw (← c.self.view_is, c.as_slice.ensures) (on_known _ c.self.inside.sessions.entries c.self.inside.next c.args.connection _ c.self.invariant (sym c.in-Some.ensures.value))
