use Rattle.std.proofs.Common.{sym, ◌∙◌}
use Rattle.smb_session.proofs.Tables.{held_dropped}
use Rattle.smb_session.proofs.Steps.{end_unknown, end_some, end_none, no_sessions_on}
use Rattle.smb_session.proofs.table.Table.end_connection.Goals as goal

pub returns-in-None : goal.returns-in-None
returns-in-None c = rw (← c.self.view_is) (end_unknown _ _ _ c.args.connection c.self.invariant (sym c.in-None.ensures.value))

pub invariant_of-self : goal.invariant_of-self
invariant_of-self c =
    let none = no_sessions_on c.self.inside.index.entries c.self.inside.sessions.entries c.self.inside.next c.args.connection _ c.self.invariant (sym c.in-Some.ensures.value) (sym c.first-least.ensures ∙ c.in-None-least.is) in
    rw c.remove.ensures.entries (held_dropped c.self.inside.index.entries c.self.inside.sessions.entries c.self.inside.next c.args.connection none c.self.invariant)

pub returns-in-Some-least : goal.returns-in-Some-least
returns-in-Some-least c =
    rw (c.end.ensures, ← c.self.view_is)
    (end_some c.self.inside.index.entries c.self.inside.sessions.entries c.self.inside.next c.args.connection _ _ c.self.invariant (sym c.in-Some.ensures.value) (sym c.first-least.ensures ∙ c.in-Some-least.is))

pub returns-in-None-least : goal.returns-in-None-least
returns-in-None-least c =
    let none = no_sessions_on c.self.inside.index.entries c.self.inside.sessions.entries c.self.inside.next c.args.connection _ c.self.invariant (sym c.in-Some.ensures.value) (sym c.first-least.ensures ∙ c.in-None-least.is) in
    rw (← c.self.view_is, c.remove.ensures.entries) (end_none c.self.inside.index.entries c.self.inside.sessions.entries c.self.inside.next c.args.connection c.self.invariant none)
