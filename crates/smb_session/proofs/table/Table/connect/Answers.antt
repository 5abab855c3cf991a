use Rattle.std.proofs.Common.{sym, ◌∙◌}
use Rattle.smb_session.proofs.Entries.{keys-known}
use Rattle.smb_session.proofs.Tables.{held_connected}
use Rattle.smb_session.proofs.Steps.{connected_known, connected_new}
use Rattle.smb_session.proofs.table.Table.connect.Goals as goal

pub returns-then-contains_key-clause-ok : goal.returns-then-contains_key-clause-ok
returns-then-contains_key-clause-ok c =
    rw (← c.self.view_is) (connected_known _ _ _ _ (sym (keys-known c.args.connection c.self.inside.index.entries) ∙ sym c.contains_key.ensures ∙ c.if-contains_key.true))

pub invariant_of-self-2 : goal.invariant_of-self-2
invariant_of-self-2 c =
    let absent = sym (keys-known c.args.connection c.self.inside.index.entries) ∙ sym c.contains_key.ensures ∙ c.if-contains_key.false in
    rw c.in_ok-put_connection.ensures.ok (held_connected c.self.inside.index.entries c.self.inside.sessions.entries c.self.inside.next c.args.connection absent c.self.invariant)

pub returns-clause-ok : goal.returns-clause-ok
returns-clause-ok c =
    let absent = sym (keys-known c.args.connection c.self.inside.index.entries) ∙ sym c.contains_key.ensures ∙ c.if-contains_key.false in
    rw (c.in_ok-put_connection.ensures.ok, ← c.self.view_is) (connected_new c.self.inside.index.entries c.self.inside.sessions.entries c.self.inside.next c.args.connection absent)
