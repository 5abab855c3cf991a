use Rattle.std.proofs.Common.{length, ap, arith, ◌∙◌}
use Rattle.smb_session.specs.Sessions.{SessionsState}
use Rattle.smb_access.specs.declared.open_row.Owner.TheVariants.{Session}
use Rattle.smb_opens.specs.State.{StoreState}
use Rattle.smb_request.proofs.Configured.{room_of, all_kept}
use Rattle.smb_request.specs.Settings.{settings_within}
use Rattle.smb_request.proofs.Endings.{ended_one, ended_none, ended_same, ended_first, server_one, server_none}
use Rattle.smb_request.proofs.Owners.{owned_same, owned_ended}
use Rattle.smb_request.proofs.server.Server.end_one.Goals as goal

pub returns-in_default-clause-none : goal.returns-in_default-clause-none
returns-in_default-clause-none g c =
    let step = rw c.in_default.is at c.end_connection.ensures.table in
    let none = ended_none c.self.inside.sessions.table c.end_connection.new.self.table c.args.connection step in
    rw (← c.self.view_is)
    (server_none (settings_within c.self.inside.limits c.self.inside.config) c.self.inside.sessions c.end_connection.new.self c.self.inside.store c.args.connection c.end_connection.ensures.kept none.0 none.1)

pub returns-clause-ended : goal.returns-clause-ended
returns-clause-ended g c =
    let one = ended_one c.self.inside.sessions.table c.end_connection.new.self.table c.args.connection c.in-Some.session c.good.ensures c.in-Some.ensures.table in
    rw (← c.self.view_is)
    (server_one (settings_within c.self.inside.limits c.self.inside.config) c.self.inside.sessions c.end_connection.new.self c.self.inside.store c.args.connection c.close_all.new.self c.in-Some.session
    c.end_connection.ensures.kept c.close_all.ensures.store one.0 one.1)

pub returns-clause-fewer : goal.returns-clause-fewer
returns-clause-fewer g c =
    let one = ended_one c.self.inside.sessions.table c.end_connection.new.self.table c.args.connection c.in-Some.session c.good.ensures c.in-Some.ensures.table in
    rw (← c.self.view_is) (omega (arith, ap length one.1))

pub invariant_of-self : goal.invariant_of-self
invariant_of-self g c =
    let step = rw c.in_default.is at c.end_connection.ensures.table in
    record {
      lawful = c.self.invariant.lawful;
      named = ap (λ (s : SessionsState g.row.A.Denot). s.share) c.end_connection.ensures.kept ∙ c.self.invariant.named;
      room = c.self.invariant.room;
      owned = owned_same c.self.inside.sessions.table c.end_connection.new.self.table c.self.inside.store.opens
          (ended_same c.self.inside.sessions.table c.end_connection.new.self.table c.args.connection step) c.self.invariant.owned;
    }

pub invariant_of-self-2 : goal.invariant_of-self-2
invariant_of-self-2 g c =
    rw (c.close_all.ensures.left, ended_first c.self.inside.sessions.table c.end_connection.new.self.table c.args.connection c.in-Some.session c.in-Some.ensures.table)
    (record {
      lawful = c.self.invariant.lawful;
      named = ap (λ (s : SessionsState g.row.A.Denot). s.share) c.end_connection.ensures.kept ∙ c.self.invariant.named;
      room = ap (λ (s : StoreState). room_of s.tree) c.close_all.ensures.store ∙ all_kept c.self.inside.store (Session c.in-Some.session) ∙ c.self.invariant.room;
      owned = owned_ended c.self.inside.sessions.table c.in-Some.session c.self.inside.store.opens c.self.invariant.owned;
    })
