use Rattle.std.proofs.Common.{sym, ap, subst, ◌∙◌}
use Rattle.smb_session.specs.Sessions.{SetupStep}
use Rattle.smb_request.specs.Owners.{AreOwned}
use Rattle.smb_request.specs.Held.{opens_left}
use Rattle.smb_opens.specs.State.{StoreState}
use Rattle.smb_request.proofs.Configured.{room_of, ended_kept}
use Rattle.smb_session.proofs.Steps.{below}
use Rattle.smb_request.proofs.Owners.{owned_setup}
use Rattle.smb_request.proofs.Sessions.{setup-connections}
use Rattle.smb_request.proofs.server.Server.set_up.Goals as goal

pub returns-clause-known : goal.returns-clause-known
returns-clause-known g c = rw (← c.self.view_is) (ap (λ s. s.state.table.connections) c.in_ok-done.ensures.step ∙ setup-connections g.A.Authenticator.meaning c.self.inside.sessions c.args.call.connection c.args.call.ids.session_id c.args.asked.now.previous_session_id c.asks_to_sign-signing_required.result c.args.asked.now.security_buffer.now)

pub invariant_of-self-2 : goal.invariant_of-self-2
invariant_of-self-2 g c =
    let step = c.in_ok-done.ensures.step in
    let owned = owned_setup g.A.Authenticator.meaning c.self.inside.sessions c.args.call.connection c.args.call.ids.session_id c.args.asked.now.previous_session_id c.args.asked.now.flags.0
    c.asks_to_sign-signing_required.result c.args.asked.now.security_buffer.now c.self.inside.store.opens (below c.self.inside.sessions.table.next c.self.inside.sessions.table.sessions c.good.ensures.given) c.in_ok-done.ensures.unrefused c.self.invariant.owned in
    rw c.close_ended.ensures.left
    (record {
      lawful = c.self.invariant.lawful;
      named = ap (λ (s : SetupStep g.row.A.Denot). s.state.share) step ∙ c.self.invariant.named;
      room = ap (λ (s : StoreState). room_of s.tree) c.close_ended.ensures.store ∙ ended_kept c.self.inside.store _ ∙ c.self.invariant.room;
      owned = subst (λ (s : SetupStep g.row.A.Denot). AreOwned s.state.table (opens_left s.told.ended c.self.inside.store.opens)) (sym step) owned;
    })
