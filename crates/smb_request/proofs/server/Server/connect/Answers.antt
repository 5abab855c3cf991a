use Rattle.smb_request.proofs.Owners.{owned_connected}
use Rattle.smb_request.proofs.server.Server.connect.Goals as goal

pub invariant_of-self-2 : goal.invariant_of-self-2
invariant_of-self-2 g c =
    rw c.in-Ok.ensures.ok
    (record {
      lawful = c.self.invariant.lawful;
      named = c.self.invariant.named;
      room = c.self.invariant.room;
      owned = owned_connected c.self.inside.sessions.table c.args.connection c.self.inside.store.opens c.self.invariant.owned;
    })
