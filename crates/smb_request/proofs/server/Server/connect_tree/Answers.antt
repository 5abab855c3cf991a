use Rattle.smb_request.proofs.Owners.{owned_tree}
use Rattle.smb_request.proofs.server.Server.connect_tree.Goals as goal

pub invariant_of-self-2 : goal.invariant_of-self-2
invariant_of-self-2 g c =
    rw c.in_ok-tree_id.ensures.state
    (record {
      lawful = c.self.invariant.lawful;
      named = c.self.invariant.named;
      room = c.self.invariant.room;
      owned = owned_tree c.self.inside.sessions.table c.args.call.ids.session_id c.self.inside.store.opens c.self.invariant.owned;
    })
