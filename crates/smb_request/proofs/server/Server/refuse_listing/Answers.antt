use Rattle.smb_request.proofs.Listings.{owned_scanned}
use Rattle.smb_request.proofs.server.Server.refuse_listing.Goals as goal

pub invariant_of-self : goal.invariant_of-self
invariant_of-self g c = rw c.set_scan.ensures
    (record {
      lawful = c.self.invariant.lawful;
      named = c.self.invariant.named;
      room = c.self.invariant.room;
      owned = owned_scanned c.self.inside.sessions.table c.args.call.open_number c.in-Some.scan c.self.inside.store.opens c.self.invariant.owned;
    })
