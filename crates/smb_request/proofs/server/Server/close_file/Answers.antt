use Rattle.std.proofs.Common.{◌≡◌, not, true, is_some, IsSome, sym, subst, ◌∙◌}
use Rattle.smb_access.specs.Opens.{open_of}
use Rattle.smb_access.specs.Parts.{has_number}
use Rattle.smb_opens.proofs.Closing.{opens_closed}
use Rattle.smb_request.proofs.Numbered.{is_there}
use Rattle.smb_request.proofs.Configured.{closed_kept}
use Rattle.smb_request.proofs.Owners.{owned_some}
use Rattle.smb_request.proofs.server.Server.close_file.Goals as goal

pub invariant_of-self : goal.invariant_of-self
invariant_of-self g c =
    let there : is_some (open_of c.self.inside.store.opens c.args.call.open_number) ≡ true =
    is_there _ (subst (λ s. IsSome (open_of s.store.opens c.args.call.open_number)) (sym c.self.view_is) c.requires) in
    rw (c.close-closed.ensures.store, opens_closed c.self.inside.store c.args.call.open_number there)
    (record {
      lawful = c.self.invariant.lawful;
      named = c.self.invariant.named;
      room = closed_kept c.self.inside.store c.args.call.open_number ∙ c.self.invariant.room;
      owned = owned_some c.self.inside.sessions.table (λ row. not (has_number c.args.call.open_number row)) c.self.inside.store.opens c.self.invariant.owned;
    })
