use Rattle.std.proofs.Common.{ap, ◌∙◌}
use Rattle.smb_access.specs.declared.open_row.Owner.TheVariants.{Tree}
use Rattle.smb_opens.specs.State.{StoreState}
use Rattle.smb_request.proofs.Configured.{room_of, all_kept}
use Rattle.smb_request.proofs.Owners.{owned_untree}
use Rattle.smb_request.proofs.server.Server.disconnect_tree.Goals as goal

pub invariant_of-self-2 : goal.invariant_of-self-2
invariant_of-self-2 g c =
    rw (c.close_all.ensures.left, c.in_ok-tree_disconnect_by_row.ensures.state)
    (record {
      lawful = c.self.invariant.lawful;
      named = c.self.invariant.named;
      room = ap (λ (s : StoreState). room_of s.tree) c.close_all.ensures.store ∙ all_kept c.self.inside.store (Tree c.args.call.ids.session_id c.args.call.ids.tree_id) ∙ c.self.invariant.room;
      owned = owned_untree c.self.inside.sessions.table c.args.call.ids.session_id c.args.call.ids.tree_id c.self.inside.store.opens c.self.invariant.owned;
    })
