use Rattle.std.proofs.Common.{sym, ap, ◌∙◌}
use Rattle.smb_wire.specs.Paths.{folded_path}
use Rattle.smb_wire.specs.PathViews.{parts_of}
use Rattle.smb_opens.specs.Parts.{has_all_opens, has_all_entries}
use Rattle.smb_opens.specs.Looked.{found_at}
use Rattle.smb_opens.specs.State.{StoreState}
use Rattle.smb_opens.proofs.Passing.{found_is}
use Rattle.smb_opens.proofs.store.Store.find.Goals as goal

pub returns : goal.returns
returns g c =
    let state : StoreState = record { tree = g.T.Tree.content c.self.inside.tree; opens = g.O.Opens.content c.self.inside.opens; locks = c.self.inside.locks; next = c.self.inside.next } in
    found_is state (folded_path (parts_of c.args.path.now)) c.find_with_above-target.result.0 c.find_with_above-target.result.1 c.is_folder_target.result c.is_pending.result c.has_all_opens.result c.has_all_entries.result c.find_with_above-target.ensures.target c.find_with_above-target.ensures.above (c.is_folder_target.ensures ∙ c.find_with_above-target.ensures.reached) c.is_pending.ensures (c.has_all_opens.ensures ∙ ap has_all_opens (sym c.self.view_is)) (c.has_all_entries.ensures ∙ ap has_all_entries (sym c.self.view_is))
    ∙ ap (λ (s : StoreState). found_at s (folded_path (parts_of c.args.path.now))) c.self.view_is
