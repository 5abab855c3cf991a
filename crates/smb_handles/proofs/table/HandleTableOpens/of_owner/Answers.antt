use Rattle.std.proofs.Common.{ℕ, List, slice_get, ap, ◌∙◌}
use Rattle.slab.specs.Slab.{get}
use Rattle.smb_access.specs.Opens.{first_held_by}
use Rattle.smb_handles.specs.Groups.{group_of, members}
use Rattle.smb_handles.specs.Table.{rows_of}
use Rattle.smb_handles.proofs.Grouped.{owner_first}
use Rattle.smb_handles.proofs.table.HandleTableOpens.of_owner.Goals as goal

pub returns : goal.returns
returns c =
    c.nth.ensures
    ∙ ap (λ (ks : List ℕ). slice_get ks 0) (ap (members c.self.inside.groups.numbers) c.of_owner.ensures ∙ c.self.invariant.grouped (group_of c.args.owner))
    ∙ owner_first c.args.owner (rows_of (get c.self.inside.rows) c.self.inside.index.entries)
    ∙ ap (first_held_by c.args.owner) c.self.view_is
