use Rattle.std.proofs.Common.{ℕ, List, find, nat_lt, ap, ◌∙◌}
use Rattle.slab.specs.Slab.{get}
use Rattle.smb_access.specs.Opens.{open_on_entry_after}
use Rattle.smb_access.specs.declared.open_row.OpenRow.{OpenRow}
use Rattle.smb_handles.specs.declared.key.GroupKey.TheVariants.{Entry}
use Rattle.smb_handles.specs.Table.{rows_of}
use Rattle.smb_handles.proofs.Grouped.{after_in}
use Rattle.smb_handles.proofs.table.HandleTableOpens.on_entry_after.Goals as goal

pub returns : goal.returns
returns c =
    c.after.ensures
    ∙ ap (λ (ks : List ℕ). find (nat_lt c.args.number) ks) (c.self.invariant.grouped (Entry c.args.entry))
    ∙ after_in (rows_of (get c.self.inside.rows) c.self.inside.index.entries) c.args.entry c.args.number
    ∙ ap (λ (rows : List OpenRow). open_on_entry_after rows c.args.entry c.args.number) c.self.view_is
