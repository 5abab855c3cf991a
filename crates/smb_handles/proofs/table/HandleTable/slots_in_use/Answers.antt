use Rattle.std.proofs.Common.{List, length, ap, ◌∙◌}
use Rattle.smb_access.specs.declared.open_row.OpenRow.{OpenRow}
use Rattle.smb_handles.proofs.InUse.{as_many_slots}
use Rattle.smb_handles.proofs.table.HandleTable.slots_in_use.Goals as goal

pub returns : goal.returns
returns c =
    c.len.ensures
    ∙ as_many_slots c.self.inside.index.entries c.self.inside.rows.slots c.self.invariant.live c.self.invariant.complete
    ∙ ap (λ (rows : List OpenRow). length rows) c.self.view_is
