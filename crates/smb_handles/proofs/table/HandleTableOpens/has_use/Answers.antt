use Rattle.std.proofs.Common.{ℕ, List, nat_lt, ap, ◌∙◌}
use Rattle.slab.specs.Slab.{get}
use Rattle.smb_access.specs.Sharing.{has_use}
use Rattle.smb_access.specs.declared.open_row.OpenRow.{OpenRow}
use Rattle.smb_handles.specs.Table.{rows_of}
use Rattle.smb_handles.proofs.Used.{some_use}
use Rattle.smb_handles.proofs.table.HandleTableOpens.has_use.Goals as goal

pub returns : goal.returns
returns c =
    c.has.ensures
    ∙ ap (λ (n : ℕ). nat_lt 0 n) (c.self.invariant.counted c.args.entry c.args.kind)
    ∙ some_use (rows_of (get c.self.inside.rows) c.self.inside.index.entries) c.args.entry c.args.kind
    ∙ ap (λ (rows : List OpenRow). has_use rows c.args.entry c.args.kind) c.self.view_is
