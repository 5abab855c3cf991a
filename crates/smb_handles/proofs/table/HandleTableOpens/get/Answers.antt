use Rattle.std.proofs.Common.{sym, ◌∙◌}
use Rattle.slab.specs.Slab.{get}
use Rattle.smb_handles.proofs.Live.{found_none, found_some}
use Rattle.smb_handles.proofs.table.HandleTableOpens.get.Goals as goal

pub returns-in_err-slot : goal.returns-in_err-slot
returns-in_err-slot c =
    rw (← c.self.view_is, c.from_residual.ensures) (sym (found_none (get c.self.inside.rows) c.self.inside.index.entries c.args.number c.self.invariant.live (sym c.in_err-slot.ensures.value)))

pub returns : goal.returns
returns c =
    rw (← c.self.view_is) (c.get-2.ensures ∙ sym (found_some (get c.self.inside.rows) c.self.inside.index.entries c.args.number c.in_ok-slot.field-0.now c.self.invariant.live (sym c.in_ok-slot.ensures.value)))
