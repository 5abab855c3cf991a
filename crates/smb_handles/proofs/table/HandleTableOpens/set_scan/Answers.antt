use Rattle.std.proofs.Common.{sym, ap, ◌∙◌}
use Rattle.slab.specs.Slab.{get}
use Rattle.smb_access.specs.Opens.{with_scan}
use Rattle.smb_handles.specs.Groups.{members}
use Rattle.smb_handles.specs.Uses.{counted}
use Rattle.smb_handles.specs.Table.{rows_of}
use Rattle.smb_handles.proofs.Live.{absent_scan, found_none}
use Rattle.smb_handles.proofs.Tables.{rows_set, table_set}
use Rattle.smb_handles.proofs.table.HandleTableOpens.set_scan.Goals as goal

pub returns-in_default : goal.returns-in_default
returns-in_default c =
    rw (← c.self.view_is) (sym (absent_scan (rows_of (get c.self.inside.rows) c.self.inside.index.entries) c.args.number c.args.scan (found_none (get c.self.inside.rows) c.self.inside.index.entries c.args.number c.self.invariant.live (sym c.in_default.ensures.value))))

pub invariant_of-self : goal.invariant_of-self
invariant_of-self c =
    table_set (get c.self.inside.rows) (get c.scan_slot.new.rows) c.self.inside.index.entries c.args.number c.in-Some.slot.now c.args.scan (sym c.in-Some.ensures.value) c.scan_slot.ensures.scan c.scan_slot.ensures.others (members c.self.inside.groups.numbers) (counted c.self.inside.uses.counts) c.self.invariant

pub returns : goal.returns
returns c =
    rows_set (get c.self.inside.rows) (get c.scan_slot.new.rows) c.self.inside.index.entries c.args.number c.in-Some.slot.now c.args.scan (sym c.in-Some.ensures.value) c.scan_slot.ensures.scan c.scan_slot.ensures.others (members c.self.inside.groups.numbers) (counted c.self.inside.uses.counts) c.self.invariant
    ∙ ap (with_scan c.args.number c.args.scan) c.self.view_is
