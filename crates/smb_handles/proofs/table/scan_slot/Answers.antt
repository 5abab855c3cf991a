use Rattle.std.proofs.Common.{sym, ap, ◌∙◌}
use Rattle.std.specs.Option.{option_map}
use Rattle.smb_handles.specs.Table.{scanned}
use Rattle.smb_handles.proofs.Slots.{set_here, set_other}
use Rattle.smb_handles.proofs.table.scan_slot.Goals as goal

pub returns-clause-scan : goal.returns-clause-scan
returns-clause-scan c =
    set_here c.args.rows.now.slots c.args.slot c.in-Some.row.now (scanned c.args.scan c.in-Some.row.now) (sym c.in-Some.ensures.value) ∙ ap (option_map (scanned c.args.scan)) c.in-Some.ensures.value

pub returns-clause-others : goal.returns-clause-others
returns-clause-others c other d = set_other c.args.rows.now.slots c.args.slot (scanned c.args.scan c.in-Some.row.now) other d
