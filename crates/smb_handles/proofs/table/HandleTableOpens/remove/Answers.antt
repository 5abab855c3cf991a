use Rattle.std.proofs.Common.{refl, sym, ap, ◌∙◌}
use Rattle.slab.specs.Slab.{get}
use Rattle.smb_access.specs.Opens.{without_open}
use Rattle.smb_handles.specs.Groups.{members}
use Rattle.smb_handles.specs.Uses.{counted}
use Rattle.smb_handles.specs.Table.{rows_of}
use Rattle.smb_handles.proofs.Live.{absent_without, found_none, holds_some, live_at}
use Rattle.smb_handles.proofs.Tables.{part_counted, rows_less, table_less}
use Rattle.smb_handles.proofs.table.HandleTableOpens.remove.Goals as goal

pub returns-in_default : goal.returns-in_default
returns-in_default c =
    ap (rows_of (get c.self.inside.rows)) c.in_default.ensures.unchanged
    ∙ sym (absent_without (rows_of (get c.self.inside.rows) c.self.inside.index.entries) c.args.number (found_none (get c.self.inside.rows) c.self.inside.index.entries c.args.number c.self.invariant.live (sym c.in_default.ensures.value)))
    ∙ ap (without_open c.args.number) c.self.view_is

pub index-row-requires : goal.index-row-requires
index-row-requires c =
    holds_some (get c.self.inside.rows c.in-Some.slot) c.args.number (live_at (get c.self.inside.rows) c.self.inside.index.entries c.args.number c.in-Some.slot c.self.invariant.live (sym c.in-Some.ensures.value))

pub forget-requires : goal.forget-requires
forget-requires c =
    part_counted (get c.self.inside.rows) (get c.self.inside.rows) c.self.inside.index.entries c.remove.new.self.entries c.args.number c.in-Some.slot c.index-row.result.now (sym c.in-Some.ensures.value) c.index-row.ensures (λ other apart. refl) c.remove.ensures.entries (members c.self.inside.groups.numbers) (counted c.self.inside.uses.counts) c.self.invariant

pub invariant_of-self-2 : goal.invariant_of-self-2
invariant_of-self-2 c =
    table_less (get c.self.inside.rows) (get c.remove-2.new.self) c.self.inside.index.entries c.remove.new.self.entries c.args.number c.in-Some.slot c.index-row.result.now (sym c.in-Some.ensures.value) c.index-row.ensures c.remove-2.ensures.updates.others c.remove.ensures.entries (members c.self.inside.groups.numbers) (members c.forget_row.new.self.numbers) (counted c.self.inside.uses.counts) (counted c.forget.new.self.counts) c.remove-2.ensures.updates.changed c.self.invariant c.forget_row.ensures c.forget.ensures

pub returns : goal.returns
returns c =
    rows_less (get c.self.inside.rows) (get c.remove-2.new.self) c.self.inside.index.entries c.remove.new.self.entries c.args.number c.in-Some.slot c.index-row.result.now (sym c.in-Some.ensures.value) c.index-row.ensures c.remove-2.ensures.updates.others c.remove.ensures.entries (members c.self.inside.groups.numbers) (counted c.self.inside.uses.counts) c.self.invariant
    ∙ ap (without_open c.args.number) c.self.view_is
