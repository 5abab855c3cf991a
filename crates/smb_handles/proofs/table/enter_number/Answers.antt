use Rattle.std.proofs.Common.{ℕ, List, ap, ◌∙◌}
use Rattle.std.specs.BTreeMap.{is_at}
use Rattle.std.specs.Map.{remove_entry}
use Rattle.std.specs.Ordering.{nat_cmp}
use Rattle.smb_handles.proofs.Noted.{on_err}
use Rattle.smb_handles.proofs.Sets.{insert_entry_last, remove_entry_last}
use Rattle.smb_handles.proofs.table.enter_number.Goals as goal

pub returns-then-is_err-clause-err_index : goal.returns-then-is_err-clause-err_index
returns-then-is_err-clause-err_index c =
    on_err c.note_row-noted.result _
    (c.remove.ensures.entries
    ∙ ap (λ (es : List (ℕ × ℕ)). remove_entry (is_at (nat_cmp c.args.row.now.number)) es) (c.in_ok-insert.ensures.entries ∙ insert_entry_last c.args.index.now.entries c.args.row.now.number c.args.slot c.requires.above)
    ∙ remove_entry_last c.args.index.now.entries c.args.row.now.number c.args.slot c.requires.above)
