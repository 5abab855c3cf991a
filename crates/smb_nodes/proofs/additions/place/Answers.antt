use Rattle.std.proofs.Common.{ap, ◌∙◌}
use Rattle.std.specs.Map.{remove_entry}
use Rattle.std.specs.BTreeMap.{is_at}
use Rattle.std.specs.Ordering.{nat_cmp}
use Rattle.smb_nodes.proofs.Indexed.{insert_last, remove_last}
use Rattle.smb_nodes.proofs.Putting.{on_ok, on_err}
use Rattle.smb_nodes.proofs.additions.place.Goals as goal

pub returns-then-is_err-clause-err_index : goal.returns-then-is_err-clause-err_index
returns-then-is_err-clause-err_index c =
    let into = c.in_ok-insert.ensures.entries ∙ insert_last c.args.index.now.entries c.args.node.number c.vacant_key-slot.result c.requires.under in
    on_err c.hang-hung.result (c.remove.ensures.entries ∙ ap (remove_entry (is_at (nat_cmp c.args.node.number))) into ∙ remove_last c.args.index.now.entries c.args.node.number c.vacant_key-slot.result c.requires.under)

pub returns-else-is_err-clause-indexed : goal.returns-else-is_err-clause-indexed
returns-else-is_err-clause-indexed c =
    on_ok c.hang-hung.result (rw (← c.vacant_key-slot.ensures.value) (c.in_ok-insert.ensures.entries ∙ insert_last c.args.index.now.entries c.args.node.number c.vacant_key-slot.result c.requires.under))
