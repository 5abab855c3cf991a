use Rattle.std.proofs.Common.{◌≡◌, List, Some, ap, ◌∙◌}
use Rattle.smb_access.specs.Opens.{open_of}
use Rattle.smb_access.specs.declared.open_row.OpenRow.{OpenRow}
use Rattle.smb_info.specs.Asks.{list_asked}
use Rattle.smb_info.proofs.Refusals.{entry_stands, not_none, by_open_ok, by_open_scan, by_open_lawful, by_open_why}
use Rattle.smb_info.proofs.directory.list.Goals as goal

pub unreachable-requires : goal.unreachable-requires
unreachable-requires g c = not_none c.args.store.now.opens c.args.number (g.O.Opens.content c.opens.result.now) c.opens.ensures (c.in_default.ensures {u = tt}) c.requires

pub unreachable-unreachable : goal.unreachable-unreachable
unreachable-unreachable g c = c.unreachable.result

pub list_of-requires-clause-good : goal.list_of-requires-clause-good
list_of-requires-clause-good g c = rw c.tree.ensures c.good.ensures.tree

pub list_of-requires-clause-lawful : goal.list_of-requires-clause-lawful
list_of-requires-clause-lawful g c = rw c.tree.ensures c.good.ensures.lawful

pub list_of-requires-clause-folder : goal.list_of-requires-clause-folder
list_of-requires-clause-folder g c = entry_stands (g.T.Tree.content c.tree.result.now) c.args.store.now.tree (g.O.Opens.content c.opens.result.now) c.args.store.now.opens c.args.number c.in-Some.row.now c.tree.ensures c.opens.ensures c.good.ensures.present (c.in-Some.ensures {u = tt})

pub returns-clause-ok : goal.returns-clause-ok
returns-clause-ok g c =
    let row : Some c.in-Some.row.now ≡ open_of c.args.store.now.opens c.args.number = c.in-Some.ensures {u = tt} ∙ ap (λ (r : List OpenRow). open_of r c.args.number) c.opens.ensures in
    by_open_ok c.args.store.now c.args.number (list_asked c.args.ask.now) (g.T.Tree.content c.tree.result.now) c.in-Some.row.now c.tree.ensures row c.list_of.result c.args.out.now.items c.list_of.new.out.items c.list_of.ensures.ok

pub returns-clause-scan : goal.returns-clause-scan
returns-clause-scan g c =
    let row : Some c.in-Some.row.now ≡ open_of c.args.store.now.opens c.args.number = c.in-Some.ensures {u = tt} ∙ ap (λ (r : List OpenRow). open_of r c.args.number) c.opens.ensures in
    by_open_scan c.args.store.now c.args.number (list_asked c.args.ask.now) (g.T.Tree.content c.tree.result.now) c.in-Some.row.now c.tree.ensures row c.list_of.result c.list_of.ensures.scan

pub returns-clause-lawful : goal.returns-clause-lawful
returns-clause-lawful g c =
    let row : Some c.in-Some.row.now ≡ open_of c.args.store.now.opens c.args.number = c.in-Some.ensures {u = tt} ∙ ap (λ (r : List OpenRow). open_of r c.args.number) c.opens.ensures in
    by_open_lawful c.args.store.now c.args.number (list_asked c.args.ask.now) (g.T.Tree.content c.tree.result.now) c.in-Some.row.now c.tree.ensures row c.list_of.result c.list_of.ensures.lawful

pub returns-clause-err : goal.returns-clause-err
returns-clause-err g c = c.list_of.ensures.err

pub returns-clause-why : goal.returns-clause-why
returns-clause-why g c =
    let row : Some c.in-Some.row.now ≡ open_of c.args.store.now.opens c.args.number = c.in-Some.ensures {u = tt} ∙ ap (λ (r : List OpenRow). open_of r c.args.number) c.opens.ensures in
    by_open_why c.args.store.now c.args.number (list_asked c.args.ask.now) (g.T.Tree.content c.tree.result.now) c.in-Some.row.now c.tree.ensures row c.list_of.result c.list_of.ensures.why
