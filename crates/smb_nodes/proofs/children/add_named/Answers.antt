use Rattle.std.proofs.Common.{Some, ◌∙◌}
use Rattle.std.specs.Box.{boxed_slice_items}
use Rattle.smb_nodes.proofs.Keyed.{updated}
use Rattle.smb_nodes.proofs.children.add_named.Goals as goal

pub returns-clause-ok : goal.returns-clause-ok
returns-clause-ok c =
    updated c.args.children.now c.insert.new.self (boxed_slice_items c.in_ok-key.key) c.args.name.now (Some c.args.child) (c.in_ok-key.ensures.ok ∙ c.units.ensures) c.in_ok-insert.ensures.updates
