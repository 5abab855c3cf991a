use Rattle.std.proofs.Common.{ℕ, if◌then◌else◌, rules, Some, ap, ◌∙◌}
use Rattle.std.specs.BTreeMap.{BTreeMap}
use Rattle.smb_nodes.specs.Nodes.{is_same_component}
use Rattle.smb_nodes.specs.Seen.{Key, named_in}
use Rattle.smb_nodes.proofs.Keyed.{updated}
use Rattle.smb_nodes.proofs.Putting.{on_ok_from}
use Rattle.smb_nodes.proofs.children.put_named.Goals as goal

pub returns-in-Some-clause-ok : goal.returns-in-Some-clause-ok
returns-in-Some-clause-ok c =
    updated c.args.children.now (c.get_mut.follows.lender c.args.child) c.units.result.now c.args.name.now (Some c.args.child) c.units.ensures ((c.get_mut.follows.holds c.args.child).3 (search rules))

pub returns-clause-ok : goal.returns-clause-ok
returns-clause-ok c =
    on_ok_from c.add_named.result c.add_named.ensures.ok (λ put other. put other ∙ ap (λ (m : BTreeMap Key ℕ). if is_same_component c.args.name.now other then Some c.args.child else named_in m other) c.get_mut.follows.holds-at-none)
