use Rattle.std.proofs.Common.{List}
use Rattle.std.specs.Option.{option_copied}
use Rattle.smb_tree.specs.Content.{Row}
use Rattle.smb_tree.specs.declared.tree.TheConstants.{CHILDREN_AT_ONCE}
use Rattle.smb_tree.proofs.ChildLists.{none_first, all_at_once, full_at_once, nobody, nameless, named, has_room, has_no_room}
use Rattle.smb_tree.proofs.tree.Tree.children_after.Goals as goal

pub loop-last-init : goal.loop-last-init
loop-last-init g c =
    none_first (g.Self.Tree.content c.args.self.now).rows c.args.number (option_copied c.args.after) _ CHILDREN_AT_ONCE _ c.clear.ensures c.copied-last.ensures

pub returns-in_default : goal.returns-in_default
returns-in_default g c =
    let rows : List Row = (g.Self.Tree.content c.args.self.now).rows in
    all_at_once rows c.args.number (option_copied c.args.after) _ _ c.loop-last.invariant (nobody rows c.args.number _ _ c.as_ref.ensures.value (c.in_default.ensures {u = tt}))

pub returns-in_default-name : goal.returns-in_default-name
returns-in_default-name g c =
    let rows : List Row = (g.Self.Tree.content c.args.self.now).rows in
    all_at_once rows c.args.number (option_copied c.args.after) _ _ c.loop-last.invariant (nameless rows c.args.number _ _ c.in-Some.child c.as_ref.ensures.value (c.in-Some.ensures {u = tt}) (c.in_default-name.ensures {u = tt}))

pub loop-last-preserved : goal.loop-last-preserved
loop-last-preserved g c =
    named (g.Self.Tree.content c.args.self.now).rows c.args.number (option_copied c.args.after) _ _ _ _ _ c.in-Some.child CHILDREN_AT_ONCE c.loop-last.invariant (has_room _ CHILDREN_AT_ONCE c.is_full.result c.is_full.ensures.value c.is_full.ensures.fits c.loop-last-test.true) c.as_ref.ensures.value (c.in-Some.ensures {u = tt}) (c.in-Some-name.ensures {u = tt}) c.push.ensures.items

pub returns : goal.returns
returns g c =
    full_at_once (g.Self.Tree.content c.args.self.now).rows c.args.number (option_copied c.args.after) _ _ c.loop-last.invariant (has_no_room _ CHILDREN_AT_ONCE c.is_full.result c.is_full.ensures.value c.loop-last-test.false)
