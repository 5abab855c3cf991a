use Rattle.std.proofs.Common.{sym, subst}
use Rattle.std.specs.Option.{option_copied}
use Rattle.std.specs.Map.Iter.{deref_pair}
use Rattle.std.proofs.lemmas.Map.Iter.{rest_more, rest_all}
use Rattle.smb_tree.specs.declared.tree.TheConstants.{CHILDREN_AT_ONCE}
use Rattle.smb_tree.proofs.ChildLists.{has_no_room}
use Rattle.smb_nodes.specs.Nexts.{AreLater}
use Rattle.smb_nodes.specs.Seen.{heap_of}
use Rattle.smb_nodes.proofs.Batches.{none_so_far, more_so_far, all_so_far, full_so_far}
use Rattle.smb_nodes.proofs.next.next_children.Goals as goal

pub loop-later-init : goal.loop-later-init
loop-later-init c =
    none_so_far (heap_of c.args.nodes.now) c.args.among.now (option_copied c.args.after) _ c.range-later.result c.clear.ensures
    (subst (AreLater c.args.among.now (option_copied c.args.after)) (sym (c.range-later.ensures.between tt)) (c.bound_after-begin.ensures c.range-later.ensures.ordered))

pub returns-in_default : goal.returns-in_default
returns-in_default c =
    all_so_far (heap_of c.args.nodes.now) c.args.among.now (option_copied c.args.after) _ c.loop-later.later c.loop-later.invariant c.is_full.ensures.fits
    (rest_all deref_pair c.loop-later.later c.next.new.self c.next.result c.in_default.is c.next.ensures.steps)

pub loop-later-preserved : goal.loop-later-preserved
loop-later-preserved c =
    more_so_far (heap_of c.args.nodes.now) c.args.among.now (option_copied c.args.after) _ _ c.loop-later.later c.next.new.self c.in-Some.field-0-0.now c.in-Some.child.now c.number_or_none.result c.loop-later.invariant
    (rest_more deref_pair c.loop-later.later c.next.new.self c.next.result _ c.in-Some.is c.next.ensures.steps) c.number_or_none.ensures c.push.ensures.items

pub returns : goal.returns
returns c = full_so_far (heap_of c.args.nodes.now) c.args.among.now (option_copied c.args.after) _ c.loop-later.later c.loop-later.invariant (has_no_room _ CHILDREN_AT_ONCE c.is_full.result c.is_full.ensures.value c.loop-later-test.false)
