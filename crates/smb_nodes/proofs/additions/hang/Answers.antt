use Rattle.std.proofs.Common.{◌≡◌, None, ap, ◌∙◌}
use Rattle.slab.specs.Slab.{Slab, get}
use Rattle.smb_nodes.specs.declared.node.Node.{Node}
use Rattle.smb_nodes.proofs.Putting.{hung, not_root}
use Rattle.smb_nodes.proofs.additions.hang.Goals as goal

pub returns-clause-ok : goal.returns-clause-ok
returns-clause-ok c =
    let old : Slab Node = c.args.nodes.now in
    let mid : Slab Node = c.reserve.new.self in
    let kept : mid ≡ record old { capacity = mid.capacity } = c.reserve.ensures.rest_kept in
    let slots : mid.slots ≡ old.slots = ap (λ (s : Slab Node). s.slots) kept in
    let key : mid.vacant_key ≡ old.vacant_key = ap (λ (s : Slab Node). s.vacant_key) kept in
    let slot : c.vacant_key-slot.result ≡ old.vacant_key = c.vacant_key-slot.ensures.value ∙ key in
    let vacant : get old old.vacant_key ≡ None = rw (← slots, ← slot) c.vacant_key-slot.ensures.vacant in
    let at : c.insert_reserved.result ≡ old.vacant_key = c.insert_reserved.ensures.key ∙ c.in_ok-add_child.ensures.room.vacant_key ∙ key in
    hung old mid c.add_child.new.nodes c.insert_reserved.new.self c.args.node old.vacant_key vacant (not_root old old.vacant_key c.requires.root vacant) slots c.requires.above c.requires.free c.requires.leaf
    (rw (c.name_of.ensures, slot) at c.in_ok-add_child.ensures.ok)
    (rw at at c.insert_reserved.ensures.updates)
