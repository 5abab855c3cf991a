use Rattle.std.proofs.Common.{◌≡◌, get_or, sym, ◌∙◌, arith}
use Rattle.smb_wire.specs.Paths.{components, folded_path}
use Rattle.smb_wire.specs.Units.{units_of}
use Rattle.smb_tree.specs.Content.{Path}
use Rattle.smb_tree.proofs.Names.{child_found, child_next}
use Rattle.smb_tree.proofs.children.has_children.Goals as goal

pub returns-then-is_child : goal.returns-then-is_child
returns-then-is_child c =
    let path : Path = folded_path (components (units_of c.args.folder)) in
    let here : c.stored-item.result ≡ get_or c.args.entries.now.items c.loop-stored.stored-index c.stored-item.result = rw (← c.deref-stored-items.ensures.value) c.stored-item.is in
    sym (child_found c.args.entries.now.items c.loop-stored.stored-index c.stored-item.result path (omega arith) here (sym c.is_child.ensures ∙ c.if-is_child.true)) ∙ c.loop-stored.invariant

pub loop-stored-preserved : goal.loop-stored-preserved
loop-stored-preserved c =
    let path : Path = folded_path (components (units_of c.args.folder)) in
    let here : c.stored-item.result ≡ get_or c.args.entries.now.items c.loop-stored.stored-index c.stored-item.result = rw (← c.deref-stored-items.ensures.value) c.stored-item.is in
    child_next c.args.entries.now.items c.loop-stored.stored-index c.stored-item.result path (omega arith) here (sym c.is_child.ensures ∙ c.if-is_child.false) ∙ c.loop-stored.invariant
