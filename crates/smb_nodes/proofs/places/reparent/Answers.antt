use Rattle.std.proofs.Common.{◌≡◌, Option, [], ℕ, is_some, sym, ap, ◌∙◌, unwrap_or}
use Rattle.smb_wire.specs.Names.{folded}
use Rattle.smb_wire.specs.Pairs.{units_in}
use Rattle.smb_nodes.specs.declared.node.Node.{Node}
use Rattle.smb_nodes.specs.Nodes.{name_in, name_of_slot}
use Rattle.smb_nodes.specs.Seen.{heap_of, seen}
use Rattle.smb_nodes.proofs.Replacing.{rehung, still}
use Rattle.smb_nodes.proofs.places.reparent.Goals as goal

pub take_child-requires : goal.take_child-requires
take_child-requires c =
    still (heap_of c.args.nodes.now) (heap_of c.put_child.new.nodes) c.args.folder _ _ c.in_ok-put_child.ensures.ok c.folder_of-old_folder.result (ap (λ (s : ℕ). is_some (heap_of c.args.nodes.now s)) c.folder_of-old_folder.ensures ∙ c.requires.around)

pub returns-clause-ok : goal.returns-clause-ok
returns-clause-ok c =
    let name : c.name_of-old_name.result ≡ name_of_slot (heap_of c.args.nodes.now) c.args.slot = c.name_of-old_name.ensures ∙ sym (ap (λ (o : Option Node). unwrap_or (name_in (seen o)) []) c.index.ensures) in
    rehung (heap_of c.args.nodes.now) (heap_of c.put_child.new.nodes) (heap_of c.take_child.new.nodes) (heap_of c.settle.new.nodes) c.args.slot c.args.folder (folded (units_in c.args.spelling.items)) (units_in c.args.spelling.items)
    (rw c.folded_name-name.ensures at c.in_ok-put_child.ensures.ok)
    (rw (c.folder_of-old_folder.ensures, name) at c.take_child.ensures)
    c.settle.ensures
    c.requires.apart
