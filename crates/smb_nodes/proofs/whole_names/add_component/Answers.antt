use Rattle.std.proofs.Common.{arith, append_assoc}
use Rattle.std.proofs.lemmas.Grind.{common_steps}
use Rattle.smb_wire.specs.Units.{units_of}
use Rattle.smb_tree.proofs.NewPaths.{bytes_separated}
use Rattle.smb_nodes.proofs.whole_names.add_component.Goals as goal
use Rattle.smb_nodes.proofs.whole_names.add_component.Goals.{then-not-is_first+in_ok-extend_from_slice, else-not-is_first}

pub returns : goal.returns
returns c =
    elim c.if-not-is_first.branch [
      | then-not-is_first+in_ok-extend_from_slice w ↦ grind (arith, common_steps, append_assoc, bytes_separated (units_of c.args.part), w.if-not-is_first.true, w.text-is, w.in_ok-extend_from_slice.ensures.items, c.extend_from_slice-2.ensures.items, c.bytes.ensures.bytes)
      | else-not-is_first w ↦ grind (arith, common_steps, w.if-not-is_first.false, w.text-is, c.extend_from_slice-2.ensures.items, c.bytes.ensures.bytes)
    ]
