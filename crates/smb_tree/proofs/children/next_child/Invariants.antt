use Rattle.std.proofs.Common.{◌≡◌}
use Rattle.std.specs.Option.{option_copied}
use Rattle.smb_wire.specs.Paths.{components, folded_path}
use Rattle.smb_wire.specs.Units.{units_of}
use Rattle.smb_tree.proofs.Names.{found_among}
use Rattle.smb_tree.proofs.children.next_child.Given as goal

abbrev pub invariant-loop-stored : goal.invariant-loop-stored
invariant-loop-stored l = l.found ≡ found_among l.entries.items l.stored-index (folded_path (components (units_of l.folder))) (option_copied l.after)
