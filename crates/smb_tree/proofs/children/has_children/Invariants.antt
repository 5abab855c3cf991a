use Rattle.std.proofs.Common.{◌≡◌, drop}
use Rattle.smb_wire.specs.Paths.{components, folded_path}
use Rattle.smb_wire.specs.Units.{units_of}
use Rattle.smb_tree.specs.Parts.{has_children}
use Rattle.smb_tree.specs.Plain.{rows_of}
use Rattle.smb_tree.proofs.children.has_children.Given as goal

abbrev pub invariant-loop-stored : goal.invariant-loop-stored
invariant-loop-stored l = has_children (rows_of (drop l.stored-index l.entries.items)) (folded_path (components (units_of l.folder))) ≡ has_children (rows_of l.entries.items) (folded_path (components (units_of l.folder)))
