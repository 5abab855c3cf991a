use Rattle.std.proofs.Common.{◌≡◌, drop}
use Rattle.smb_wire.specs.Paths.{components, folded_path}
use Rattle.smb_wire.specs.Units.{units_of}
use Rattle.smb_tree.specs.Content.{entry_at}
use Rattle.smb_tree.specs.Plain.{rows_of}
use Rattle.smb_tree.proofs.look.stored_at.Given as goal

abbrev pub invariant-loop-stored : goal.invariant-loop-stored
invariant-loop-stored l = entry_at (rows_of (drop l.stored-index l.entries.items)) (folded_path (components (units_of l.text))) ≡ entry_at (rows_of l.entries.items) (folded_path (components (units_of l.text)))
