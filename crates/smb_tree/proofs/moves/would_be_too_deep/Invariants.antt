use Rattle.std.proofs.Common.{◌≡◌, drop}
use Rattle.smb_wire.specs.Paths.{folded_path}
use Rattle.smb_wire.specs.PathViews.{parts_of}
use Rattle.smb_tree.specs.Parts.{would_be_too_deep}
use Rattle.smb_tree.specs.Plain.{rows_of}
use Rattle.smb_tree.proofs.moves.would_be_too_deep.Given as goal

abbrev pub invariant-loop-stored : goal.invariant-loop-stored
invariant-loop-stored l = would_be_too_deep (rows_of (drop l.stored-index l.entries.items)) (folded_path (parts_of l.from)) (folded_path (parts_of l.to)) ≡ would_be_too_deep (rows_of l.entries.items) (folded_path (parts_of l.from)) (folded_path (parts_of l.to))
