use Rattle.smb_tree_of_files.specs.Building.{LeadsTo}
use Rattle.smb_tree_of_files.proofs.places.add_all.Given as goal

abbrev pub invariant-loop-number : goal.invariant-loop-number
invariant-loop-number l = LeadsTo l.files l.initial.tree l.tree
