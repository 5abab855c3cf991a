use Rattle.smb_tree_of_files.specs.Building.{LeadsTo}
use Rattle.smb_tree_of_files.proofs.places.place.Given as goal

abbrev pub invariant-loop : goal.invariant-loop
invariant-loop l = LeadsTo l.files l.initial.tree l.tree
