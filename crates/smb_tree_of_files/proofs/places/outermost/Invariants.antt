use Rattle.std.proofs.Common.{◌≡◌, true, is_some, IfSome}
use Rattle.std.specs.FinMap.{get}
use Rattle.smb_tree_of_files.proofs.places.outermost.Given as goal

abbrev pub invariant-loop : goal.invariant-loop
invariant-loop l = IfSome l.found (λ at. is_some (get l.files.entries at) ≡ true)
