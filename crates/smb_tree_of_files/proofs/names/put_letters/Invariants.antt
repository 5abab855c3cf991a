use Rattle.std.proofs.Common.{◌≡◌, ◌+◌, ◌*◌, length}
use Rattle.smb_tree_of_files.proofs.names.put_letters.Given as goal

abbrev pub invariant-loop : goal.invariant-loop
invariant-loop l = length l.name.items ≡ length l.initial.name.items + 2 * l.counter
