use Rattle.std.proofs.Common.{◌≡◌, ℕ, true, take}
use Rattle.smb_tree_of_files.specs.Building.{is_one_of, IsBare}
use Rattle.smb_tree_of_files.proofs.check.check_all.Given as goal

abbrev pub invariant-loop-number : goal.invariant-loop-number
invariant-loop-number l = (n : ℕ) → is_one_of (take l.number-index l.numbers) n ≡ true → IsBare l.files l.tree n
