use Rattle.std.proofs.Common.{◌≡◌, ℕ, ◌+◌, ◌-◌, ◌^◌, true, false, is_some}
use Rattle.std.specs.FinMap.{get}
use Rattle.std.specs.Option.{option_map_or}
use Rattle.smb_held_files.specs.Held.{is_after}
use Rattle.smb_tree_of_files.specs.Building.{is_one_of}
use Rattle.smb_tree_of_files.proofs.numbers.numbers_of.Given as goal

abbrev pub invariant-loop-number : goal.invariant-loop-number
invariant-loop-number l = (n : ℕ) → is_some (get l.files.entries n) ≡ true → is_after l.last n ≡ false →
    is_one_of l.numbers.items n ≡ true

abbrev pub decreases-loop-number : goal.decreases-loop-number
decreases-loop-number l = option_map_or (λ last. 2 ^ 64 - last) l.last (2 ^ 64 + 1)
