use Rattle.std.proofs.Common.{◌≡◌, ℕ, [], true, is_some, take}
use Rattle.smb_journaled_tree.specs.Slots.{slot_of, is_in, AreDirty}
use Rattle.smb_journaled_tree.proofs.slots.slots_of.Given as goal

abbrev pub invariant-loop-number : goal.invariant-loop-number
invariant-loop-number l = AreDirty l.slots [] × ((q : ℕ) → is_in q (take l.number-index l.numbers) ≡ true → is_some (slot_of l.slots q) ≡ true)
