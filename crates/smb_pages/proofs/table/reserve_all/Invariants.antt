use Rattle.std.proofs.Common.{◌≡◌, ℕ, ◌<◌, ◌≤◌, length}
use Rattle.smb_pages.specs.Tables.{room_of, SamePages}
use Rattle.smb_pages.proofs.table.reserve_all.Given as goal

abbrev pub invariant-loop-number : goal.invariant-loop-number
invariant-loop-number l =
    SamePages l.fn.table.items l.table.items × (length l.table.items ≡ length l.fn.table.items)
    × ((number : ℕ) → l.begin ≤ number → number < l.number → 4096 ≤ room_of l.table.items number)
    × ((number : ℕ) → number < l.begin → room_of l.table.items number ≡ room_of l.fn.table.items number)
