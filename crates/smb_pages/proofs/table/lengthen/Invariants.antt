use Rattle.std.proofs.Common.{◌≡◌, ℕ, ◌-◌, ◌≤◌, max, length}
use Rattle.smb_pages.specs.Tables.{room_of, SamePages}
use Rattle.smb_pages.proofs.table.lengthen.Given as goal

abbrev pub invariant-loop-alloc : goal.invariant-loop-alloc
invariant-loop-alloc l =
    SamePages l.fn.table.items l.table.items × ((number : ℕ) → room_of l.table.items number ≡ room_of l.fn.table.items number)
    × (length l.table.items ≤ max (length l.fn.table.items) l.end)

abbrev pub decreases-loop-alloc : goal.decreases-loop-alloc
decreases-loop-alloc l = l.end - length l.table.items
