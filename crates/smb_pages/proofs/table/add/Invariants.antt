use Rattle.std.proofs.Common.{◌≡◌, ◌+◌, ◌-◌, ◌≤◌, ◌++◌, map, vec_len, vec_capacity}
use Rattle.std.specs.List.{range_with_len}
use Rattle.smb_pages.specs.Pages.{byte_at}
use Rattle.smb_pages.proofs.table.add.Given as goal

abbrev pub invariant-loop-done : goal.invariant-loop-done
invariant-loop-done l =
    (l.done ≤ l.count) × (l.behind.items ≡ l.initial.behind.items ++ map (byte_at l.table) (range_with_len l.place l.done))
    × (vec_len l.behind + (l.count - l.done) ≤ vec_capacity l.behind)

abbrev pub decreases-loop-done : goal.decreases-loop-done
decreases-loop-done l = l.count - l.done
