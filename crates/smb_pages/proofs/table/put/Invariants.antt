use Rattle.std.proofs.Common.{◌-◌, ◌≤◌, length}
use Rattle.smb_pages.specs.Tables.{IsPut}
use Rattle.smb_pages.proofs.table.put.Given as goal

abbrev pub invariant-loop-done : goal.invariant-loop-done
invariant-loop-done l = (l.done ≤ length l.bytes) × IsPut l.initial.table.items l.table.items l.place l.done l.bytes

abbrev pub decreases-loop-done : goal.decreases-loop-done
decreases-loop-done l = length l.bytes - l.done
