use Rattle.std.proofs.Common.{◌≡◌, ◌-◌, length, is_some}
use Rattle.smb_changes.specs.Batches.{changes_in}
use Rattle.smb_changes.proofs.read.are_changes.Given as goal

abbrev pub invariant-loop : goal.invariant-loop
invariant-loop l = (l.end ≡ length l.fn.bytes) × (is_some (changes_in (l.end - l.counter) l.rest) ≡ is_some (changes_in (length l.fn.bytes) l.fn.bytes))
