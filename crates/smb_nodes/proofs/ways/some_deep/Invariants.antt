use Rattle.std.proofs.Common.{◌≡◌, ◌<◌, ℕ, true, false, is_some}
use Rattle.smb_nodes.specs.Seen.{heap_of}
use Rattle.smb_nodes.specs.Ways.{is_deep}
use Rattle.smb_nodes.proofs.ways.some_deep.Given as goal

abbrev pub invariant-loop-slot : goal.invariant-loop-slot
invariant-loop-slot l = (s : ℕ) → s < l.slot → is_some (heap_of l.nodes s) ≡ true → is_deep (heap_of l.nodes) l.top l.count s ≡ false
