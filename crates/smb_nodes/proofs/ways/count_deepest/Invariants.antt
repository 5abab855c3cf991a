use Rattle.std.proofs.Common.{◌≡◌, ◌<◌, ◌≤◌, ℕ, true, is_some, unwrap_or}
use Rattle.smb_nodes.specs.Nodes.{levels}
use Rattle.smb_nodes.specs.Seen.{heap_of}
use Rattle.smb_nodes.specs.Ways.{levels_below}
use Rattle.smb_nodes.proofs.ways.count_deepest.Given as goal

abbrev pub invariant-loop-slot : goal.invariant-loop-slot
invariant-loop-slot l = record {
  few : l.most ≤ 32;
  all : (s : ℕ) → s < l.slot → is_some (heap_of l.nodes s) ≡ true → unwrap_or (levels_below (heap_of l.nodes) levels 0 s) 0 ≤ l.most;
}
