use Rattle.std.proofs.Common.{◌≡◌, drop, Some}
use Rattle.smb_wire.specs.Paths.{folded_path}
use Rattle.smb_wire.specs.PathViews.{parts_of}
use Rattle.smb_nodes.specs.Nodes.{walk}
use Rattle.smb_nodes.specs.Seen.{heap_of}
use Rattle.smb_nodes.proofs.look.walk_down.Given as goal

abbrev pub invariant-loop-i : goal.invariant-loop-i
invariant-loop-i l =
    walk (heap_of l.nodes) (Some l.slot) (drop l.i (folded_path (parts_of l.path))) ≡ walk (heap_of l.nodes) (Some 0) (folded_path (parts_of l.path))
