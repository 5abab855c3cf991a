use Rattle.std.specs.BTreeMap.{IsOrdered}
use Rattle.std.specs.Range.Bound.{bound_map}
use Rattle.smb_nodes.specs.Seen.{key_cmp}
use Rattle.smb_nodes.proofs.Naming.{AreLeft}
use Rattle.smb_nodes.proofs.next.bound_past.Given as goal

abbrev pub invariant-loop-key : goal.invariant-loop-key
invariant-loop-key l = IsOrdered key_cmp l.children → AreLeft l.children l.name (bound_map (λ key. key.now) l.begin) l.key-iterator
