use Rattle.std.proofs.Common.{◌≡◌, ◌-◌, ◌++◌, take, drop}
use Rattle.smb_wire.specs.PathViews.{parts_of}
use Rattle.smb_wire.specs.Pairs.{AreUnits, unit_bytes}
use Rattle.smb_wire.specs.Paths.{joined_by_separators}
use Rattle.smb_tree.proofs.paths.new_text.Given as goal

abbrev pub invariant-loop-i : goal.invariant-loop-i
invariant-loop-i l = record {
  items : l.text.items ≡ unit_bytes (joined_by_separators (parts_of l.to ++ take (l.i - l.count) (drop l.count (parts_of l.path))));
  units : AreUnits (joined_by_separators (parts_of l.to ++ take (l.i - l.count) (drop l.count (parts_of l.path))));
}
