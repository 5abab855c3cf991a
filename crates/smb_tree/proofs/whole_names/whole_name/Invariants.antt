use Rattle.std.proofs.Common.{◌≡◌, ◌≤◌, ◌-◌, ◌*◌, [], length, take}
use Rattle.smb_wire.specs.PathViews.{parts_of}
use Rattle.smb_wire.specs.Pairs.{unit_bytes}
use Rattle.smb_wire.specs.Paths.{folded_path, joined_by_separators}
use Rattle.smb_tree.specs.Plain.{rows_of}
use Rattle.smb_tree.specs.WholeNames.{spellings_from}
use Rattle.smb_tree.proofs.whole_names.whole_name.Given as goal

abbrev pub invariant-loop-i : goal.invariant-loop-i
invariant-loop-i l = record {
  name : l.name.items ≡ unit_bytes (joined_by_separators (take l.i (spellings_from (rows_of l.entries.items) [] (folded_path (parts_of l.path)))));
  short : length l.name.items ≤ 512 * l.i - 2;
}
