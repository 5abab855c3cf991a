use Rattle.std.proofs.Common.{◌≡◌, slice_get, filter}
use Rattle.indexmap.specs.IndexMap.{values}
use Rattle.smb_access.specs.Parts.{is_on_entry}
use Rattle.smb_access.proofs.plain.row_on_entry.Given as goal

abbrev pub invariant-loop-row : goal.invariant-loop-row
invariant-loop-row l = record {
  can : (goal.iterator-loop-row).can_next l.row-iterator × (goal.iterator-loop-row).is_finite l.row-iterator;
  left : slice_get (filter (is_on_entry l.entry) l.row-iterator) l.left ≡ slice_get (filter (is_on_entry l.entry) (values l.rows)) l.i;
}
