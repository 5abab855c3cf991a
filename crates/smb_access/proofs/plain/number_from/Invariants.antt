use Rattle.std.proofs.Common.{◌≡◌, drop}
use Rattle.indexmap.specs.IndexMap.{values}
use Rattle.smb_access.specs.Opens.{open_on_entry_after}
use Rattle.smb_access.proofs.plain.number_from.Given as goal

abbrev pub invariant-loop-place : goal.invariant-loop-place
invariant-loop-place l = open_on_entry_after (drop l.place (values l.rows)) l.entry l.number ≡ open_on_entry_after (drop l.begin (values l.rows)) l.entry l.number
