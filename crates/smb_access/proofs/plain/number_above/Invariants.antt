use Rattle.std.proofs.Common.{◌≡◌, drop}
use Rattle.indexmap.specs.IndexMap.{values}
use Rattle.smb_access.specs.Opens.{open_after}
use Rattle.smb_access.proofs.plain.number_above.Given as goal

abbrev pub invariant-loop-place : goal.invariant-loop-place
invariant-loop-place l = open_after (drop l.place (values l.rows)) l.after ≡ open_after (drop l.begin (values l.rows)) l.after
