-- A batch that changes are added to.
use Rattle.std.specs.Prelude.{ℕ, List, drop}
use Rattle.smb_changes.specs.declared.open_batch.OpenBatch.{OpenBatch}

-- the bytes of its changes: those behind the room for its front
abbrev pub changes_in_batch : OpenBatch → List ℕ
changes_in_batch open_batch = drop 24 open_batch.bytes.items
