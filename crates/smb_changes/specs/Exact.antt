-- Nothing is read but what was written: bytes have no second spelling.
use Rattle.std.specs.Prelude.{◌≡◌, ℕ, List, ◌++◌, Some}
use Rattle.smb_wire.specs.Number.{IsBytes}
use Rattle.smb_files.specs.Files.{Change}
use Rattle.smb_changes.specs.Batches.{spelled_change, spelled, change_at, batch, batch_at}
use Rattle.smb_changes.specs.Crash.{IsWritable, IsBatch}

-- bytes that are read as a change are those that are written of that change, with what is behind it
abbrev pub OnlyAWrittenChangeIsRead : Type 0
OnlyAWrittenChangeIsRead =
    (bytes rest : List ℕ) (change : Change) → IsBytes bytes → change_at bytes ≡ Some (change, rest) →
    (bytes ≡ spelled_change change ++ rest) × IsWritable change

-- bytes that are read as a batch are those that are written of its changes, with what is behind it
abbrev pub OnlyAWrittenBatchIsRead : Type 0
OnlyAWrittenBatchIsRead =
    (seed number : ℕ) (bytes rest : List ℕ) (changes : List Change) → IsBytes bytes →
    batch_at seed number bytes ≡ Some (changes, rest) →
    (bytes ≡ batch seed number (spelled changes) ++ rest) × IsBatch changes
