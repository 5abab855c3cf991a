-- The scan of a directory through an open of a store ([MS-FSA] 2.1.5.6.3).
use Rattle.std.specs.Prelude.{ℕ, ◌==◌, if◌then◌else◌, map}
use Rattle.smb_access.specs.declared.scan.Scan.{Scan}
use Rattle.smb_opens.specs.State.{StoreState}
use Rattle.smb_access.specs.declared.open_row.OpenRow.{OpenRow}

-- the store with the scan of the open of a number set
abbrev pub scan_set : StoreState → ℕ → Scan → StoreState
scan_set state number scan = record state {
  opens = map (λ (row : OpenRow). if row.number == number then record row { scan = scan } else row) state.opens;
}
