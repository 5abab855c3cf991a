-- What an open of a store shows ([MS-FSCC] 2.4.2, 2.4.27).
use Rattle.std.specs.Prelude.{ℕ, List, Option}
use Rattle.std.specs.Option.{option_map_or, option_map, option_and_then}
use Rattle.smb_wire.specs.declared.nt_status.NtStatus.{NtStatus}
use Rattle.smb_wire.specs.declared.nt_status.NtStatus.TheVariants.{FileClosed}
use Rattle.smb_access.specs.declared.view.View.{View}
use Rattle.smb_access.specs.Opens.{open_of}
use Rattle.smb_refusals.specs.Rows.{RefusalRow, first_refusal, StatusRow, first_status}
use Rattle.smb_opens.specs.State.{StoreState}
use Rattle.smb_access.specs.Views.{view_of}
use Rattle.smb_access.specs.declared.open_row.OpenRow.{OpenRow}
use Rattle.smb_tree.specs.Content.{numbered}

-- what the open of a number shows: its entry as it is now, and the access that the open was granted; None where no open
-- has this number
abbrev pub open_view : StoreState → ℕ → Option View
open_view state number = option_and_then
    (λ (row : OpenRow). option_map (λ found. view_of row.access found.1) (numbered state.tree.rows row.entry))
    (open_of state.opens number)

-- why what is asked through the open of a number is refused: by the first row that holds of what the open shows, if any
abbrev pub refusal_through : {R : Type 0} → StoreState → ℕ → (View → List (RefusalRow R)) → Option R
refusal_through state number rows = option_and_then (λ view. first_refusal (rows view)) (open_view state number)

-- the status of what is asked through the open of a number: that of the first row that holds of what the open shows, else
-- SUCCESS; FILE_CLOSED where no open has this number
abbrev pub status_through : StoreState → ℕ → (View → List StatusRow) → NtStatus
status_through state number rows = option_map_or (λ view. first_status (rows view)) (open_view state number) FileClosed
