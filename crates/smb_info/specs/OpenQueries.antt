-- What a QUERY_DIRECTORY of an open is answered ([MS-SMB2] 3.3.5.18).
use Rattle.std.specs.Prelude.{◌≡◌, ℕ, List, [], Option, None, Some}
use Rattle.std.specs.Option.{option_map_or}
use Rattle.smb_access.specs.declared.open_row.OpenRow.{OpenRow}
use Rattle.smb_access.specs.declared.scan.Scan.{Scan}
use Rattle.smb_access.specs.Opens.{open_of}
use Rattle.smb_access.specs.declared.scan.ScanLast.TheVariants.{Start}
use Rattle.smb_opens.specs.State.{StoreState}
use Rattle.smb_info.specs.Queries.{ListAsked, list_fault, bytes_listed, scan_after}
use Rattle.smb_info.specs.declared.fault.InfoFault.{InfoFault}
use Rattle.smb_info.specs.declared.fault.InfoFault.TheVariants.{NoMemory}

-- why nothing is listed of the folder of an open, by the open's scan
abbrev pub open_list_fault : StoreState → ℕ → ListAsked → Option InfoFault
open_list_fault store number ask =
    option_map_or (λ (row : OpenRow). list_fault store.tree.rows row.entry row.scan ask) (open_of store.opens number) None

-- the bytes that are listed of it
abbrev pub open_bytes_listed : StoreState → ℕ → ListAsked → List ℕ
open_bytes_listed store number ask =
    option_map_or (λ (row : OpenRow). bytes_listed store.tree.rows row.entry row.scan ask) (open_of store.opens number) []

-- the open's scan afterwards; without an open, the one before any query
abbrev pub open_scan_after : StoreState → ℕ → ListAsked → Scan
open_scan_after store number ask =
    option_map_or
    (λ (row : OpenRow). scan_after store.tree.rows row.entry row.scan ask)
    (open_of store.opens number)
    (record { pattern = None; last = Start })

-- a refusal is the one that the definitions give; memory is wanted only where they give none
abbrev pub IsListRefusal : Option InfoFault → InfoFault → Type 0
IsListRefusal refusal NoMemory = refusal ≡ None
IsListRefusal refusal fault = refusal ≡ Some fault
