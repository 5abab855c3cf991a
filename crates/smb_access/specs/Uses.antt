-- For the proofs; nothing here need be believed.
-- A conflict of opens in two parts, by who keeps whom out.
use Rattle.std.specs.Prelude.{ℕ, Bool, ◌&&◌, List}
use Rattle.std.specs.List.{list_any}
use Rattle.smb_wire.specs.declared.access.Access.{Access}
use Rattle.smb_wire.specs.declared.access.ShareAccess.{ShareAccess}
use Rattle.smb_access.specs.declared.open_row.OpenRow.{OpenRow}
use Rattle.smb_access.specs.Parts.{is_on_entry}
use Rattle.smb_access.specs.Sharing.{is_shared_access, is_kept_out}

-- some open of an entry does not share something that an access has
abbrev pub is_kept_out_by_some : List OpenRow → ℕ → Access → Bool
is_kept_out_by_some opens entry access =
    list_any (λ row. is_on_entry entry row && (is_shared_access row.access && is_kept_out access row.share)) opens

-- some open of an entry has an access that is not shared
abbrev pub keeps_out_some : List OpenRow → ℕ → ShareAccess → Bool
keeps_out_some opens entry share = list_any (λ row. is_on_entry entry row && is_kept_out row.access share) opens
